-- Taps in blocks, of which those of a range of blocks take part and no others: the sums over the range are the sums over all taps.
use mathlib.Core.Path.{◌≡◌, sym, ap, ◌∙◌}
use mathlib.Core.List.{List}
use mathlib.Core.Bool.{Bool, false}
use Prim.Native.Nat.{ℕ, zero, suc, ◌+◌, ◌-◌, ◌*◌, ◌/◌, ◌%◌, ◌≤◌, ◌<◌}
use native.Mathlib.Nat.{add-mul, zero-mul, mul-one, div-add-mod'}
use native.Mathlib.Omega.{arith}
use lib.Ieee.{Float}
use Rattle.layer.proofs.Places.{div_within, mod_within}
use Rattle.taps.specs.Taps.{Exactly}
use Rattle.taps.proofs.Exact.{exactly_end, exactly_before, exactly_behind, exactly_none}
use Rattle.tensor.specs.Table.{read}
use Rattle.sums.specs.Taps.{Factors, none, sum_from}
use Rattle.sums.proofs.Sums.{sum_start, sum_append, sum_none}
use Rattle.rows.specs.Rows.{Summed}
use Rattle.rows.proofs.Rows.{summed_row, summed_same}

-- n blocks of m taps of which none takes part
pub blocks_none : (taps : ℕ → Factors) (n m : ℕ) → ((b t : ℕ) → b < n → t < m → taps (b * m + t) ≡ none) → (t : ℕ) → t < n * m → taps t ≡ none
blocks_none taps n m h t l = ap taps (sym (div-add-mod' t m)) ∙ h (t / m) (t % m) (div_within n m l) (mod_within n m l)

-- the sum over the blocks of a range is the sum over all n blocks
module _ (start : Float) (taps : ℕ → Factors) (m : ℕ) {n first : ℕ} {test : ℕ → Bool} (away : (b t : ℕ) → b < n → t < m → test b ≡ false → taps (b * m + t) ≡ none) where
  pub sum_range : (count : ℕ) → Exactly n test first count → sum_from start (λ t. taps (first * m + t)) (count * m) ≡ sum_from start taps (n * m)
  sum_range zero e =
      rw (zero-mul m) (sum_start start (λ t. taps (first * m + t)))
      ∙ sym (sum_none start taps (n * m) (blocks_none taps n m (λ b t l k. away b t l k (exactly_none e l))))
  sum_range (suc c) e =
      let count = suc c in
      let h : first + count ≤ n = exactly_end e (omega arith) in
      let rest = n - (first + count) in
      let z : n ≡ first + (count + rest) = omega arith in
      let w : n * m ≡ first * m + (count * m + rest * m) = ap (λ (k : ℕ). k * m) z ∙ add-mul first (count + rest) m ∙ ap (λ (k : ℕ). first * m + k) (add-mul count rest m) in
      let before = sum_none start taps (first * m) (blocks_none taps first m (λ b t l k. away b t (omega arith) k (exactly_before e (omega arith) l))) in
      let middle = sum_from start (λ t. taps (first * m + t)) (count * m) in
      let behind = sum_none middle (λ t. taps (first * m + (count * m + t))) (rest * m)
      (blocks_none _ rest m (λ b t l k.
      let y : first * m + (count * m + (b * m + t)) ≡ (first + count + b) * m + t = omega (arith, add-mul (first + count) b m, add-mul first count m) in
      ap taps y ∙ away (first + count + b) t (omega arith) k (exactly_behind e (omega arith) (omega arith)))) in
      sym (ap (sum_from start taps) w ∙ sum_append start taps (first * m) (count * m + rest * m)
      ∙ ap (λ (s : Float). sum_from s (λ t. taps (first * m + t)) (count * m + rest * m)) before
      ∙ sum_append start (λ t. taps (first * m + t)) (count * m) (rest * m) ∙ behind)

-- ---- so for each of some sums

module _ (taps : ℕ → ℕ → Factors) (m first : ℕ) where
  -- a block of the range more
  pub range_more : (j : ℕ) {n : ℕ} {before l o : List Float} → Summed (λ x t. taps x (first * m + t)) (j * m) n before l → Summed (λ x t. taps x ((first + j) * m + t)) m n l o
      → Summed (λ x t. taps x (first * m + t)) ((j + 1) * m) n before o
  range_more j i k =
      summed_row (λ x t. taps x (first * m + t)) j m i
      (summed_same k (λ x t p q. ap (taps x) (let e : (first + j) * m + t ≡ first * m + (j * m + t) = omega (arith, add-mul first j m) in e)))

  -- all blocks
  pub range_all : {k n count : ℕ} {test : ℕ → Bool} {before l : List Float} → Exactly k test first count
      → ((x b t : ℕ) → x < n → b < k → t < m → test b ≡ false → taps x (b * m + t) ≡ none)
      → Summed (λ x t. taps x (first * m + t)) (count * m) n before l → Summed taps (k * m) n before l
  range_all {count = count} {before = before} e h i =
      record {
        kept = i.kept;
        done = λ x p. i.done x p ∙ sum_range (read before x) (taps x) m (λ b t u v w. h x b t p u v w) count e;
        rest = i.rest;
      }

-- a block is one tap
pub range_taps : (taps : ℕ → ℕ → Factors) {k n first count : ℕ} {test : ℕ → ℕ → Bool} {before l : List Float} → ((x : ℕ) → x < n → Exactly k (test x) first count)
    → ((x t : ℕ) → x < n → t < k → test x t ≡ false → taps x t ≡ none)
    → Summed (λ x t. taps x (first + t)) count n before l → Summed taps k n before l
range_taps taps {k} {n} {first} {count} {test} {before} e h i =
    record {
      kept = i.kept;
      done = λ x p. i.done x p ∙ (rw (mul-one, mul-one, mul-one) at (sum_range (read before x) (taps x) 1 (λ b t u v w.
          let z : b * 1 + t ≡ b = omega arith in ap (taps x) z ∙ h x b p u w) count (e x p)));
      rest = i.rest;
    }

-- ---- blocks of blocks of blocks, of which no tap takes part
pub volume_none : (taps : ℕ → Factors) (i z y x : ℕ) → ((c a b k : ℕ) → c < i → a < z → b < y → k < x → taps (c * (z * (y * x)) + (a * (y * x) + (b * x + k))) ≡ none)
    → (t : ℕ) → t < i * (z * (y * x)) → taps t ≡ none
volume_none taps i z y x h =
    blocks_none taps i (z * (y * x)) (λ c t l.
    blocks_none (λ u. taps (c * (z * (y * x)) + u)) z (y * x) (λ a u m.
    blocks_none (λ v. taps (c * (z * (y * x)) + (a * (y * x) + v))) y x (λ b k n. h c a b k l m n) u) t)
