-- One tap of a kernel row over one row of the input: it reaches outputs a stride apart, and the input positions that it reaches follow one another.
use Rattle.std.specs.Prelude.{None, Option, Some}
use mathlib.Core.Path.{◌≡◌, refl, sym, ◌∙◌}
use mathlib.Core.Bool.{Bool, true, false, cond, ◌&&◌, ◌||◌}
use mathlib.Core.List.{List, ◌++◌}
use Prim.Native.Nat.{ℕ, ◌+◌, ◌-◌, ◌*◌, ◌/◌, ◌%◌, ◌≤◌, ◌<◌}
use native.Mathlib.Nat.{le_refl, add-zero, mul-le-mul, mul-le-mul_right, mul-add-div_right, mul-add-mod_self_right}
use native.Mathlib.Decide.{dec_lt}
use native.Mathlib.Omega.{arith}
use borrow.Author.Tests.{leb-true, leb-false, eqb-true, lt-ltb, le-ltb, le-leb, lt-leb}
use lib.Dec.{leb, ltb, eqb}
use lib.ListN.{length, take, drop, length-drop}
use lib.Seq.{get_or-drop, take_all}
use lib.Ieee.{Float, nan}
use Rattle.layer.proofs.Tests.{or_other, or_neither}
use Rattle.sizes.specs.Size.{ceil_div}
use Rattle.taps.specs.Joins.{position_by, reach_of}
use Rattle.sizes.proofs.Division.{ceil_le, ceil_self}
use Rattle.taps.proofs.Joins.{reach_finds, at_finds}
use Rattle.tensor.specs.Table.{read}
use Rattle.tensor.proofs.Table.{part_length, part_back}
use Rattle.sums.specs.Taps.{Factors, none, pair}
use Rattle.rows.specs.Rows.{Summed, spread}
use Rattle.rows.proofs.Rows.{summed_part, summed_away, summed_same, summed_more}
use Rattle.transposed.specs.Rows.{tap_in, row_tap}

-- what is left where neither of the two lengths is too small
pub both_left : (a b c d : ℕ) → leb a b || leb c d ≡ false → (b ≤ a) × (d ≤ c)
both_left a b c d h = let n = or_neither (leb a b) (leb c d) h in (omega (arith, leb-false a b n.0), omega (arith, leb-false c d n.1))

-- the first input position whose output is not before the row's start
pub cover : (begin back stride : ℕ) {first : ℕ} → 1 ≤ stride → first ≡ ceil_div (begin - back) stride → begin ≤ first * stride + back
cover begin back stride {first} s e = let h = (ceil_le (begin - back) first s).0 (rw e (le_refl _)) in omega arith

-- its numbers are small
pub record TapBounds (begin back stride first : ℕ) : Type 0 where
  pub first_max : first ≤ 1024
  pub product_max : first * stride ≤ 16384
  pub covers : begin ≤ first * stride + back

pub tap_bounds : (begin back stride : ℕ) {first : ℕ} → 1 ≤ stride → stride ≤ 16 → begin ≤ 1024 → first ≡ ceil_div (begin - back) stride → TapBounds begin back stride first
tap_bounds begin back stride {first} s m b e =
    let f : first ≤ 1024 = omega (arith, ceil_self (begin - back) s) in
    record { first_max = f; product_max = mul-le-mul {n₂ = 1024} {m₂ = 16} f m; covers = cover begin back stride s e }

-- tap k of a kernel row more for the first n outputs of a row
abbrev Tapped : List Float → List Float → ℕ → ℕ → ℕ → ℕ → ℕ → List Float → List Float → Type 0
Tapped row weights begin d stride k n l m = Summed (λ x j. row_tap row weights (x + begin) d stride (k + j)) 1 n l m

-- `first` is that position, and lo its output in the row
module _ (row weights : List Float) (begin d stride k : ℕ) {first lo : ℕ} (s : 1 ≤ stride) (ef : first ≡ ceil_div (begin - k * d) stride) (el : lo ≡ first * stride + k * d - begin) where
  -- a tap that reaches an output reaches it from `first` on, so the output stands at lo or after it: where there is none, no sum changes
  unreached : (n : ℕ) {l : List Float} → ((x i : ℕ) → x < n → first ≤ i → i < length row → lo ≤ x → ⊥) → Tapped row weights begin d stride k n l l
  unfolding row_tap tap_in
  unreached n h = summed_away (λ x t p q. let z : k + t ≡ k = omega arith in rw z (go x p (reach_of (length row) d stride (x + begin) k) refl))
    where
      go : (x : ℕ) → x < n → (t : Option ℕ) → t ≡ reach_of (length row) d stride (x + begin) k → tap_in t (λ i. pair (read row i) (read weights k)) ≡ none
      go x p (Some i) e =
          let u = at_finds (length row) _ (reach_of (length row) d stride (x + begin) k) i (reach_finds (length row) d stride (x + begin) k s) (sym e) in
          let r = eqb-true (i * stride + k * d) (x + begin) u.1 in
          let f : first ≤ i = rw ef ((ceil_le (begin - k * d) i s).1 (omega arith)) in
          absurd (h x i p f u.0 (omega (arith, mul-le-mul_right stride f)))
      go x p None e = refl

  -- no output is reached of a row that ends at lo or before it, or from an input that ends at `first` or before it
  pub tap_away : {l : List Float} → leb (length row) first || leb (length l) lo ≡ true → Tapped row weights begin d stride k (length l) l l
  tap_away {l} h = unreached (length l) (λ x i p a b m. omega (arith, leb-true (length l) lo (or_other _ _ h (lt-leb (length row) first (omega arith)))))

  -- output lo + x is reached where the stride divides x, from `first` and as many positions more
  spread_tap : (x : ℕ) → spread (drop first row) (read weights k) stride x 0 ≡ row_tap row weights (lo + x + begin) d stride k
  unfolding row_tap tap_in reach_of position_by
  spread_tap x =
      let c = cover begin (k * d) stride s ef in
      let z : lo + x + begin - k * d ≡ first * stride + x = omega arith in
      rw (lt-ltb 0 stride s, le-leb (k * d) (lo + x + begin) (omega arith), z, mul-add-mod_self_right first stride x, mul-add-div_right s first x, length-drop first row, get_or-drop first row (x / stride) nan)
      (go (eqb (x % stride) 0) (dec_lt (first + x / stride) (length row)))
    where
      go : (b : Bool) → Dec (first + x / stride < length row) → cond (b && ltb (x / stride) (length row - first)) (pair (read row (first + x / stride)) (read weights k)) none
          ≡ tap_in (cond b (cond (ltb (first + x / stride) (length row)) (Some (first + x / stride)) None) None) (λ i. pair (read row i) (read weights k))
      go false h = refl
      go true (yes h) = rw (lt-ltb (first + x / stride) (length row) h, lt-ltb (x / stride) (length row - first) (omega arith))
      go true (no h) = rw (le-ltb (first + x / stride) (length row) (omega arith), le-ltb (x / stride) (length row - first) (omega arith))

  -- so the values from `first` on, spread over the outputs from lo on, are this tap for every output of the row
  pub tap_spread : {l ys : List Float} → lo ≤ length l → let n = length l - lo in
      Summed (spread (take (length row - first) (drop first row)) (read weights k) stride) 1 (length (take n (drop lo l))) (take n (drop lo l)) ys
      → Tapped row weights begin d stride k (length l) l (take lo l ++ (ys ++ drop n (drop lo l)))
  tap_spread {l} {ys} h i =
      let n = length l - lo in
      let z : lo + n ≡ length l = omega arith in
      let j = rw (part_length l lo n (omega arith), take_all (length row - first) (drop first row) (omega (arith, length-drop first row))) at i in
      let m = summed_same {others = λ x t. row_tap row weights (lo + x + begin) d stride (k + t)} j (λ x t p q. let z : t ≡ 0 = omega arith in rw (z, add-zero k) (spread_tap x)) in
      rw z at (summed_part _ 1 lo n (unreached lo (λ x i p a b m. omega arith)) (omega arith) m (part_back l ys lo n (omega arith) (i.kept ∙ part_length l lo n (omega arith))))

-- one tap more for every output of a row
pub tapped_more : (taps : ℕ → ℕ → Factors) (k : ℕ) {before l o : List Float} → Summed taps k (length before) before l → Summed (λ x j. taps x (k + j)) 1 (length l) l o
    → Summed taps (k + 1) (length before) before o
tapped_more taps k i j = summed_more taps k 1 i (rw i.kept at j)
