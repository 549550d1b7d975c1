-- Laws of sums that stand a stride apart: one of them more, and what follows the last.
use mathlib.Core.Path.{◌≡◌, refl, sym, ap, ◌∙◌}
use mathlib.Core.List.{List}
use mathlib.Core.Bool.{Bool, true, false, ◌&&◌, cond}
use Prim.Native.Nat.{ℕ, ◌+◌, ◌-◌, ◌*◌, ◌/◌, ◌%◌, ◌≤◌, ◌<◌, min}
use native.Mathlib.Nat.{mul-mod_left, mul-div_left, le-div_iff_mul-le, div-add-mod', suc-mul}
use native.Mathlib.Numerals.{add-one}
use native.Mathlib.Decide.{dec_le, dec_lt}
use native.Mathlib.Omega.{arith}
use borrow.Author.Tests.{lt-ltb, le-ltb, ne_eqb}
use lib.Dec.{ltb, eqb}
use lib.ListN.{length, take, set}
use lib.Seq.{length-take-le, get_or-take}
use lib.Ieee.{Float, nan}
use Rattle.sizes.specs.Size.{ceil_div}
use Rattle.sizes.proofs.Division.{lt_ceil, stride_some}
use Rattle.tensor.specs.Table.{read}
use Rattle.layer.proofs.Places.{place_mod}
use Rattle.sums.specs.Taps.{none, pair, add_tap}
use Rattle.rows.specs.Rows.{Summed, spread}
use Rattle.rows.proofs.Rows.{sum_one, summed_none, summed_next, summed_skip, summed_whole, summed_same}

module _ (values : List Float) (weight : Float) (stride : ℕ) (s : 1 ≤ stride) where
  -- the sum m strides on takes value m
  at : (m : ℕ) → m < length values → spread values weight stride (m * stride) 0 ≡ pair (read values m) weight
  at m h = rw (lt-ltb 0 stride s, mul-mod_left m stride, mul-div_left m {n = stride} s, lt-ltb m (length values) h) refl

  -- between two of them none does
  between : (m x t : ℕ) → m * stride < x → x < m * stride + stride → spread values weight stride x t ≡ none
  between m x t h k =
      let e : x ≡ m * stride + (x - m * stride) = omega arith in
      let r : x % stride ≡ x - m * stride = ap (λ (n : ℕ). n % stride) e ∙ place_mod m (omega arith) in
      rw (r, ne_eqb (x - m * stride) 0 (λ z. omega arith), lt-ltb 0 stride s) refl

  -- after the last value none does
  past : (x t : ℕ) → length values * stride ≤ x → spread values weight stride x t ≡ none
  past x t h =
      let q : length values ≤ x / stride = (le-div_iff_mul-le s).1 h in
      rw (le-ltb (x / stride) (length values) q, lt-ltb 0 stride s) (go (eqb (x % stride) 0))
    where
      go : (b : Bool) → cond (b && false) (pair (read values (x / stride)) weight) none ≡ none
      go true = refl
      go false = refl

  pub spread_next : {m : ℕ} {before l : List Float} {v : Float} → Summed (spread values weight stride) 1 (m * stride) before l → m < length values → m * stride < length before
      → v ≡ add_tap (read l (m * stride)) (pair (read values m) weight) → Summed (spread values weight stride) 1 ((m + 1) * stride) before (set l (m * stride) v)
  spread_next {m} {before} {l} {v} i h k e =
      rw (add-one m, suc-mul m stride)
      (summed_skip _ 1 (omega arith) (summed_next _ 1 i k (e ∙ ap (add_tap (read l (m * stride))) (sym (at m h)) ∙ sum_one (read l (m * stride)) _)) (λ x t p q r. between m x t (omega arith) q))

  pub spread_all : {before after : List Float} → Summed (spread values weight stride) 1 (length values * stride) before after → Summed (spread values weight stride) 1 (length before) before after
  spread_all {before} {after} i = go (dec_le (length before) (length values * stride))
    where
      go : Dec (length before ≤ length values * stride) → Summed (spread values weight stride) 1 (length before) before after
      go (yes h) = summed_whole _ 1 i h
      go (no h) = summed_skip _ 1 (omega arith) i (λ x t p q r. past x t p)

-- a stride of 0 reaches no sum
pub spread_no : (values : List Float) (weight : Float) (l : List Float) → Summed (spread values weight 0) 1 (length l) l l
spread_no values weight l = summed_skip _ 1 (omega arith) (summed_none _ 1 l) (λ x t p q r. refl)

-- ---- the first n values, which are those that find a sum
module _ (values : List Float) where
  pub spread_within : (sums stride : ℕ) {n : ℕ} → n ≡ min (length values) (ceil_div sums stride) → (m : ℕ) → m < length (take n values) → m * stride < sums
  spread_within sums stride {n} e m h =
      let l : m < n = rw (length-take-le n values (omega arith)) at h in
      let c : m < ceil_div sums stride = omega arith in
      (lt_ceil sums m (stride_some sums stride c)).0 c

  module _ (weight : Float) (stride : ℕ) where
    same : (sums : ℕ) {n : ℕ} → n ≡ min (length values) (ceil_div sums stride) → (x t : ℕ) → x < sums → 1 ≤ stride → spread (take n values) weight stride x t ≡ spread values weight stride x t
    same sums {n} e x t h s = rw (length-take-le n values (omega arith)) (go (dec_lt (x / stride) (length values)))
      where
        reached : x / stride < ceil_div sums stride
        reached = (lt_ceil sums (x / stride) s).1 (omega (arith, div-add-mod' x stride))

        both : (b : Bool) → cond (b && false) (pair (read (take n values) (x / stride)) weight) none ≡ cond (b && false) (pair (read values (x / stride)) weight) none
        both true = refl
        both false = refl

        go : Dec (x / stride < length values) → cond (ltb 0 stride && eqb (x % stride) 0 && ltb (x / stride) n) (pair (read (take n values) (x / stride)) weight) none
            ≡ cond (ltb 0 stride && eqb (x % stride) 0 && ltb (x / stride) (length values)) (pair (read values (x / stride)) weight) none
        go (yes m) =
            let k : x / stride < n = omega (arith, reached) in
            rw (lt-ltb (x / stride) n k, lt-ltb (x / stride) (length values) m, get_or-take n values (x / stride) nan k) refl
        go (no m) =
            let k : n ≤ x / stride = omega arith in
            let j : length values ≤ x / stride = omega arith in
            rw (le-ltb (x / stride) n k, le-ltb (x / stride) (length values) j) (both (ltb 0 stride && eqb (x % stride) 0))

    pub spread_part : {n : ℕ} {l m : List Float} → n ≡ min (length values) (ceil_div (length l) stride) → 1 ≤ stride → Summed (spread (take n values) weight stride) 1 (length l) l m
        → Summed (spread values weight stride) 1 (length l) l m
    spread_part {n} {l} e s i = summed_same i (λ x t p q. same (length l) e x t p s)
