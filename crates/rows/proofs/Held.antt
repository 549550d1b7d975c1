-- Laws of the sums that have all their taps among the values.
use mathlib.Core.Path.{◌≡◌, sym, ap, ◌∙◌}
use mathlib.Core.List.{List, ◌++◌}
use Prim.Native.Nat.{ℕ, ◌+◌, ◌-◌, ◌*◌, ◌≤◌, ◌<◌}
use native.Mathlib.Nat.{mul-le-mul_right, add-mul, zero-add}
use native.Mathlib.Omega.{arith}
use lib.ListN.{length, take, drop, length-drop, length-append}
use lib.Seq.{get_or-drop, get_or-take, length-take-le, take_all}
use lib.Ieee.{Float, nan}
use Rattle.sizes.specs.Size.{ceil_div}
use Rattle.sizes.proofs.Division.{lt_ceil, stride_some}
use Rattle.tensor.specs.Table.{read}
use Rattle.sums.specs.Taps.{Factors, pair}
use Rattle.rows.specs.Rows.{Summed, across, held}
use Rattle.rows.proofs.Rows.{summed_none, summed_part, summed_same}

-- each tap of such a sum lies among the values
pub held_tap : {n : ℕ} (sums values taps stride dilation : ℕ) → n ≤ held sums values taps stride dilation → (x k : ℕ) → x < n → k < taps → x * stride + k * dilation < values
held_tap sums values taps stride dilation h x k l m =
    let c : x < ceil_div (values - (taps - 1) * dilation) stride = omega arith in
    let p = (lt_ceil (values - (taps - 1) * dilation) x (stride_some (values - (taps - 1) * dilation) stride c)).0 c in
    let q : k * dilation ≤ (taps - 1) * dilation = mul-le-mul_right dilation (omega arith) in
    omega arith

-- c taps from tap k on, by the values from the place of tap k on and the weights from weight k on
module _ (values weights : List Float) (stride dilation k c : ℕ) {vs ws : List Float} (ev : vs ≡ take (length values - k * dilation) (drop (k * dilation) values)) (ew : ws ≡ take (k + c - k) (drop k weights)) (h : k + c ≤ length weights) where
  part_place : vs ≡ drop (k * dilation) values
  part_place = ev ∙ take_all (length values - k * dilation) (drop (k * dilation) values) (rw length-drop (omega arith))

  part_weights : ws ≡ take c (drop k weights)
  part_weights = let e : k + c - k ≡ c = omega arith in ew ∙ ap (λ (n : ℕ). take n (drop k weights)) e

  part_size : length ws ≡ c
  part_size = ap length part_weights ∙ length-take-le c (drop k weights) (omega (arith, length-drop k weights))

  pub part_held : {n : ℕ} → ((x j : ℕ) → x < n → j < length weights → x * stride + j * dilation < length values) → (x j : ℕ) → x < n → j < length ws → x * stride + j * dilation < length vs
  part_held held x j l m =
      let place = held x (k + j) l (omega (arith, part_size)) in
      omega (arith, add-mul k j dilation, ap length part_place, length-drop (k * dilation) values)

  pub part_taps : {n : ℕ} {l m : List Float} → Summed (across vs ws stride dilation) (length ws) n l m → Summed (λ x j. across values weights stride dilation x (k + j)) c n l m
  part_taps i =
      summed_same (rw part_size at i) (λ x t p q.
      let e : k * dilation + (x * stride + t * dilation) ≡ x * stride + (k + t) * dilation = omega (arith, add-mul k t dilation) in
      let value : read vs (x * stride + t * dilation) ≡ read values (x * stride + (k + t) * dilation) =
      ap (λ (v : List Float). read v (x * stride + t * dilation)) part_place ∙ get_or-drop (k * dilation) values (x * stride + t * dilation) nan ∙ ap (read values) e in
      let weight : read ws t ≡ read weights (k + t) = ap (λ (v : List Float). read v t) part_weights ∙ get_or-take c (drop k weights) t nan q ∙ get_or-drop k weights t nan in
      λ d. pair (value d) (weight d))

-- the first sums, lent as a part and handed back
pub summed_first : (taps : ℕ → ℕ → Factors) (k : ℕ) {r : ℕ} {sums ys : List Float} → r ≤ length sums → Summed taps k (length (take r sums)) (take r sums) ys → Summed taps k r sums (ys ++ drop r sums)
summed_first taps k {r} {sums} {ys} h i =
    let n : length (take r sums) ≡ r = length-take-le r sums h in
    let j = summed_same {others = λ x. taps (0 + x)} (rw n at i) (λ x j p q. ap (λ (m : ℕ). taps m j) (sym (zero-add x))) in
    rw zero-add at (summed_part taps k 0 r (summed_none taps k sums) (omega arith) j (omega (arith, length-append ys (drop r sums), length-drop r sums, i.kept)))

-- those that have all their taps among the values
module _ (sums values weights : List Float) (stride dilation : ℕ) {r : ℕ} (e : r ≡ held (length sums) (length values) (length weights) stride dilation) where
  pub first_held : (x k : ℕ) → x < length (take r sums) → k < length weights → x * stride + k * dilation < length values
  first_held x k l m = held_tap (length sums) (length values) (length weights) stride dilation (omega arith) x k (rw (length-take-le r sums (omega arith)) at l) m

  pub first_taps : {ys : List Float} → Summed (across values weights stride dilation) (length weights) (length (take r sums)) (take r sums) ys
      → Summed (across values weights stride dilation) (length weights) (held (length sums) (length values) (length weights) stride dilation) sums (ys ++ drop r sums)
  first_taps i = rw (← e) (summed_first (across values weights stride dilation) (length weights) (omega arith) i)
