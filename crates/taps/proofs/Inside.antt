-- The taps inside the input are those from the first on that does not lie before it, up to its end: the law behind `taps_inside`.
use Prim.Native.Nat.{ℕ, zero, suc, ◌+◌, ◌-◌, ◌*◌, ◌≤◌, ◌<◌, min}
use native.Mathlib.Nat.{mul-zero}
use native.Mathlib.Omega.{arith}
use mathlib.Core.Logic.{◌↔◌}
use mathlib.Core.Path.{◌≡◌, refl, ◌∙◌}
use mathlib.Core.Bool.{true, false, not, ◌&&◌, false≢true}
use lib.Dec.{leb, ltb}
use borrow.Author.Tests.{leb-true, ltb-true, le-leb, lt-ltb, ne_eqb}
use Rattle.layer.proofs.Tests.{both_ways, and_both, and_of}
use Rattle.sizes.specs.declared.Span.{Span}
use Rattle.sizes.specs.Size.{ceil_div}
use Rattle.taps.specs.Taps.{inside, tap_inside, reached, Exactly, steps_to}
use Rattle.sizes.proofs.Division.{ceil_le, lt_ceil}
use Rattle.taps.proofs.Any.{any_none, any_some}

-- `steps_to` by cases
steps_none : steps_to 0 0 ≡ 0
unfolding steps_to
steps_none = refl

steps_never : (d : ℕ) → steps_to (suc d) 0 ≡ 4294967295
unfolding steps_to
steps_never d = rw (ne_eqb (suc d) 0 (λ e. omega arith))

steps_ceil : (d s : ℕ) → steps_to d (suc s) ≡ ceil_div d (suc s)
unfolding steps_to
steps_ceil d s = rw (ne_eqb (suc s) 0 (λ e. omega arith))

-- a number of steps, below the number that stands for none, covers the distance exactly if it is at least `steps_to`
pub steps_le : (d s k : ℕ) → k < 4294967295 → (steps_to d s ≤ k) ↔ (d ≤ k * s)
steps_le zero zero k h = (λ p. omega arith, λ p. omega (arith, steps_none))
steps_le (suc d) zero k h = (λ p. absurd (omega (arith, steps_never d)), λ p. absurd (omega (arith, mul-zero k)))
steps_le d (suc s) k h = rw (steps_ceil d s) (ceil_le d k {b = suc s} (omega arith))

pub lt_steps : (d s k : ℕ) → k < 4294967295 → (k < steps_to d s) ↔ (k * s < d)
lt_steps zero zero k h = (λ p. absurd (omega (arith, steps_none)), λ p. absurd (omega arith))
lt_steps (suc d) zero k h = (λ p. omega (arith, mul-zero k), λ p. omega (arith, steps_never d))
lt_steps d (suc s) k h = rw (steps_ceil d s) (lt_ceil d k {b = suc s} (omega arith))

module _ (size kernel stride dilation begin p : ℕ) where
  -- the least tap that does not lie before the input, and how many taps there are up to the input's end
  abbrev pub first_tap : ℕ
  first_tap = steps_to (begin - p * stride) dilation

  abbrev pub end_tap : ℕ
  end_tap = min kernel (steps_to (size + begin - p * stride) dilation)

  pub taps_exact : kernel ≤ 4294967295 → Exactly kernel (λ k. inside begin size (p * stride + k * dilation)) first_tap (end_tap - first_tap)
  taps_exact small = record { exactly = λ k. both_ways _ _ (to k) (from k) }
    where
      to : (k : ℕ) → ltb k kernel && inside begin size (p * stride + k * dilation) ≡ true → leb first_tap k && ltb k (first_tap + (end_tap - first_tap)) ≡ true
      to k h =
          let u = and_both (ltb k kernel) (inside begin size (p * stride + k * dilation)) h in
          let v = and_both (leb begin (p * stride + k * dilation)) (ltb (p * stride + k * dilation - begin) size) u.1 in
          let a = ltb-true k kernel u.0 in
          let b = leb-true begin (p * stride + k * dilation) v.0 in
          let e = ltb-true (p * stride + k * dilation - begin) size v.1 in
          let f = (steps_le (begin - p * stride) dilation k (omega arith)).1 (omega arith) in
          let g = (lt_steps (size + begin - p * stride) dilation k (omega arith)).1 (omega arith) in
          and_of _ _ (le-leb first_tap k f) (lt-ltb k (first_tap + (end_tap - first_tap)) (omega arith))

      from : (k : ℕ) → leb first_tap k && ltb k (first_tap + (end_tap - first_tap)) ≡ true → ltb k kernel && inside begin size (p * stride + k * dilation) ≡ true
      from k h =
          let u = and_both (leb first_tap k) (ltb k (first_tap + (end_tap - first_tap))) h in
          let f = leb-true first_tap k u.0 in
          let l = ltb-true k (first_tap + (end_tap - first_tap)) u.1 in
          let b = (steps_le (begin - p * stride) dilation k (omega arith)).0 f in
          let e = (lt_steps (size + begin - p * stride) dilation k (omega arith)).0 (omega arith) in
          and_of _ _ (lt-ltb k kernel (omega arith))
          (and_of _ _ (le-leb begin (p * stride + k * dilation) (omega arith)) (lt-ltb (p * stride + k * dilation - begin) size (omega arith)))

-- no tap inside: the position is missed
pub missed_none : (s : Span) (p f : ℕ) → Exactly s.kernel (tap_inside s p) f 0 → not (reached s p) ≡ true
unfolding reached
missed_none s p f e = rw (any_none s.kernel (tap_inside s p) none)
  where
    shut : (k : ℕ) → leb f k && ltb k (f + 0) ≡ false
    shut k =
        both_ways _ false
        (λ h. let u = and_both (leb f k) (ltb k (f + 0)) h in absurd (omega (arith, leb-true f k u.0, ltb-true k (f + 0) u.1)))
        (λ h. absurd (false≢true h))

    none : (k : ℕ) → k < s.kernel → tap_inside s p k ≡ false
    none k q = (rw (lt-ltb k s.kernel q) at (e.exactly k)) ∙ shut k

pub missed_some : (s : Span) (p f n : ℕ) → Exactly s.kernel (tap_inside s p) f n → 1 ≤ n → not (reached s p) ≡ false
unfolding reached
missed_some s p f n e h = rw (any_some s.kernel (tap_inside s p) f (ltb-true f s.kernel u.0) u.1)
  where
    u : (ltb f s.kernel ≡ true) × (tap_inside s p f ≡ true)
    u = and_both (ltb f s.kernel) (tap_inside s p f) (e.exactly f ∙ and_of _ _ (le-leb f f (omega arith)) (lt-ltb f (f + n) (omega arith)))
