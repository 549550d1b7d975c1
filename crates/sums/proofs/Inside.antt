-- Over elements within the limits the sum over all taps is the sum over those inside the input: a sum that starts at +0 is never -0, and so each of the others
-- leaves it as it is (`add_outside`).
use mathlib.Core.Path.{◌≡◌, refl, ap, ◌∙◌}
use mathlib.Core.List.{List}
use Prim.Native.Nat.{ℕ, zero, suc, ◌<◌}
use native.Mathlib.Omega.{arith}
use lib.ListN.{length}
use lib.Ieee.{Float}
use Rattle.tensor.specs.Table.{read, plus_zero}
use Rattle.sums.specs.Taps.{Place, missing, outside, at, none, tap_at, add_tap, sum_from, inside_only, InRange}
use Rattle.sums.specs.Finite.{AllOk}
use Rattle.sums.specs.Zero.{FromZero}
use Rattle.sums.proofs.Finite.{element_finite}
use Rattle.sums.proofs.Outside.{zero_from_zero, sum_from_zero, add_outside}

pub none_same : (sum : Float) → sum ≡ add_tap sum none
unfolding add_tap
none_same sum = refl

module _ (input kernel : List Float) (good : AllOk kernel) where
  -- one tap more
  tap_inside_lem : (sum : Float) (p : Place) → FromZero sum → InRange (length input) (length kernel) p → add_tap sum (tap_at input kernel p) ≡ add_tap sum (tap_at input kernel (inside_only p))
  unfolding tap_at inside_only
  tap_inside_lem sum missing h r = refl
  tap_inside_lem sum (outside b) h r = add_outside sum (read kernel b) h (element_finite (read kernel b) (good b r)) ∙ none_same sum
  tap_inside_lem sum (at a b) h r = refl

  pub sum_inside : (place : ℕ → Place) (n : ℕ) → ((t : ℕ) → t < n → InRange (length input) (length kernel) (place t))
      → sum_from plus_zero (λ t. tap_at input kernel (place t)) n ≡ sum_from plus_zero (λ t. tap_at input kernel (inside_only (place t))) n
  unfolding sum_from
  sum_inside place zero r = refl
  sum_inside place (suc n) r =
      tap_inside_lem (sum_from plus_zero (λ t. tap_at input kernel (place t)) n) (place n) (sum_from_zero plus_zero (λ t. tap_at input kernel (place t)) n zero_from_zero) (r n (omega arith))
      ∙ ap (λ (s : Float). add_tap s (tap_at input kernel (inside_only (place n)))) (sum_inside place n (λ t l. r t (omega arith)))
