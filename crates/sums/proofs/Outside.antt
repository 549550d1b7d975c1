-- Taps outside the input: a sum that starts at +0 is never -0, so adding +0·w to it changes no bit.
use mathlib.Core.Path.{◌≡◌}
use mathlib.Core.Bool.{Bool, true, false, not, ◌&&◌}
use Prim.Native.Nat.{ℕ, zero, suc}
use lib.Dec.{T}
use lib.Ieee.{Float, binary32, fits, mul}
use lib.Ieee.Fits.{add-fits, mul-fits}
use lib.Ieee.Scale.{finite}
use Rattle.tensor.specs.Table.{plus_zero}
use Rattle.sums.specs.Taps.{Factors, none, pair, add_tap, sum_from}
use Rattle.sums.specs.Zero.{is_minus_zero, FromZero}
use Rattle.sums.proofs.Zero.{add_not, add_zero_same, zero_times}

pub zero_from_zero : FromZero plus_zero
unfolding fits is_minus_zero
zero_from_zero = record { held = tt; not_minus = tt }

not_and : (a b : Bool) → T (not a) → T (not (a && b))
not_and false b h = tt
not_and true b h = absurd h

pub tap_from_zero : (sum : Float) (tap : Factors) → FromZero sum → FromZero (add_tap sum tap)
unfolding add_tap
tap_from_zero sum none h = h
tap_from_zero sum (pair x w) h =
    let p = mul binary32 x w in
    record { held = add-fits binary32 sum p; not_minus = add_not binary32 sum p h.held (mul-fits binary32 x w) (not_and (is_minus_zero sum) (is_minus_zero p) h.not_minus) }

pub sum_from_zero : (start : Float) (taps : ℕ → Factors) (n : ℕ) → FromZero start → FromZero (sum_from start taps n)
unfolding sum_from
sum_from_zero start taps zero h = h
sum_from_zero start taps (suc n) h = tap_from_zero (sum_from start taps n) (taps n) (sum_from_zero start taps n h)

-- a sum that starts at +0 is never -0
pub never_minus_zero : (taps : ℕ → Factors) (n : ℕ) → T (not (is_minus_zero (sum_from plus_zero taps n)))
never_minus_zero taps n = (sum_from_zero plus_zero taps n zero_from_zero).not_minus

-- adding +0·w to it changes no bit
pub add_outside : (sum w : Float) → FromZero sum → T (finite w) → add_tap sum (pair plus_zero w) ≡ sum
unfolding add_tap
add_outside sum w h k = let z = zero_times binary32 w k in rw z.1 (add_zero_same binary32 sum z.0 h.held h.not_minus)
