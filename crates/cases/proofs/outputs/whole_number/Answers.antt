-- `whole_number` meets its contract: a value from 0 to below 2^41 may be cast.
use mathlib.Core.Path.{◌≡◌, refl}
use mathlib.Core.Bool.{Bool, true, false, ◌&&◌}
use lib.Ieee.{Float, le, lt, binary32, of_bits}
use Rattle.std.specs.Float.{float_zero, minus_one, two_to, ◌<ᶠ◌}
use Rattle.std.proofs.Common.{lit<}
use Rattle.std.proofs.lemmas.Float.{lt_of_lt_of_le, lt_trans, le_trans, T_from_true, zero_le_f32_bits, f32_bits_lt_two_to_64}
use Rattle.cases.proofs.outputs.whole_number.Goals as goal

minus_below : minus_one <ᶠ float_zero
unfolding lt
minus_below = tt

castable : (v : Float) (a b c : Bool) → a ≡ le (of_bits binary32 0) v → b ≡ lt v (of_bits binary32 1409286144) → a && b && c ≡ true
    → (minus_one <ᶠ v) × (v <ᶠ two_to 64)
castable v true true c p q e = (
  lt_of_lt_of_le minus_one float_zero v minus_below (le_trans float_zero _ v (zero_le_f32_bits 0 (lit< tt)) (T_from_true _ cc)),
  lt_trans v _ (two_to 64) (T_from_true _ cc) (f32_bits_lt_two_to_64 1409286144 (lit< tt)),
)
castable v true false c p q e = absurd cc
castable v false b c p q e = absurd cc

pub truncating_f32_to_u64-requires : goal.truncating_f32_to_u64-requires
truncating_f32_to_u64-requires c =
    let h = castable c.args.value _ _ _ refl refl c.if-is_whole.true in
    record { lower_bound = h.0; upper_bound = h.1 }
