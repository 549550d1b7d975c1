-- A kernel of 32 bits and a dilation of 16 keep the product below 2^64.
use mathlib.Core.Path.{ap}
use Prim.Native.Nat.{ℕ, ◌*◌}
use native.Mathlib.Omega.{arith}
use Rattle.sizes.proofs.Division.{times_le}
use Rattle.taps.proofs.reach.Goals as goal

pub overflow_mul-result : goal.overflow_mul-result
overflow_mul-result c = omega (arith, times_le {a = c.saturating_sub.result} {b = c.args.s.dilation} 4294967295 65535 (omega (arith, c.saturating_sub.ensures)) (omega arith))

pub returns : goal.returns
returns c = ap (λ (n : ℕ). n * c.args.s.dilation) c.saturating_sub.ensures
