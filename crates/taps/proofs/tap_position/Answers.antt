-- Positions of 32 bits and steps of 16 keep the sum below 2^64.
use native.Mathlib.Omega.{arith}
use Rattle.sizes.proofs.Division.{times_le}
use Rattle.taps.proofs.tap_position.Goals as goal

pub overflow_mul-result : goal.overflow_mul-result
overflow_mul-result c = omega (arith, times_le {a = c.args.p} {b = c.args.s.stride} 4294967295 65535 (omega arith) (omega arith))

pub overflow_mul-result-2 : goal.overflow_mul-result-2
overflow_mul-result-2 c = omega (arith, times_le {a = c.args.k} {b = c.args.s.dilation} 4294967295 65535 (omega arith) (omega arith))

pub overflow_add-result : goal.overflow_add-result
overflow_add-result c = omega (arith, times_le {a = c.args.p} {b = c.args.s.stride} 4294967295 65535 (omega arith) (omega arith), times_le {a = c.args.k} {b = c.args.s.dilation} 4294967295 65535 (omega arith) (omega arith))
