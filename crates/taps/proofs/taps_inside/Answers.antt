-- `taps_inside` meets its contract by the law `taps_exact`. Positions of 32 bits and steps of 16 keep every product below 2^64.
use native.Mathlib.Omega.{arith}
use Rattle.sizes.proofs.Division.{times_le}
use Rattle.taps.proofs.Inside.{taps_exact}
use Rattle.taps.proofs.taps_inside.Goals as goal

pub overflow_mul-start : goal.overflow_mul-start
overflow_mul-start c = omega (arith, times_le {a = c.args.p} {b = c.args.s.stride} 4294967295 65535 (omega arith) (omega arith))

pub returns : goal.returns
returns c =
    let a = c.args in
    simp (
      c.saturating_sub-count.ensures,
      c.min-end.ensures,
      c.steps_to-until.ensures,
      c.saturating_sub-2.ensures,
      c.steps_to-first.ensures,
      c.saturating_sub.ensures,
    )
    (taps_exact a.s.input a.s.kernel a.s.stride a.s.dilation a.s.begin a.p (omega arith))
