-- `times` meets its contract: caps inside the product are not seen outside.
use native.Mathlib.Omega.{arith}
use native.Mathlib.Nat.{mul-le-mul}
use Rattle.counts.proofs.Capped.{capped_le, capped_both}
use Rattle.counts.proofs.times.Goals as goal

pub overflow_mul-cap : goal.overflow_mul-cap
overflow_mul-cap c = rw (c.cap.ensures, c.cap-2.ensures) (omega (arith, mul-le-mul (capped_le c.args.a) (capped_le c.args.b)))

pub returns : goal.returns
returns c = simp (c.cap-3.ensures, c.cap-2.ensures, c.cap.ensures, capped_both)
