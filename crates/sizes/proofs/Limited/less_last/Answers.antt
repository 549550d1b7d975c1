-- The pads are at most the layer's own and a dilated kernel, so the sum does not overflow.
use native.Mathlib.Omega.{arith}
use Rattle.sizes.proofs.Division.{pads_le}
use Rattle.sizes.proofs.Limited.less_last.Goals as goal

pub overflow_add-self : goal.overflow_add-self
overflow_add-self c = let a = c.args.self in rw c.pads-begin.ensures (omega (arith, pads_le a.mode a.axis a.limits))
