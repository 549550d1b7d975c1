-- The pads are at most the layer's own and a dilated kernel, so no sum overflows.
use native.Mathlib.Omega.{arith}
use Rattle.sizes.proofs.Division.{pads_le}
use Rattle.sizes.proofs.Limited.padded_size.Goals as goal

pub overflow_add-result : goal.overflow_add-result
overflow_add-result c = let a = c.args.self in rw c.pads-begin.ensures (omega (arith, pads_le a.mode a.axis a.limits))

pub overflow_add-result-2 : goal.overflow_add-result-2
overflow_add-result-2 c = let a = c.args.self in rw c.pads-begin.ensures (omega (arith, pads_le a.mode a.axis a.limits))

pub returns-clause-small : goal.returns-clause-small
returns-clause-small c =
    let a = c.args.self in
    rw c.pads-begin.ensures (omega (arith, pads_le a.mode a.axis a.limits, a.limits.input_4096))
