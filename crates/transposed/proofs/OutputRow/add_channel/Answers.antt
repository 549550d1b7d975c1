-- One turn is one kernel row more for each sum.
use mathlib.Core.Path.{◌≡◌}
use native.Mathlib.Nat.{zero-mul}
use native.Mathlib.Omega.{arith}
use Rattle.shape.specs.Volumes.{kernel_rows}
use Rattle.rows.proofs.Rows.{summed_start, summed_row}
use Rattle.transposed.proofs.OutputRow.add_channel.Goals as goal

pub loop-k-init : goal.loop-k-init
loop-k-init c = rw zero-mul (summed_start _ _ _)

pub loop-k-preserved : goal.loop-k-preserved
loop-k-preserved c = summed_row _ _ _ c.loop-k.invariant c.add_row.ensures

pub returns : goal.returns
returns c =
    let s = c.args.self.now.tensors.shape in
    let e : c.loop-k.k ≡ kernel_rows s = omega (arith, c.kernel_rows-k-end.ensures) in
    rw e at c.loop-k.invariant
