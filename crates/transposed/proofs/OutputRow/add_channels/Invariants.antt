-- Every sum has the taps of the first i channels.
use Prim.Native.Nat.{◌*◌}
use Rattle.shape.specs.Volumes.{kernel_rows}
use Rattle.rows.specs.Rows.{Summed}
use Rattle.transposed.specs.Rows.{line_taps}
use Rattle.transposed.proofs.OutputRow.add_channels.Given as goal

abbrev pub invariant-loop-i : goal.invariant-loop-i
invariant-loop-i l =
    let s = l.self.tensors.shape in
    Summed (line_taps s l.self.tensors.input.now l.self.tensors.kernel.now l.self.first) (l.i * (kernel_rows s * s.x.kernel)) s.x.out l.initial.out l.out
