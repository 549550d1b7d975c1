-- Every output has the taps of the channels before `channel`.
use Prim.Native.Nat.{◌*◌}
use lib.ListN.{length}
use Rattle.shape.specs.Volumes.{kernel_volume}
use Rattle.rows.specs.Rows.{Summed}
use Rattle.convolution.specs.Inside.{line_taps, first_output}
use Rattle.convolution.proofs.OutputRow.add_channels.Given as goal

abbrev pub invariant-loop-channel : goal.invariant-loop-channel
invariant-loop-channel l =
    let s = l.self.tensors.shape in
    Summed (line_taps s l.self.tensors.input.now l.self.tensors.kernel.now l.self.line.number (first_output l.c)) (l.channel * kernel_volume s) (length l.initial.out) l.initial.out l.out
