-- Every output has the taps of the first k depths of the range.
use Prim.Native.Nat.{◌+◌, ◌*◌}
use lib.ListN.{length}
use Rattle.rows.specs.Rows.{Summed}
use Rattle.places.specs.Taps.{plane_taps}
use Rattle.convolution.specs.Inside.{channel_taps, first_output}
use Rattle.convolution.proofs.OutputRow.add_depths.Given as goal

abbrev pub invariant-loop-k : goal.invariant-loop-k
invariant-loop-k l =
    let s = l.self.tensors.shape in
    Summed (λ x t. channel_taps s l.self.tensors.input.now l.self.tensors.kernel.now l.self.line l.channel (first_output l.c) x (l.self.line.depths.first * plane_taps s + t)) (l.k * plane_taps s) (length l.initial.out) l.initial.out l.out
