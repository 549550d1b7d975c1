-- Every sum has the taps of the channel's first k kernel rows.
use Prim.Native.Nat.{◌*◌}
use Rattle.rows.specs.Rows.{Summed}
use Rattle.transposed.specs.Rows.{channel_taps}
use Rattle.transposed.proofs.OutputRow.add_channel.Given as goal

abbrev pub invariant-loop-k : goal.invariant-loop-k
invariant-loop-k l =
    let s = l.self.tensors.shape in
    Summed (channel_taps s l.self.tensors.input.now l.self.tensors.kernel.now l.self.first l.i) (l.k * s.x.kernel) s.x.out l.initial.out l.out
