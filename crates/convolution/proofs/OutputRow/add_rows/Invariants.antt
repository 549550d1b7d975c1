-- Every output has the taps of the first k rows of the range.
use Prim.Native.Nat.{◌+◌, ◌*◌}
use lib.ListN.{length}
use Rattle.rows.specs.Rows.{Summed}
use Rattle.convolution.specs.Inside.{depth_taps, first_output}
use Rattle.convolution.proofs.OutputRow.add_rows.Given as goal

abbrev pub invariant-loop-k : goal.invariant-loop-k
invariant-loop-k l =
    let s = l.self.tensors.shape in
    Summed (λ x t. depth_taps s l.self.tensors.input.now l.self.tensors.kernel.now l.self.line l.channel l.depth (first_output l.c) x (l.self.line.rows.first * s.x.kernel + t)) (l.k * s.x.kernel) (length l.initial.out) l.initial.out l.out
