-- The first p outputs have all their taps.
use Prim.Native.Nat.{◌-◌, ◌≤◌}
use lib.ListN.{length}
use Rattle.rows.specs.Rows.{Summed}
use Rattle.convolution.specs.Inside.{line_taps}
use Rattle.convolution.proofs.OutputRow.add_outputs.Given as goal

abbrev pub invariant-loop-p : goal.invariant-loop-p
invariant-loop-p l =
    let t = l.self.tensors in
    record { within : l.p ≤ length l.initial.out; summed : Summed (line_taps t.shape t.input.now t.kernel.now l.self.line.number 0) t.shape.taps l.p l.initial.out l.out }

abbrev pub decreases-loop-p : goal.decreases-loop-p
decreases-loop-p l = length l.initial.out - l.p
