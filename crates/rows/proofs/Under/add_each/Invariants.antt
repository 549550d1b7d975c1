-- The first x sums have all their taps.
use Rattle.std.proofs.Common.{length}
use Rattle.rows.specs.Rows.{Summed, across}
use Rattle.rows.proofs.Under.add_each.Given as goal

abbrev pub invariant-loop-x : goal.invariant-loop-x
invariant-loop-x l =
    Summed (across l.self.values.now l.self.weights.now l.self.stride l.self.dilation) (length l.self.weights.now) l.x l.initial.sums l.sums
