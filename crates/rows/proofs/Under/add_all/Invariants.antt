-- Every sum has its first k taps.
use Rattle.std.proofs.Common.{◌-◌, ◌≤◌, length}
use Rattle.rows.specs.Rows.{Summed, across}
use Rattle.rows.proofs.Under.add_all.Given as goal

abbrev pub invariant-loop-k : goal.invariant-loop-k
invariant-loop-k l =
    (l.k ≤ length l.self.weights.now) × Summed (across l.self.values.now l.self.weights.now l.self.stride l.self.dilation) l.k (length l.initial.sums) l.initial.sums l.sums

abbrev pub decreases-loop-k : goal.decreases-loop-k
decreases-loop-k l = length l.self.weights.now - l.k
