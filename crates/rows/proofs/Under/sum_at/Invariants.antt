-- `total` is the sum of the first k taps.
use Rattle.std.proofs.Common.{◌≡◌}
use Rattle.sums.specs.Taps.{sum_from}
use Rattle.rows.specs.Rows.{across}
use Rattle.rows.proofs.Under.sum_at.Given as goal

abbrev pub invariant-loop-k : goal.invariant-loop-k
invariant-loop-k l = l.total ≡ sum_from l.sum (across l.self.values.now l.self.weights.now l.self.stride l.self.dilation l.x) l.k
