-- Every output has the first k taps.
use lib.ListN.{length}
use Rattle.rows.specs.Rows.{Summed}
use Rattle.convolution.specs.Inside.{span_taps}
use Rattle.convolution.proofs.RowPair.add_by_taps.Given as goal

abbrev pub invariant-loop-k : goal.invariant-loop-k
invariant-loop-k l = Summed (span_taps l.self.x l.self.row.now l.self.weights.now) l.k (length l.initial.out) l.initial.out l.out
