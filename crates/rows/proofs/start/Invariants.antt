-- The first sums are filled.
use Rattle.std.proofs.Common.{length}
use Rattle.tensor.specs.Table.{plus_zero}
use Rattle.tensor.proofs.Table.{Filled}
use Rattle.sums.specs.Taps.{pair, add_tap}
use Rattle.rows.proofs.start.Given as goal

abbrev pub invariant-loop-sum : goal.invariant-loop-sum
invariant-loop-sum l = Filled (λ j. add_tap plus_zero (pair plus_zero l.weight)) (length l.initial.sums) l.sums l.sum-index
