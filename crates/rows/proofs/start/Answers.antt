-- One more sum.
use Rattle.std.proofs.Common.{arith, ◌∙◌}
use Rattle.tensor.proofs.Table.{filled_none, filled_more}
use Rattle.sums.proofs.Sums.{zero_is}
use Rattle.rows.proofs.start.Goals as goal

pub loop-sum-init : goal.loop-sum-init
loop-sum-init c = filled_none _ _

pub loop-sum-preserved : goal.loop-sum-preserved
loop-sum-preserved c = filled_more _ c.loop-sum.invariant (omega (arith, c.loop-sum.invariant.kept)) (c.add_product.ensures ∙ rw zero_is)
