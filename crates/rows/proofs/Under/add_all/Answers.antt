-- More taps of each sum.
use Rattle.std.proofs.Common.{arith}
use Rattle.rows.proofs.Rows.{summed_start, summed_more}
use Rattle.rows.proofs.Under.add_all.Goals as goal

pub loop-k-init : goal.loop-k-init
loop-k-init c = (omega arith, summed_start _ _ _)

pub loop-k-preserved-then-self-k-ge3 : goal.loop-k-preserved-then-self-k-ge3
loop-k-preserved-then-self-k-ge3 c = (omega arith, summed_more _ _ 3 c.loop-k.invariant.1 (rw c.loop-k.invariant.1.kept at c.add_some.ensures))

pub loop-k-preserved : goal.loop-k-preserved
loop-k-preserved c = (omega arith, summed_more _ _ 1 c.loop-k.invariant.1 (rw c.loop-k.invariant.1.kept at c.add_some-else-self-k-ge3.ensures))
