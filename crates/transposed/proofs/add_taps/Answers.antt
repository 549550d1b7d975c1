-- One turn is one tap more for each sum.
use Rattle.rows.proofs.Rows.{summed_start}
use Rattle.transposed.proofs.Lines.{tapped_more}
use Rattle.transposed.proofs.add_taps.Goals as goal

pub loop-k-init : goal.loop-k-init
loop-k-init c = summed_start _ _ _

pub loop-k-preserved : goal.loop-k-preserved
loop-k-preserved c = tapped_more _ _ c.loop-k.invariant c.add_tap.ensures
