-- One turn is one tap more for each output.
use mathlib.Core.Path.{◌≡◌}
use native.Mathlib.Omega.{arith}
use Rattle.rows.proofs.Rows.{summed_start, summed_more}
use Rattle.convolution.proofs.RowPair.add_by_taps.Goals as goal

pub loop-k-init : goal.loop-k-init
loop-k-init c = summed_start _ _ _

pub loop-k-preserved : goal.loop-k-preserved
loop-k-preserved c =
    let l = c.loop-k in
    summed_more _ l.k 1 l.invariant (rw l.invariant.kept at c.add_tap.ensures)

pub returns : goal.returns
returns c =
    let e : c.loop-k.k ≡ c.args.self.now.x.kernel = omega arith in
    rw e at c.loop-k.invariant
