-- Position p has a tap inside exactly if it is counted.
use Rattle.std.proofs.Common.{arith, add-one, refl, sym, ◌≡◌}
use Rattle.taps.specs.Taps.{any_below, some_missed}
use Rattle.taps.proofs.Any.{any_some}
use Rattle.taps.proofs.Inside.{missed_none, missed_some}
use Rattle.taps.proofs.some_missed.Goals as goal

pub loop-p-init : goal.loop-p-init
unfolding any_below
loop-p-init c = refl

pub returns-then-taps_inside-eq0 : goal.returns-then-taps_inside-eq0
unfolding some_missed
returns-then-taps_inside-eq0 c =
    let i = rw c.if-taps_inside-eq0.true at c.taps_inside.ensures in
    sym (any_some _ _ c.loop-p.p c.loop-p-test.true (missed_none c.args.s _ _ i))

pub loop-p-preserved : goal.loop-p-preserved
unfolding any_below
loop-p-preserved c = rw (add-one c.loop-p.p, c.loop-p.invariant, missed_some c.args.s _ _ _ c.taps_inside.ensures (omega arith))

pub returns : goal.returns
unfolding some_missed
returns c =
    let e : c.loop-p.p ≡ c.args.s.out = omega arith in
    sym (rw e at c.loop-p.invariant)
