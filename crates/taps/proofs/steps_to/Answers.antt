-- `steps_to` meets its contract: each return is one case of the definition.
use borrow.Author.Tests.{eq-eqb, ne_eqb}
use Rattle.taps.specs.Taps.{steps_to}
use Rattle.taps.proofs.steps_to.Goals as goal

pub returns-then-distance-eq0 : goal.returns-then-distance-eq0
unfolding steps_to
returns-then-distance-eq0 c = simp (eq-eqb _ _ c.if-step-eq0.true, eq-eqb _ _ c.if-distance-eq0.true)

pub returns-else-distance-eq0 : goal.returns-else-distance-eq0
unfolding steps_to
returns-else-distance-eq0 c = simp (eq-eqb _ _ c.if-step-eq0.true, ne_eqb _ _ c.if-distance-eq0.false)

pub returns-else-step-eq0 : goal.returns-else-step-eq0
unfolding steps_to
returns-else-step-eq0 c = simp (ne_eqb _ _ c.if-step-eq0.false, c.ceil_div.ensures)
