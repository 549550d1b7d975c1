-- In the first depth a row's number is its position on Y.
use mathlib.Core.Path.{◌∙◌}
use Rattle.shape.specs.Volumes.{on_rows}
use Rattle.shape.proofs.Volumes.{first_depth}
use Rattle.shape.proofs.row_tap.Goals as goal

pub returns-then-first : goal.returns-then-first
returns-then-first g c =
    let a = c.args in
    c.tap.ensures ∙ first_depth g.met.D.Direction.laws a.s a.p a.k c.if-first.true

pub returns : goal.returns
unfolding on_rows
returns g c = c.folded_tap.ensures
