-- The tap's column lies in the row.
use mathlib.Core.Path.{sym, ◌∙◌}
use native.Mathlib.Omega.{arith}
use Rattle.taps.specs.Directions.{forward_below}
use Rattle.taps.proofs.Joins.{below_at}
use Rattle.pooling.proofs.with_tap.Goals as goal

pub offset_bounds-row-c : goal.offset_bounds-row-c
offset_bounds-row-c c =
    let a = c.args in
    omega (arith, below_at _ _ _ (forward_below a.x a.q a.k) (sym c.forward-t.ensures ∙ c.in-Some.is))

pub bounds-row-c : goal.bounds-row-c
bounds-row-c c =
    let a = c.args in
    omega (arith, below_at _ _ _ (forward_below a.x a.q a.k) (sym c.forward-t.ensures ∙ c.in-Some.is))

pub overflow_add-start : goal.overflow_add-start
overflow_add-start c =
    let a = c.args in
    omega (arith, below_at _ _ _ (forward_below a.x a.q a.k) (sym c.forward-t.ensures ∙ c.in-Some.is))
