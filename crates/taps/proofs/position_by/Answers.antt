-- Each return is one case of the definition: a stride of 1, of 0, and any other.
use native.Mathlib.Nat.{mod-one, div-one, mod-zero}
use mathlib.Core.Path.{◌≡◌}
use borrow.Author.Tests.{ne_eqb}
use Rattle.taps.specs.Joins.{position_by}
use Rattle.taps.proofs.position_by.Goals as goal

pub returns-then-stride-eq1 : goal.returns-then-stride-eq1
unfolding position_by
returns-then-stride-eq1 c =
    let e : c.args.stride ≡ 1 = c.if-stride-eq1.true in
    rw e (simp (c.position.ensures, mod-one, div-one))

pub returns-then-distance-eq0 : goal.returns-then-distance-eq0
unfolding position_by
returns-then-distance-eq0 c =
    let a = c.args in
    let e : a.stride ≡ 0 = c.if-stride-eq0.true in
    let d : a.distance ≡ 0 = c.if-distance-eq0.true in
    rw (e, d) (simp c.position-then-distance-eq0.ensures)

pub returns-then-stride-eq0 : goal.returns-then-stride-eq0
unfolding position_by
returns-then-stride-eq0 c =
    let e : c.args.stride ≡ 0 = c.if-stride-eq0.true in
    rw e (simp (mod-zero, ne_eqb _ _ c.if-distance-eq0.false))
