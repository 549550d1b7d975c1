-- At each return the tests passed so far say which case of the definition holds.
use mathlib.Core.Path.{◌≡◌, sym, ◌∙◌}
use mathlib.Core.Bool.{Bool, true, ◌&&◌}
use Rattle.layer.proofs.Tests.{and_both}
use Rattle.sizes.specs.Sizing.{sizing}
use Rattle.sizes.proofs.Limits.{axis_limits, span_limits}
use Rattle.sizes.proofs.size_axis.Goals as goal

ok : {d t x y : Bool} → d ≡ x → t ≡ y → d && t ≡ true → (x ≡ true) × (y ≡ true)
ok p q h = and_both _ _ (rw (← p, ← q) h)

pub returns-then-not-axis_dimensions_ok-axis_attributes_ok : goal.returns-then-not-axis_dimensions_ok-axis_attributes_ok
unfolding sizing
returns-then-not-axis_dimensions_ok-axis_attributes_ok c =
    simp (sym c.axis_dimensions_ok.ensures, sym c.axis_attributes_ok.ensures, c.if-not-axis_dimensions_ok-axis_attributes_ok.true)

pub invariant_of-limited : goal.invariant_of-limited
invariant_of-limited c =
    let a = c.args in
    let o = ok c.axis_dimensions_ok.ensures c.axis_attributes_ok.ensures c.if-not-axis_dimensions_ok-axis_attributes_ok.false in
    record { limits = axis_limits a.op a.auto_pad a.axis o.0 o.1 }

pub returns-then-not-fits : goal.returns-then-not-fits
unfolding sizing
returns-then-not-fits c =
    let o = ok c.axis_dimensions_ok.ensures c.axis_attributes_ok.ensures c.if-not-axis_dimensions_ok-axis_attributes_ok.false in
    simp (o.0, o.1, sym c.fits.ensures, c.if-not-fits.true)

pub span-requires-clause-limits : goal.span-requires-clause-limits
span-requires-clause-limits c =
    let a = c.args in
    let o = ok c.axis_dimensions_ok.ensures c.axis_attributes_ok.ensures c.if-not-axis_dimensions_ok-axis_attributes_ok.false in
    span_limits a.op a.auto_pad a.rounding a.axis o.0 o.1 (sym c.fits.ensures ∙ c.if-not-fits.false)

pub returns : goal.returns
unfolding sizing
returns c =
    let o = ok c.axis_dimensions_ok.ensures c.axis_attributes_ok.ensures c.if-not-axis_dimensions_ok-axis_attributes_ok.false in
    simp (o.0, o.1, sym c.fits.ensures, c.if-not-fits.false, c.span.ensures)
