-- The outputs that the tap reaches are one part of the row (`tap_summed`).
use native.Mathlib.Omega.{arith}
use Rattle.convolution.proofs.Runs.{tap_away, tap_part, tap_summed}
use Rattle.convolution.proofs.RowPair.add_tap.Goals as goal

pub returns-then-count-eq0 : goal.returns-then-count-eq0
returns-then-count-eq0 c =
    let t = c.args.self.now in
    tap_away t.x t.row.now t.weights.now t.fits c.args.k c.requires.1.0 c.outputs_inside-outputs.ensures c.requires.1.1 c.if-count-eq0.true

pub overflow_add-end : goal.overflow_add-end
overflow_add-end c =
    let t = c.args.self.now in
    omega (arith, tap_part t.x t.row.now t.weights.now t.fits c.args.k c.requires.1.0 c.outputs_inside-outputs.ensures c.requires.0 c.requires.1.1 (omega (arith, c.if-count-eq0.false)), t.fits.limits, t.fits.row_is, c.requires)

pub overflow_cast-first : goal.overflow_cast-first
overflow_cast-first c =
    let t = c.args.self.now in
    omega (arith, tap_part t.x t.row.now t.weights.now t.fits c.args.k c.requires.1.0 c.outputs_inside-outputs.ensures c.requires.0 c.requires.1.1 (omega (arith, c.if-count-eq0.false)), t.fits.limits, t.fits.row_is, c.requires)

pub overflow_add-to : goal.overflow_add-to
overflow_add-to c =
    let t = c.args.self.now in
    omega (arith, tap_part t.x t.row.now t.weights.now t.fits c.args.k c.requires.1.0 c.outputs_inside-outputs.ensures c.requires.0 c.requires.1.1 (omega (arith, c.if-count-eq0.false)), c.position_of-from.ensures, t.fits.limits, t.fits.row_is, c.requires)

pub slice_bounds-add_beside-end : goal.slice_bounds-add_beside-end
slice_bounds-add_beside-end c =
    let t = c.args.self.now in
    omega (arith, tap_part t.x t.row.now t.weights.now t.fits c.args.k c.requires.1.0 c.outputs_inside-outputs.ensures c.requires.0 c.requires.1.1 (omega (arith, c.if-count-eq0.false)), c.position_of-from.ensures, t.fits.limits, t.fits.row_is, c.requires)

pub slice_bounds-add_beside-end-2 : goal.slice_bounds-add_beside-end-2
slice_bounds-add_beside-end-2 c =
    let t = c.args.self.now in
    omega (arith, tap_part t.x t.row.now t.weights.now t.fits c.args.k c.requires.1.0 c.outputs_inside-outputs.ensures c.requires.0 c.requires.1.1 (omega (arith, c.if-count-eq0.false)), c.position_of-from.ensures, t.fits.limits, t.fits.row_is, c.requires)

pub returns : goal.returns
returns c =
    let t = c.args.self.now in
    tap_summed t.x t.row.now t.weights.now t.fits c.args.k c.requires.1.0 c.outputs_inside-outputs.ensures c.requires.0 c.requires.1.1 (omega (arith, c.if-count-eq0.false))
    (rw c.position_of-from.ensures at c.add_beside.ensures)
