-- One turn is one row more for each output; the rows outside the range have no tap inside.
use mathlib.Core.Path.{◌≡◌}
use Prim.Native.Nat.{◌+◌}
use native.Mathlib.Nat.{zero-mul}
use native.Mathlib.Omega.{arith}
use Rattle.taps.proofs.Exact.{exactly_in}
use Rattle.rows.proofs.Rows.{summed_start}
use Rattle.rows.proofs.Ranges.{range_more, range_all}
use Rattle.convolution.specs.Inside.{depth_taps, first_output}
use Rattle.convolution.proofs.Inside.{row_outside}
use Rattle.convolution.proofs.Runs.{columns_within}
use Rattle.convolution.proofs.OutputRow.add_rows.Goals as goal

pub loop-k-init : goal.loop-k-init
loop-k-init c = rw zero-mul (summed_start _ _ _)

pub overflow_add-row : goal.overflow_add-row
overflow_add-row c =
    let t = c.args.self.now in
    omega (arith, (exactly_in t.line_of.rows_are {k = t.line.rows.first + c.loop-k.k} (omega arith) (omega (arith, c.loop-k-test.true))).0, t.tensors.fitting.shape.sound.y.kernel_64)

pub overflow_cast-row : goal.overflow_cast-row
overflow_cast-row c =
    let t = c.args.self.now in
    omega (arith, (exactly_in t.line_of.rows_are {k = t.line.rows.first + c.loop-k.k} (omega arith) (omega (arith, c.loop-k-test.true))).0, t.tensors.fitting.shape.sound.y.kernel_64)

pub add_row-requires-clause-row_in : goal.add_row-requires-clause-row_in
add_row-requires-clause-row_in c =
    let t = c.args.self.now in
    let i = exactly_in t.line_of.rows_are {k = t.line.rows.first + c.loop-k.k} (omega arith) (omega (arith, c.loop-k-test.true)) in
    record { depth = c.requires.depth_in; row_below = i.0; row_inside = i.1 }

pub loop-k-preserved : goal.loop-k-preserved
loop-k-preserved c =
    let t = c.args.self.now in
    let s = t.tensors.shape in
    let l = c.loop-k in
    range_more (depth_taps s t.tensors.input.now t.tensors.kernel.now t.line c.args.channel c.args.depth (first_output c.args.c)) s.x.kernel t.line.rows.first l.k
    l.invariant (rw l.invariant.kept at c.add_row.ensures)

pub returns : goal.returns
returns c =
    let t = c.args.self.now in
    let s = t.tensors.shape in
    let e : c.loop-k.k ≡ t.line.rows.count = omega arith in
    range_all (depth_taps s t.tensors.input.now t.tensors.kernel.now t.line c.args.channel c.args.depth (first_output c.args.c)) s.x.kernel t.line.rows.first t.line_of.rows_are
    (λ x b k p q u v. row_outside s t.tensors.fitting.shape _ _ t.line t.line_of c.args.channel (columns_within s.x c.args.c c.requires.columns_in p) c.requires.depth_in.depth_below q u v)
    (rw e at c.loop-k.invariant)
