-- The row lies in the input (`values_bounds`).
use native.Mathlib.Omega.{arith}
use Rattle.convolution.proofs.Bounds.{values_bounds}
use Rattle.convolution.proofs.OutputRow.row_of.Goals as goal

pub overflow_mul-start : goal.overflow_mul-start
overflow_mul-start c =
    let t = c.args.self.now in
    let s = t.tensors.shape in
    let b = values_bounds s t.line c.args.r t.tensors.fitting.shape t.tensors.fitting.input_length t.line_of c.requires in
    omega (arith, c.row_number.ensures, rw (← c.row_number.ensures) at b.end, b.inputs_max)

pub overflow_add-end : goal.overflow_add-end
overflow_add-end c =
    let t = c.args.self.now in
    let s = t.tensors.shape in
    let b = values_bounds s t.line c.args.r t.tensors.fitting.shape t.tensors.fitting.input_length t.line_of c.requires in
    omega (arith, c.row_number.ensures, rw (← c.row_number.ensures) at b.end, b.inputs_max)

pub offset_bounds-self-start : goal.offset_bounds-self-start
offset_bounds-self-start c =
    let t = c.args.self.now in
    let s = t.tensors.shape in
    let b = values_bounds s t.line c.args.r t.tensors.fitting.shape t.tensors.fitting.input_length t.line_of c.requires in
    omega (arith, c.row_number.ensures, rw (← c.row_number.ensures) at b.end, b.inputs_max)

pub slice_bounds-result-end : goal.slice_bounds-result-end
slice_bounds-result-end c =
    let t = c.args.self.now in
    let s = t.tensors.shape in
    let b = values_bounds s t.line c.args.r t.tensors.fitting.shape t.tensors.fitting.input_length t.line_of c.requires in
    omega (arith, c.row_number.ensures, rw (← c.row_number.ensures) at b.end, b.inputs_max)
