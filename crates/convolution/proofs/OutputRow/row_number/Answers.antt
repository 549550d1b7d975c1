-- The numbers fit by `values_bounds`: the row lies in the input.
use mathlib.Core.Path.{refl}
use native.Mathlib.Omega.{arith}
use Rattle.convolution.proofs.Bounds.{values_bounds}
use Rattle.convolution.proofs.OutputRow.row_number.Goals as goal

pub overflow_add-result : goal.overflow_add-result
overflow_add-result c =
    let t = c.args.self.now in
    let s = t.tensors.shape in
    let f = t.line in
    omega (arith, values_bounds s f c.args.r t.tensors.fitting.shape refl t.line_of c.requires)

pub overflow_mul-result : goal.overflow_mul-result
overflow_mul-result c =
    let t = c.args.self.now in
    let s = t.tensors.shape in
    let f = t.line in
    rw c.input_rows.ensures (omega (arith, values_bounds s f c.args.r t.tensors.fitting.shape refl t.line_of c.requires))

pub overflow_add-result-3 : goal.overflow_add-result-3
overflow_add-result-3 c =
    let t = c.args.self.now in
    let s = t.tensors.shape in
    let f = t.line in
    rw (c.input_rows.ensures, c.position_of-z.ensures, c.position_of-y.ensures) (omega (arith, values_bounds s f c.args.r t.tensors.fitting.shape refl t.line_of c.requires))
