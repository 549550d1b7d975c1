-- The part lies in the kernel by `weights_bounds`.
use native.Mathlib.Nat.{add-sub_cancel_left}
use native.Mathlib.Omega.{arith}
use Rattle.convolution.proofs.Bounds.{weights_bounds}
use Rattle.convolution.proofs.OutputRow.weights_of.Goals as goal

pub overflow_mul-depth : goal.overflow_mul-depth
overflow_mul-depth c =
    let t = c.args.self.now in
    omega (arith, weights_bounds t.tensors.shape t.line c.args.r t.tensors.fitting.shape t.tensors.fitting.kernel_length t.line_of c.requires)

pub overflow_add-depth : goal.overflow_add-depth
overflow_add-depth c =
    let t = c.args.self.now in
    omega (arith, weights_bounds t.tensors.shape t.line c.args.r t.tensors.fitting.shape t.tensors.fitting.kernel_length t.line_of c.requires)

pub overflow_mul-row : goal.overflow_mul-row
overflow_mul-row c =
    let t = c.args.self.now in
    omega (arith, weights_bounds t.tensors.shape t.line c.args.r t.tensors.fitting.shape t.tensors.fitting.kernel_length t.line_of c.requires)

pub overflow_add-row : goal.overflow_add-row
overflow_add-row c =
    let t = c.args.self.now in
    omega (arith, weights_bounds t.tensors.shape t.line c.args.r t.tensors.fitting.shape t.tensors.fitting.kernel_length t.line_of c.requires)

pub overflow_mul-start : goal.overflow_mul-start
overflow_mul-start c =
    let t = c.args.self.now in
    omega (arith, weights_bounds t.tensors.shape t.line c.args.r t.tensors.fitting.shape t.tensors.fitting.kernel_length t.line_of c.requires)

pub overflow_add-start : goal.overflow_add-start
overflow_add-start c =
    let t = c.args.self.now in
    omega (arith, weights_bounds t.tensors.shape t.line c.args.r t.tensors.fitting.shape t.tensors.fitting.kernel_length t.line_of c.requires)

pub overflow_add-end : goal.overflow_add-end
overflow_add-end c =
    let t = c.args.self.now in
    omega (arith, weights_bounds t.tensors.shape t.line c.args.r t.tensors.fitting.shape t.tensors.fitting.kernel_length t.line_of c.requires)

pub offset_bounds-self-start : goal.offset_bounds-self-start
offset_bounds-self-start c =
    let t = c.args.self.now in
    omega (arith, weights_bounds t.tensors.shape t.line c.args.r t.tensors.fitting.shape t.tensors.fitting.kernel_length t.line_of c.requires)

pub slice_bounds-result-end : goal.slice_bounds-result-end
slice_bounds-result-end c =
    let t = c.args.self.now in
    omega (arith, weights_bounds t.tensors.shape t.line c.args.r t.tensors.fitting.shape t.tensors.fitting.kernel_length t.line_of c.requires)

pub returns : goal.returns
returns c =
    let t = c.args.self.now in
    let b = weights_bounds t.tensors.shape t.line c.args.r t.tensors.fitting.shape t.tensors.fitting.kernel_length t.line_of c.requires in
    rw (add-sub_cancel_left, b.number)
