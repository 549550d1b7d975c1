-- A kernel row that reaches a row of the input adds its taps over the parts of the two tensors; one that does not adds nothing.
use mathlib.Core.Path.{refl, sym, ap, ◌∙◌}
use Prim.Native.Nat.{ℕ, ◌+◌, ◌*◌}
use native.Mathlib.Omega.{arith}
use Rattle.transposed.specs.Rows.{row_of}
use Rattle.transposed.proofs.Bounds.{row_reached}
use Rattle.transposed.proofs.Rows.{row_taps_lem, row_away, row_of_length}
use Rattle.transposed.proofs.OutputRow.add_row.Goals as goal

pub returns-in_default : goal.returns-in_default
returns-in_default c =
    let t = c.args.self.now.tensors in
    row_away t.shape t.input.now t.kernel.now c.args.self.now.first c.args.i c.requires.row.1.0 (sym c.in_default.is ∙ c.row_tap-tap.ensures)

pub overflow_add-f : goal.overflow_add-f
overflow_add-f c =
    let t = c.args.self.now.tensors in
    omega (arith, row_reached t.shape c.args.self.now.first t.input.now t.kernel.now t.fitting c.args.self.now.within c.requires.row c.row_tap-tap.ensures c.in-Some.is refl refl)

pub overflow_mul-f : goal.overflow_mul-f
overflow_mul-f c =
    let t = c.args.self.now.tensors in
    omega (arith, row_reached t.shape c.args.self.now.first t.input.now t.kernel.now t.fitting c.args.self.now.within c.requires.row c.row_tap-tap.ensures c.in-Some.is refl c.input_rows.ensures)

pub overflow_add-f-2 : goal.overflow_add-f-2
overflow_add-f-2 c =
    let t = c.args.self.now.tensors in
    omega (arith, row_reached t.shape c.args.self.now.first t.input.now t.kernel.now t.fitting c.args.self.now.within c.requires.row c.row_tap-tap.ensures c.in-Some.is refl c.input_rows.ensures)

pub row_of-row-requires : goal.row_of-row-requires
row_of-row-requires c =
    let t = c.args.self.now.tensors in
    (row_reached t.shape c.args.self.now.first t.input.now t.kernel.now t.fitting c.args.self.now.within c.requires.row c.row_tap-tap.ensures c.in-Some.is refl c.input_rows.ensures).row

pub overflow_mul-i : goal.overflow_mul-i
overflow_mul-i c =
    let t = c.args.self.now.tensors in
    omega (arith, row_reached t.shape c.args.self.now.first t.input.now t.kernel.now t.fitting c.args.self.now.within c.requires.row c.row_tap-tap.ensures c.in-Some.is refl refl)

pub overflow_add-f-3 : goal.overflow_add-f-3
overflow_add-f-3 c =
    let t = c.args.self.now.tensors in
    omega (arith, row_reached t.shape c.args.self.now.first t.input.now t.kernel.now t.fitting c.args.self.now.within c.requires.row c.row_tap-tap.ensures c.in-Some.is refl refl)

pub overflow_mul-f-2 : goal.overflow_mul-f-2
overflow_mul-f-2 c =
    let t = c.args.self.now.tensors in
    omega (arith, row_reached t.shape c.args.self.now.first t.input.now t.kernel.now t.fitting c.args.self.now.within c.requires.row c.row_tap-tap.ensures c.in-Some.is c.kernel_rows.ensures refl)

pub overflow_add-f-4 : goal.overflow_add-f-4
overflow_add-f-4 c =
    let t = c.args.self.now.tensors in
    omega (arith, row_reached t.shape c.args.self.now.first t.input.now t.kernel.now t.fitting c.args.self.now.within c.requires.row c.row_tap-tap.ensures c.in-Some.is c.kernel_rows.ensures refl)

pub row_of-weights-requires : goal.row_of-weights-requires
row_of-weights-requires c =
    let t = c.args.self.now.tensors in
    (row_reached t.shape c.args.self.now.first t.input.now t.kernel.now t.fitting c.args.self.now.within c.requires.row c.row_tap-tap.ensures c.in-Some.is c.kernel_rows.ensures refl).part

pub add_taps-requires-clause-weights_len_bound : goal.add_taps-requires-clause-weights_len_bound
add_taps-requires-clause-weights_len_bound c =
    let t = c.args.self.now.tensors in
    let b = row_reached t.shape c.args.self.now.first t.input.now t.kernel.now t.fitting c.args.self.now.within c.requires.row c.row_tap-tap.ensures c.in-Some.is c.kernel_rows.ensures refl in
    rw (c.row_of-weights.ensures, row_of_length _ _ b.part) t.fitting.shape.sound.x.kernel_64

pub returns : goal.returns
returns c =
    let t = c.args.self.now.tensors in
    let s = t.shape in
    let f = c.args.self.now.first in
    row_taps_lem s t.input.now t.kernel.now f c.args.i c.requires.row.1.0 _ _ _ (sym c.in-Some.is ∙ c.row_tap-tap.ensures)
    (c.row_of-row.ensures ∙ ap (λ (n : ℕ). row_of t.input.now ((f.plane + c.args.i) * n + c.in-Some.y) s.x.input) c.input_rows.ensures)
    (c.row_of-weights.ensures ∙ ap (λ (n : ℕ). row_of t.kernel.now ((f.weight + c.args.i * s.o) * n + c.args.k) s.x.kernel) c.kernel_rows.ensures)
    (row_reached s f t.input.now t.kernel.now t.fitting c.args.self.now.within c.requires.row c.row_tap-tap.ensures c.in-Some.is refl refl) (rw c.requires.row.1.1 at c.add_taps.ensures)
