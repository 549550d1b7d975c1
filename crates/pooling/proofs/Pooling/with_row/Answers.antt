-- A kernel row that lies at a row of the plane scans that part of the input.
use Rattle.std.specs.Prelude.{Option}
use mathlib.Core.Path.{sym, ap, ◌∙◌}
use Prim.Native.Nat.{ℕ, ◌+◌}
use native.Mathlib.Omega.{arith}
use Rattle.pooling.specs.Steps.{after_tap, row_step}
use Rattle.pooling.proofs.Bounds.{row_at}
use Rattle.pooling.proofs.Scan.{row_part}
use Rattle.pooling.proofs.Pooling.with_row.Goals as goal

pub overflow_add-from : goal.overflow_add-from
overflow_add-from c =
    let t = c.args.self.now in
    omega (arith, row_at t.shape c.args.p c.args.k t.pooled c.requires c.row_tap-t.ensures c.in-Some.is, t.input_len)

pub overflow_mul-from : goal.overflow_mul-from
overflow_mul-from c =
    let t = c.args.self.now in
    omega (arith, row_at t.shape c.args.p c.args.k t.pooled c.requires c.row_tap-t.ensures c.in-Some.is, t.input_len)

pub overflow_add-to : goal.overflow_add-to
overflow_add-to c =
    let t = c.args.self.now in
    omega (arith, row_at t.shape c.args.p c.args.k t.pooled c.requires c.row_tap-t.ensures c.in-Some.is, t.input_len)

pub offset_bounds-self-from : goal.offset_bounds-self-from
offset_bounds-self-from c =
    let t = c.args.self.now in
    omega (arith, row_at t.shape c.args.p c.args.k t.pooled c.requires c.row_tap-t.ensures c.in-Some.is, t.input_len)

pub slice_bounds-scan_row-end : goal.slice_bounds-scan_row-end
slice_bounds-scan_row-end c =
    let t = c.args.self.now in
    omega (arith, row_at t.shape c.args.p c.args.k t.pooled c.requires c.row_tap-t.ensures c.in-Some.is, t.input_len)

pub returns-in-Some : goal.returns-in-Some
returns-in-Some c =
    let s = c.args.self.now.shape in
    let input = c.args.self.now.input.now in
    c.scan_row.ensures
    ∙ row_part input s.x c.args.q (c.args.first + c.in-Some.r) c.args.w
    ∙ ap (λ (t : Option ℕ). after_tap (row_step input c.args.first s.x c.args.q) t c.args.w) (sym c.in-Some.is ∙ c.row_tap-t.ensures)
