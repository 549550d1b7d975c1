-- `read_lines` meets its contract: at each return the lines before were read, and these are refused, bytes are left over, or the layer follows.
use native.Mathlib.Omega.{arith}
use mathlib.Core.Path.{◌≡◌, sym, ap, ◌∙◌}
use mir.Facts.{to_z-of_z}
use mir.Syntax.{w32}
use lib.ListN.{length}
use Rattle.std.specs.Prelude.{Ok}
use Rattle.lines.proofs.StepLaws.{left_over, nothing_after}
use Rattle.fields.specs.Sheet.{twelve_lines}
use Rattle.reader.proofs.ThreeLaws.{three_refused, good_three}
use Rattle.reader.proofs.read_lines.Goals as goal

pub returns-in_default : goal.returns-in_default
unfolding twelve_lines
returns-in_default c = three_refused _ c.unwrap_err.ensures (c.read_first-r3.ensures _)

pub returns-in_default-r6 : goal.returns-in_default-r6
unfolding twelve_lines
returns-in_default-r6 c =
    three_refused _ c.unwrap_err-in_default-r6.ensures (good_three _ (c.in-Ok.ensures _) ∙
    (rw c.op_of-op.ensures at c.read_sizes-r6.ensures) _)

pub returns-in_default-r9 : goal.returns-in_default-r9
unfolding twelve_lines
returns-in_default-r9 c =
    three_refused _ c.unwrap_err-in_default-r9.ensures (good_three _ (c.in-Ok.ensures _) ∙
    good_three _ ((rw c.op_of-op.ensures at c.in-Ok-r6.ensures) _) ∙
    c.read_pads-r9.ensures _)

pub returns-in_default-r12 : goal.returns-in_default-r12
unfolding twelve_lines
returns-in_default-r12 c =
    three_refused _ c.unwrap_err-in_default-r12.ensures (good_three _ (c.in-Ok.ensures _) ∙
    good_three _ ((rw c.op_of-op.ensures at c.in-Ok-r6.ensures) _) ∙
    good_three _ (c.in-Ok-r9.ensures _) ∙
    (rw c.op_of-op.ensures at c.read_last-r12.ensures) _)

pub returns-then-at12-s : goal.returns-then-at12-s
unfolding twelve_lines
returns-then-at12-s c =
    let over : c.in-Ok-r12.at12 ≡ length c.args.s.now → ⊥ = λ e. omega arith in
    rw (c.refusal.ensures, c.from.ensures)
    (sym (good_three _ (c.in-Ok.ensures _) ∙
    good_three _ ((rw c.op_of-op.ensures at c.in-Ok-r6.ensures) _) ∙
    good_three _ (c.in-Ok-r9.ensures _) ∙
    good_three _ ((rw c.op_of-op.ensures at c.in-Ok-r12.ensures) _) ∙
    left_over _ _ _ _ over))

pub returns : goal.returns
unfolding twelve_lines
returns c =
    let done : c.in-Ok-r12.at12 ≡ length c.args.s.now = omega arith in
    sym (good_three _ (c.in-Ok.ensures _) ∙
    good_three _ ((rw c.op_of-op.ensures at c.in-Ok-r6.ensures) _) ∙
    good_three _ (c.in-Ok-r9.ensures _) ∙
    good_three _ ((rw c.op_of-op.ensures at c.in-Ok-r12.ensures) _) ∙
    nothing_after _ _ _ _ done ∙
    ap Ok (sym (rw (c.sized_layer-sized.ensures, c.op_of-op.ensures, c.rounding_of-used.ensures, c.auto_pad_of.ensures, to_z-of_z {w = w32} (record { sfits = c.axis_of-position.type_inv }), c.axis_of-position.ensures) at c.padded_layer.ensures)))
