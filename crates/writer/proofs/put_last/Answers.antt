-- `put_last` meets its contract: one line after another. The axis is read back from its bits.
use mathlib.Core.Path.{◌≡◌}
use mathlib.Core.List.{append-nil}
use borrow.Author.Rules.{rules}
use mir.Syntax.{w32}
use mir.Facts.{to_z-of_z}
use Rattle.lines.specs.Form.{show_form}
use Rattle.fields.specs.Sheet.{sheet_values}
use Rattle.print.proofs.PutLaws.{put_then}
use Rattle.writer.proofs.put_last.Goals as goal

pub returns : goal.returns
unfolding show_form sheet_values
returns c =
    let l = c.args.l.now in
    let padding = c.put_axes-at10.ensures in
    let padding_on : (padding.0 ≡ l.z.output_padding) × (padding.1 ≡ l.y.output_padding) × (padding.2 ≡ l.x.output_padding) = search rules in
    put_then (rw (padding_on.0, padding_on.1, padding_on.2) at padding.6)
    (put_then (rw c.rounding_items-word.ensures at c.put_line-at11.ensures)
    (rw (append-nil _) (rw (c.axis_items.ensures, to_z-of_z {w = w32} {z = l.axis} (search rules)) at c.put_line.ensures)))
