-- `put_sheet` meets its contract: the version line, then three lines after another three.
use mathlib.Core.List.{append_assoc}
use Rattle.values.proofs.ValueLaws.{op_again}
use Rattle.lines.specs.Form.{show_form}
use Rattle.fields.specs.Sheet.{twelve_lines, sheet_values, show_sheet}
use Rattle.print.proofs.PutLaws.{put_then}
use Rattle.writer.proofs.put_sheet.Goals as goal

pub returns : goal.returns
unfolding show_form twelve_lines sheet_values show_sheet
returns c =
    rw (op_again c.args.l.now.op)
    (simp append_assoc at
    (put_then c.put_version-at0.ensures
    (put_then c.put_first-at3.ensures (put_then c.put_sizes-at6.ensures (put_then c.put_pads-at9.ensures c.put_last.ensures)))))
