-- `put_first` meets its contract: one line after another.
use mathlib.Core.List.{append-nil}
use Rattle.lines.specs.Form.{show_form}
use Rattle.fields.specs.Sheet.{sheet_values}
use Rattle.print.proofs.PutLaws.{put_then}
use Rattle.writer.proofs.put_first.Goals as goal

pub returns : goal.returns
unfolding show_form sheet_values
returns c =
    put_then (rw c.op_items.ensures at c.put_line-at1.ensures)
    (put_then (rw c.one_item.ensures at c.put_line-at2.ensures)
    (rw (append-nil _) (rw c.input_list-input.ensures at c.put_line.ensures)))
