-- `put_pads` meets its contract: one line after another.
use mathlib.Core.Path.{◌≡◌}
use mathlib.Core.List.{append-nil}
use borrow.Author.Rules.{rules}
use Rattle.lines.specs.Form.{show_form}
use Rattle.fields.specs.Sheet.{sheet_values}
use Rattle.print.proofs.PutLaws.{put_then}
use Rattle.writer.proofs.put_pads.Goals as goal

pub returns : goal.returns
unfolding show_form sheet_values
returns c =
    let l = c.args.l.now in
    let begin = c.put_axes-at8.ensures in
    let begin_on : (begin.0 ≡ l.z.pad_begin) × (begin.1 ≡ l.y.pad_begin) × (begin.2 ≡ l.x.pad_begin) = search rules in
    let end = c.put_axes.ensures in
    let end_on : (end.0 ≡ l.z.pad_end) × (end.1 ≡ l.y.pad_end) × (end.2 ≡ l.x.pad_end) = search rules in
    put_then (rw c.auto_pad_items-word.ensures at c.put_line-at7.ensures)
    (put_then (rw (begin_on.0, begin_on.1, begin_on.2) at begin.6) (rw (append-nil _) (rw (end_on.0, end_on.1, end_on.2) at end.6)))
