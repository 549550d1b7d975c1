-- `field_line` meets its contract: the line is missing, its value is not read, or read.
use Rattle.std.proofs.lemmas.Result.{err_from_is_err_and}
use Rattle.text.proofs.LineLaws.{line_missing, line_unread, line_read}
use Rattle.lines.specs.Lines.{field_line}
use Rattle.lines.proofs.field_line.Goals as goal

pub returns-in_err-line : goal.returns-in_err-line
unfolding field_line
returns-in_err-line c =
    let p = err_from_is_err_and c.from_residual.result c.from_residual.ensures.1 in
    rw (p.1, p.2) (line_missing _ _ _ _ _ _ _ c.read_line.ensures c.in_err-line.ensures.value)

pub returns-in_err-items : goal.returns-in_err-items
unfolding field_line
returns-in_err-items c =
    let p = err_from_is_err_and c.from_residual-in_err-items.result c.from_residual-in_err-items.ensures.1 in
    rw (p.1, p.2)
    (line_unread _ _ _ _ _ _ _ c.read_line.ensures c.in_ok-line.ensures.value c.part_of-value.ensures _ c.value_of.ensures c.unread_error.ensures
    c.in_err-items.ensures.value)

pub returns : goal.returns
unfolding field_line
returns c =
    line_read _ _ _ _ _ _ _ c.read_line.ensures c.in_ok-line.ensures.value c.part_of-value.ensures _ _ c.value_of.ensures c.in_ok-items.ensures.value
