-- `line_at` meets its contract: the line is not read, taken, or not.
use Rattle.std.proofs.lemmas.Result.{err_from_is_err_and}
use Rattle.lines.proofs.StepLaws.{taken_line, left_line, none_taken}
use Rattle.lines.proofs.line_at.Goals as goal
use Rattle.lines.proofs.line_at.Goals.{then-used-via-then-used, then-used-via-else-used+then-is_default_value}

pub returns-in_err-items : goal.returns-in_err-items
returns-in_err-items c =
    let p = err_from_is_err_and c.from_residual.result c.from_residual.ensures.1 in
    rw (p.1, p.2) (none_taken _ c.in_err-items.ensures)

pub returns-then-used : goal.returns-then-used
returns-then-used c =
    taken_line _ c.in_ok-items.ensures
    (elim c.then-used.branch [
      | then-used-via-then-used w ↦ rw w.if-used.true
      | then-used-via-else-used+then-is_default_value w ↦ rw (w.if-used.false, ← w.if-is_default_value.ensures)
    ])

pub returns : goal.returns
returns c = left_line _ c.in_ok-items.ensures (rw (c.if-used.false, ← c.if-is_default_value.ensures))
