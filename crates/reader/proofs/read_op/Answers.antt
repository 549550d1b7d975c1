-- `read_op` meets its contract: bad, an operator that the version lacks, or one that it has.
use mathlib.Core.Path.{sym, ap, ◌∙◌}
use mathlib.Core.Bool.{not}
use Rattle.lines.proofs.StepLaws.{all_taken, none_taken, taken_line, left_line}
use Rattle.reader.proofs.read_op.Goals as goal

pub returns-in_default : goal.returns-in_default
returns-in_default c = none_taken _ (sym c.unwrap_err.ensures ∙ c.line_at-r.ensures ∙ all_taken _)

pub returns-then-lacks_op : goal.returns-then-lacks_op
returns-then-lacks_op c = left_line _ (c.in-Ok.ensures ∙ all_taken _) (ap not (rw c.op_of.ensures at c.if-lacks_op.ensures))

pub returns : goal.returns
returns c = taken_line _ (c.in-Ok.ensures ∙ all_taken _) (ap not (rw c.op_of.ensures at c.if-lacks_op.ensures))
