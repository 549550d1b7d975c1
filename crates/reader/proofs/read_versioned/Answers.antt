-- `read_versioned` meets its contract: the version line is refused, or the twelve lines after it follow.
use mathlib.Core.Path.{sym, ◌∙◌}
use Rattle.fields.specs.Sheet.{thirteen_lines}
use Rattle.lines.proofs.StepLaws.{stopped, went_on}
use Rattle.reader.proofs.read_versioned.Goals as goal

pub returns-in_default : goal.returns-in_default
unfolding thirteen_lines
returns-in_default c = rw c.refusal.ensures (sym (stopped _ _ _ _ _ _ _ (sym c.unwrap_err.ensures ∙ c.line_at-r.ensures)))

pub returns : goal.returns
unfolding thirteen_lines
returns c = c.read_lines.ensures ∙ sym (went_on _ _ _ _ _ _ _ c.in-Ok.ensures)
