-- `read_pads` meets its contract: at each return the lines before were read, and this one is refused or all three are read.
use native.Mathlib.Omega.{arith}
use mathlib.Core.Path.{sym, ◌∙◌}
use Rattle.lines.proofs.StepLaws.{went_on}
use Rattle.reader.proofs.ThreeLaws.{bad_line, three_read}
use Rattle.reader.proofs.read_pads.Goals as goal

pub returns-in_default : goal.returns-in_default
returns-in_default c more =
    bad_line _ _ _ _ _ _ _ (sym c.unwrap_err.ensures ∙ c.line_at-r.ensures) _ c.refusal.ensures (omega arith) _

pub returns-in_default-r : goal.returns-in_default-r
returns-in_default-r c more =
    went_on _ _ _ _ _ _ _ c.in-Ok.ensures ∙
    bad_line _ _ _ _ _ _ _ (sym c.unwrap_err-in_default-r.ensures ∙ c.line_at-r-2.ensures) _ c.refusal-in_default-r.ensures (omega arith) _

pub returns-in_default-r-2 : goal.returns-in_default-r-2
returns-in_default-r-2 c more =
    went_on _ _ _ _ _ _ _ c.in-Ok.ensures ∙
    went_on _ _ _ _ _ _ _ c.in-Ok-r.ensures ∙
    bad_line _ _ _ _ _ _ _ (sym c.unwrap_err-in_default-r-2.ensures ∙ c.line_at-r-3.ensures) _ c.refusal-in_default-r-2.ensures (omega arith) _

pub returns : goal.returns
returns c more =
    went_on _ _ _ _ _ _ _ c.in-Ok.ensures ∙
    went_on _ _ _ _ _ _ _ c.in-Ok-r.ensures ∙
    went_on _ _ _ _ _ _ _ c.in-Ok-r-2.ensures ∙
    three_read more _ _ _ _ _ (omega arith)
