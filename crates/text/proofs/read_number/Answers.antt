-- `read_number` meets its contract, by the first byte and the rest.
use Rattle.std.proofs.Common.{sym, ◌∙◌}
use Rattle.text.proofs.NumberLaws.{number_none}
use Rattle.text.proofs.ReadLaws.{zero_first, zero_alone, other_first}
use Rattle.text.proofs.read_number.Goals as goal
use Rattle.text.proofs.read_number.Goals.{else-first-eq48-via-then-first-eq48+else-not-is_empty, else-first-eq48-via-else-first-eq48}

pub returns-in_err-first : goal.returns-in_err-first
returns-in_err-first c = rw c.from_residual.ensures (sym (number_none _ c.in_err-first.ensures.cases))

pub returns-then-not-is_empty : goal.returns-then-not-is_empty
returns-then-not-is_empty c = zero_first _ _ c.in_ok-first.ensures.cases.0 c.if-first-eq48.true c.if-not-is_empty.ensures

pub returns : goal.returns
returns c =
    c.read_digits.ensures
    ∙ sym (elim c.else-first-eq48.branch [
      | else-first-eq48-via-then-first-eq48+else-not-is_empty w ↦ zero_alone _ _ c.in_ok-first.ensures.cases.0 w.if-not-is_empty.ensures
      | else-first-eq48-via-else-first-eq48 w ↦ other_first _ _ c.in_ok-first.ensures.cases.0 w.if-first-eq48.false
    ])
