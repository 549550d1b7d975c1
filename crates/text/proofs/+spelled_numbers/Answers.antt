-- `spelled_numbers` meets its contract, by recursion on the count: the number up to the first comma, then the others.
use mathlib.Core.Path.{sym, ◌∙◌}
use Rattle.std.proofs.Common.{lt-ltb, le-ltb}
use Rattle.text.specs.Lists.{last_number, one_more, spelled}
use Rattle.text.proofs.ListLaws.{numbers_more}
use Rattle.text.proofs.+spelled_numbers.Goals as goal

pub returns-then-count-eq0 : goal.returns-then-count-eq0
unfolding spelled last_number one_more
returns-then-count-eq0 t c = rw c.if-count-eq0.true

pub returns-in_err-read_number : goal.returns-in_err-read_number
unfolding spelled last_number one_more
returns-in_err-read_number t c = rw (c.from_residual.ensures, c.if-count-eq1.true, ← c.in_err-read_number.ensures)

pub returns-then-count-eq1 : goal.returns-then-count-eq1
unfolding spelled last_number one_more
returns-then-count-eq1 t c = rw (c.one_item.ensures, c.if-count-eq1.true, ← c.in_ok-read_number.ensures)

pub returns-then-t-comma : goal.returns-then-t-comma
unfolding spelled last_number one_more
returns-then-t-comma t c =
    sym (numbers_more _ _ _ c.if-count-eq0.false c.if-count-eq1.false c.find-comma.ensures ∙ rw (le-ltb _ _ c.if-t-comma.true))

pub returns-in_err-x : goal.returns-in_err-x
unfolding spelled last_number one_more
returns-in_err-x t c =
    rw c.from_residual-in_err-x.ensures
    (sym (numbers_more _ _ _ c.if-count-eq0.false c.if-count-eq1.false c.find-comma.ensures ∙ rw (lt-ltb _ _ c.if-t-comma.false, ← c.in_err-x.ensures)))

pub returns-in_err-items : goal.returns-in_err-items
unfolding spelled last_number one_more
returns-in_err-items t c =
    rw c.from_residual-in_err-items.ensures
    (sym (numbers_more _ _ _ c.if-count-eq0.false c.if-count-eq1.false c.find-comma.ensures ∙ rw (lt-ltb _ _ c.if-t-comma.false, ← c.in_ok-x.ensures, ← c.in_err-items.ensures)))

pub returns : goal.returns
unfolding spelled last_number one_more
returns t c =
    rw c.more_item.ensures
    (sym (numbers_more _ _ _ c.if-count-eq0.false c.if-count-eq1.false c.find-comma.ensures ∙ rw (lt-ltb _ _ c.if-t-comma.false, ← c.in_ok-x.ensures, ← c.in_ok-items.ensures)))
