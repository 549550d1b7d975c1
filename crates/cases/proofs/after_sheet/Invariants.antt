-- `after_sheet` meets its contract: from the op line on, each turn of the loop is one line more.
use mathlib.Core.Path.{◌≡◌}
use Rattle.cases.specs.Lines.{after_lines, after_version}
use Rattle.cases.proofs.after_sheet.Given as goal

abbrev pub invariant-loop : goal.invariant-loop
invariant-loop l = l.next ≡ after_lines l.s (after_version l.s l.at) l.counter
