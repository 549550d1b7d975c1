-- `after_sheet` meets its contract: from the op line on, each turn of the loop is one line more.
use Rattle.std.proofs.Common.{◌≡◌, arith, ap, ◌∙◌, add-one}
use Rattle.cases.specs.Lines.{after_line, after_lines, after_sheet}
use Rattle.cases.proofs.after_sheet.Goals as goal

pub loop-init : goal.loop-init
unfolding after_lines
loop-init c = c.after_version-next.ensures

pub loop-preserved : goal.loop-preserved
unfolding after_lines
loop-preserved c = rw add-one (c.after_line-next.ensures ∙ ap (after_line _) c.loop.invariant)

pub returns : goal.returns
unfolding after_sheet
returns c = let n : c.loop.counter ≡ 12 = omega arith in c.loop.invariant ∙ rw n
