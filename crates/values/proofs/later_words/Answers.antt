-- `later_words` meets its contract: a part to the end, from after the first comma.
use mathlib.Core.Path.{◌∙◌}
use native.Mathlib.Numerals.{add-one}
use native.Mathlib.Omega.{arith}
use Rattle.text.proofs.TextLaws.{place_le, tail_part}
use Rattle.values.proofs.later_words.Goals as goal

pub overflow_add-find : goal.overflow_add-find
overflow_add-find c = omega (arith, c.find.ensures, place_le 44 c.args.table.now)

pub returns : goal.returns
returns c = c.part_of.ensures ∙ rw (tail_part, c.find.ensures, add-one)
