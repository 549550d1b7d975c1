-- `word_place` meets its contract. The loop's invariant: the words passed are not the text, so the rest of the table decides.
use mathlib.Core.Path.{sym, ◌∙◌}
use Rattle.values.proofs.WordLaws.{word_here, word_next, word_end}
use Rattle.values.proofs.word_place.Goals as goal

pub returns-then-is_text : goal.returns-then-is_text
returns-then-is_text c =
    sym (c.loop-place.invariant ∙ word_here _ _ _ _ c.word_at.result.now c.loop-place-test.true c.word_at.ensures c.if-is_text.ensures)

pub loop-place-preserved : goal.loop-place-preserved
loop-place-preserved c =
    c.loop-place.invariant ∙ word_next _ _ _ _ c.word_at.result.now c.loop-place-test.true c.word_at.ensures c.if-is_text.ensures

pub returns : goal.returns
returns c = sym (c.loop-place.invariant ∙ word_end _ _ _ _ c.loop-place-test.false)
