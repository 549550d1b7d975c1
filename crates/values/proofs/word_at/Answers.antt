-- `word_at` meets its contract. The loop's invariant: the word is the one at the place left in the rest of the table; an empty rest has none.
use Rattle.std.proofs.Common.{◌≡◌, ◌-◌, arith, ◌∙◌}
use native.Mathlib.Nat.{sub-zero}
use Rattle.values.specs.Words.{word_at}
use Rattle.values.proofs.WordLaws.{word_later, word_none}
use Rattle.values.proofs.word_at.Goals as goal

pub returns-then-is_empty : goal.returns-then-is_empty
returns-then-is_empty c = word_none (c.args.place - c.loop.counter) _ c.if-is_empty.ensures ∙ c.loop.invariant

pub loop-preserved : goal.loop-preserved
loop-preserved c = rw c.later_words-rest.ensures (word_later _ _ _ c.loop-test.true ∙ c.loop.invariant)

pub returns : goal.returns
unfolding word_at
returns c =
    let left : c.args.place - c.loop.counter ≡ 0 = omega arith in
    c.part_of.ensures ∙ rw (c.find.ensures, sub-zero, ← c.loop.invariant, left)
