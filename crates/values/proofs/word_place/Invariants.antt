-- `word_place` meets its contract. The loop's invariant: the words passed are not the text, so the rest of the table decides.
use Prim.Native.Nat.{◌-◌}
use mathlib.Core.Path.{◌≡◌}
use Rattle.values.specs.Words.{word_place, word_from}
use Rattle.values.proofs.word_place.Given as goal

abbrev pub invariant-loop-place : goal.invariant-loop-place
invariant-loop-place l = word_place l.count l.table l.t ≡ word_from (l.count - l.place) l.place l.table l.t
