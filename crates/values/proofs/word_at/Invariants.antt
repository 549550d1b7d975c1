-- `word_at` meets its contract. The loop's invariant: the word is the one at the place left in the rest of the table.
use Prim.Native.Nat.{◌-◌}
use mathlib.Core.Path.{◌≡◌}
use Rattle.values.specs.Words.{word_at}
use Rattle.values.proofs.word_at.Given as goal

abbrev pub invariant-loop : goal.invariant-loop
invariant-loop l = word_at (l.place - l.counter) l.rest ≡ word_at l.place l.table
