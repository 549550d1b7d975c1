-- Tables of words, with a comma between two: the word at a place, and the place of a word, counted from 0.
use Rattle.std.specs.Prelude.{ℕ, zero, suc, List, cond, take, drop}
use Rattle.std.specs.Prelude.{Option, Some, None}
use Rattle.text.specs.Texts.{place, same}

-- the first word, and the table of those after it
abbrev pub first_word : List ℕ → List ℕ
first_word table = take (place 44 table) table

abbrev pub later_words : List ℕ → List ℕ
later_words table = drop (suc (place 44 table)) table

unfoldable pub word_at : ℕ → List ℕ → List ℕ
word_at zero table = first_word table
word_at (suc k) table = word_at k (later_words table)

-- the first place from k on, of so many, where the table has the word t
unfoldable pub word_from : ℕ → ℕ → List ℕ → List ℕ → Option ℕ
word_from zero k table t = None
word_from (suc left) k table t = cond (same (word_at k table) t) (Some k) (word_from left (suc k) table t)

-- the place of the word t in a table of so many words
abbrev pub word_place : ℕ → List ℕ → List ℕ → Option ℕ
word_place count table t = word_from count 0 table t
