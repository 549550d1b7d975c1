-- The lines of a test case: the value of a line, and where a later line starts.
use Rattle.std.specs.Prelude.{ℕ, zero, suc, List, [], length, Option, Some, None}
use Rattle.text.specs.Texts.{text, part}
use Rattle.text.specs.Lines.{line}
use Rattle.text.specs.declared.Line.{Line}

abbrev pub value_in : List ℕ → Option Line → List ℕ
value_in s (Some l) = part s l.start l.end
value_in s None = []

-- the value of the line at a place, where it has the key; else empty
unfoldable pub value_of : List ℕ → List ℕ → ℕ → List ℕ
value_of key s at = value_in s (line key s at)

-- where the next line starts, or another place where there is no line
abbrev pub next_or : ℕ → Option Line → ℕ
next_or place (Some l) = l.next
next_or place None = place

-- where the line after the one at a place starts; the end of s where there is none
unfoldable pub after_line : List ℕ → ℕ → ℕ
after_line s at = next_or (length s) (line [] s at)

-- the same for so many lines
unfoldable pub after_lines : List ℕ → ℕ → ℕ → ℕ
after_lines s at zero = at
after_lines s at (suc n) = after_line s (after_lines s at n)

-- where the op line of the sheet at a place starts: after its version line, where it has one
unfoldable pub after_version : List ℕ → ℕ → ℕ
after_version s at = next_or at (line (text "version=") s at)

-- the end of the sheet at a place: 12 lines from its op line on
unfoldable pub after_sheet : List ℕ → ℕ → ℕ
after_sheet s at = after_lines s (after_version s at) 12
