-- The layer sheet: which lines a text has, by its beginning, and what reading it gives. Its lines are counted from 1, and it begins at the first byte.
use Rattle.std.specs.Prelude.{ℕ, List, cond, Result}
use Rattle.text.specs.Texts.{text, starts_with}
use Rattle.layer.specs.Defaults.{version_default}
use Rattle.lines.specs.Form.{Form, read_form}
use Rattle.layer.specs.declared.Layer.{Layer}
use Rattle.layer.specs.declared.SheetRefusal.{SheetRefusal}
use Rattle.fields.specs.Sheet.{twelve_lines, thirteen_lines}

-- "A sheet that begins with `version=` has that line as line 1 and `op=` as line 2; any other beginning is the op line, line 1"; "a sheet of twelve lines is
-- version 8"
abbrev pub lines_of : List ℕ → Form
lines_of s = cond (starts_with (text "version=") s) thirteen_lines (twelve_lines version_default)

-- what reading a text gives
unfoldable pub read_sheet : List ℕ → Result Layer SheetRefusal
read_sheet s = read_form (lines_of s) 1 s 0
