-- One line of a sheet: its key, and a value that its operator takes. "When an answer is an enum, the promises use a definition that gives this paper's number and
-- values for each case.": the number of an error is its `sheet_number`.
use Rattle.std.specs.Prelude.{ℕ, List, Bool, cond, ◌||◌, Result, Ok, Err}
use Rattle.text.specs.Lines.{key_line}
use Rattle.text.specs.declared.Items.{Items}
use Rattle.layer.specs.declared.SheetError.{SheetError}
use Rattle.layer.specs.declared.SheetError.TheVariants.{Key, Unused}
use Rattle.values.specs.Values.{field_value, unread, is_default_value}
use Rattle.values.specs.declared.Field.{Field}

-- "20 wrong key or no line end"; "then 21 a number, or a count of numbers, that breaks the rules"; "22 unknown word"
unfoldable pub field_line : List ℕ → Field → List ℕ → ℕ → Result (Items × ℕ) SheetError
field_line key field s at = key_line key (field_value field) Key (unread field) s at

-- "23 a line its operator doesn't use (output_padding, rounding, axis) not at its default, and at the op line version 14 with another op than maxpool": a value
-- that is read and not taken
unfoldable pub unless_taken : (Items → Bool) → Result (Items × ℕ) SheetError → Result (Items × ℕ) SheetError
unless_taken taken (Err e) = Err e
unless_taken taken (Ok (v, next)) = cond (taken v) (Ok (v, next)) (Err Unused)

-- of a line that is used any value is taken, of another its default alone
abbrev pub if_used : Bool → Items → Bool
if_used used v = used || is_default_value v
