-- Lines one after another: how a text of such lines is read, and how it is shown.
use Rattle.std.specs.Prelude.{ℕ, suc, List, [], ◌∷◌, ◌++◌, Bool, cond, eqb, length, Result, Ok, Err}
use Rattle.text.specs.Lines.{show_line}
use Rattle.text.specs.declared.Items.{Items}
use Rattle.layer.specs.declared.Layer.{Layer}
use Rattle.layer.specs.declared.SheetError.{SheetError}
use Rattle.layer.specs.declared.SheetError.TheVariants.{Key}
use Rattle.layer.specs.declared.SheetRefusal.{SheetRefusal}
use Rattle.values.specs.Values.{show_field}
use Rattle.values.specs.declared.Field.{Field}
use Rattle.lines.specs.Lines.{field_line, unless_taken}

-- a line with its key, what its value is, which values are taken, and the lines after it, which may depend on its value; after the last line the layer
pub data Form : Type 0 where
  line : List ℕ → Field → (Items → Bool) → (Items → Form) → Form
  layer : Layer → Form

-- what is wrong, and the number of the line
abbrev pub refusal : SheetError → ℕ → SheetRefusal
refusal error number = record { error = error; line = number }

-- "Reader, first bad line, with its line number": a line's refusal, or what follows the line. "A refused read hands over the number and line and no record"
unfoldable pub after : ℕ → Result (Items × ℕ) SheetError → (Items → ℕ → Result Layer SheetRefusal) → Result Layer SheetRefusal
after number (Err e) next = Err (refusal e number)
after number (Ok (v, at)) next = next v at

-- the lines from a place on, of which the first has the number `number`; "nothing after", "bytes left over: the line after the last, 13, or 14 with a version
-- line"
unfoldable pub read_form : Form → ℕ → List ℕ → ℕ → Result Layer SheetRefusal
read_form (line key field taken more) number s at =
    after number (unless_taken taken (field_line key field s at)) λ v next. read_form (more v) (suc number) s next
read_form (layer l) number s at = cond (eqb at (length s)) (Ok l) (Err (refusal Key number))

-- "key=value lines .. each ended by one byte 10": the text of the lines with these values
unfoldable pub show_form : Form → List Items → List ℕ
show_form (line key field taken more) [] = []
show_form (line key field taken more) (v ∷ vs) = show_line key (show_field field v) ++ show_form (more v) vs
show_form (layer l) vs = []
