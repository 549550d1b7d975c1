-- What three lines give: their values and the place of the next line, or a refusal.
use Rattle.std.specs.Prelude.{ℕ, ◌≡◌, List, Result, Ok, Err}
use Rattle.text.specs.declared.Items.{Items}
use Rattle.layer.specs.declared.Layer.{Layer}
use Rattle.layer.specs.declared.SheetRefusal.{SheetRefusal}
use Rattle.lines.specs.Form.{Form, read_form}

-- the refusal, or what follows the three lines
unfoldable pub after_three : Result (Items × Items × Items × ℕ) SheetRefusal → (Items → Items → Items → ℕ → Result Layer SheetRefusal) → Result Layer SheetRefusal
after_three (Ok (a, b, c, next)) more = more a b c next
after_three (Err e) more = Err e

-- r is what three lines give, of which the first has the number `number`: so whatever lines follow, from the number `after` on
abbrev pub ReadThree : ((Items → Items → Items → Form) → Form) → ℕ → ℕ → List ℕ → ℕ → Result (Items × Items × Items × ℕ) SheetRefusal → Type 0
ReadThree three number after s at r =
    (more : Items → Items → Items → Form) → read_form (three more) number s at ≡ after_three r (λ a b c next. read_form (more a b c) after s next)
