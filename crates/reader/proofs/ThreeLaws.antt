-- Laws of the functions that read three lines, and of the one that puts them together.
use Prim.Native.Nat.{ℕ}
use mathlib.Core.Path.{◌≡◌, sym, ap, ◌∙◌}
use mathlib.Core.List.{List}
use mathlib.Core.Bool.{Bool}
use Rattle.std.specs.Prelude.{Result, Ok, Err}
use Rattle.text.specs.declared.Items.{Items}
use Rattle.layer.specs.declared.Layer.{Layer}
use Rattle.layer.specs.declared.SheetError.{SheetError}
use Rattle.layer.specs.declared.SheetRefusal.{SheetRefusal}
use Rattle.values.specs.declared.Field.{Field}
use Rattle.lines.specs.Lines.{field_line, unless_taken}
use Rattle.lines.specs.Form.{Form, line, refusal, read_form}
use Rattle.lines.proofs.StepLaws.{stopped}
use Rattle.reader.specs.Reader.{after_three}

-- one of the three is refused
pub bad_line : (key : List ℕ) (field : Field) (taken : Items → Bool) (more : Items → Form) (number : ℕ) (s : List ℕ) (at : ℕ)
    {e : SheetError} → Err e ≡ unless_taken taken (field_line key field s at) → (n : ℕ) {t : SheetRefusal} → t ≡ refusal e n → n ≡ number
    → (f : Items → Items → Items → ℕ → Result Layer SheetRefusal) → read_form (line key field taken more) number s at ≡ after_three (Err t) f
unfolding after_three
bad_line key field taken more number s at q n k m f = stopped key field taken more number s at q ∙ sym (rw (k, m))

-- the three are read, and the line after them has the number n
pub three_read : (more : Items → Items → Items → Form) (s : List ℕ) (a b c : Items) (next : ℕ) {number n : ℕ} → number ≡ n
    → read_form (more a b c) number s next ≡ after_three (Ok (a, b, c, next)) (λ x y z after. read_form (more x y z) n s after)
unfolding after_three
three_read more s a b c next e = ap (λ (k : ℕ). read_form (more a b c) k s next) e

-- what follows three lines that are read, and what three lines give that are not
module _ (f : Items → Items → Items → ℕ → Result Layer SheetRefusal) {a : Result Layer SheetRefusal} where
  pub bad_three : {e : SheetRefusal} → a ≡ after_three (Err e) f → Err e ≡ a
  unfolding after_three
  bad_three q = sym q

  pub three_refused : {r : Result (Items × Items × Items × ℕ) SheetRefusal} {e : SheetRefusal} → r ≡ Err e → a ≡ after_three r f → Err e ≡ a
  three_refused k q = bad_three (q ∙ ap (λ x. after_three x f) k)

  pub good_three : {x y z : Items} {next : ℕ} → a ≡ after_three (Ok (x, y, z, next)) f → a ≡ f x y z next
  unfolding after_three
  good_three q = q
