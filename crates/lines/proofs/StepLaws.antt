-- Laws of functions that read line after line.
use Prim.Native.Nat.{ℕ, suc}
use mathlib.Core.Path.{◌≡◌, refl}
use mathlib.Core.List.{List}
use mathlib.Core.Bool.{Bool, true, false}
use Rattle.std.specs.Prelude.{Result, Ok, Err}
use lib.ListN.{length}
use borrow.Author.Tests.{eq-eqb, ne_eqb}
use Rattle.text.specs.declared.Items.{Items}
use Rattle.layer.specs.declared.Layer.{Layer}
use Rattle.layer.specs.declared.SheetError.{SheetError}
use Rattle.layer.specs.declared.SheetError.TheVariants.{Key, Unused}
use Rattle.values.specs.declared.Field.{Field}
use Rattle.lines.specs.Lines.{field_line, unless_taken, if_used}
use Rattle.lines.specs.Form.{Form, line, layer, refusal, read_form, after}

-- a value that is taken, and one that is not
module _ (taken : Items → Bool) {x : Result (Items × ℕ) SheetError} {v : Items} {next : ℕ} (e : Ok (v, next) ≡ x) where
  pub taken_line : true ≡ taken v → Ok (v, next) ≡ unless_taken taken x
  unfolding unless_taken
  taken_line u = rw (← e, ← u)

  pub left_line : false ≡ taken v → Err Unused ≡ unless_taken taken x
  unfolding unless_taken
  left_line u = rw (← e, ← u)

-- a line that is used takes what it reads
pub all_taken : (x : Result (Items × ℕ) SheetError) → unless_taken (if_used true) x ≡ x
unfolding unless_taken
all_taken (Ok p) = refl
all_taken (Err k) = refl

pub none_taken : (taken : Items → Bool) {x : Result (Items × ℕ) SheetError} {k : SheetError} → Err k ≡ x → Err k ≡ unless_taken taken x
unfolding unless_taken
none_taken taken e = rw (← e)

-- the first of the lines is refused, or read and the others follow
module _ (key : List ℕ) (field : Field) (taken : Items → Bool) (more : Items → Form) (number : ℕ) (s : List ℕ) (at : ℕ) where
  pub stopped : {e : SheetError} → Err e ≡ unless_taken taken (field_line key field s at) → read_form (line key field taken more) number s at ≡ Err (refusal e number)
  unfolding read_form after
  stopped q = rw (← q)

  pub went_on : {v : Items} {next : ℕ} → Ok (v, next) ≡ unless_taken taken (field_line key field s at)
      → read_form (line key field taken more) number s at ≡ read_form (more v) (suc number) s next
  unfolding read_form after
  went_on q = rw (← q)

-- the end
module _ (l : Layer) (number : ℕ) (s : List ℕ) (at : ℕ) where
  pub nothing_after : at ≡ length s → read_form (layer l) number s at ≡ Ok l
  unfolding read_form
  nothing_after e = rw (eq-eqb at (length s) e)

  pub left_over : (at ≡ length s → ⊥) → read_form (layer l) number s at ≡ Err (refusal Key number)
  unfolding read_form
  left_over e = rw (ne_eqb at (length s) e)
