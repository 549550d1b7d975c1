-- Laws of lines one after another: what the lines say is read from their text, and what was read is shown as the same text; and a refusal's number is not 0.
use Prim.Native.Nat.{ℕ, suc, ◌+◌, ◌≤◌}
use mathlib.Core.Path.{◌≡◌, refl, sym, ap}
use mathlib.Core.Logic.{◌⊎◌, inl, inr}
use mathlib.Core.List.{List, [], ◌∷◌}
use mathlib.Core.Bool.{Bool, true, false, cond, false≢true}
use Rattle.std.specs.Prelude.{Some, Result, Ok, Err}
use native.Mathlib.Omega.{arith}
use lib.Dec.{eqb}
use lib.ListN.{length, drop, drop_of_length-le, length-drop, length-append}
use borrow.Author.Tests.{eq-eqb, eqb-true}
use Rattle.text.specs.Lines.{show_line}
use Rattle.text.specs.declared.Items.{Items}
use Rattle.text.proofs.LineLaws.{line_written_read, line_read_written}
use Rattle.layer.specs.Refusals.{sheet_number}
use Rattle.layer.specs.declared.Layer.{Layer}
use Rattle.layer.specs.declared.SheetError.{SheetError}
use Rattle.layer.specs.declared.SheetError.TheVariants.{Key, Number, Word, Unused, Room}
use Rattle.layer.specs.declared.SheetRefusal.{SheetRefusal}
use Rattle.values.specs.Values.{field_value, show_field, unread}
use Rattle.values.proofs.ValueLaws.{field_inverse}
use Rattle.lines.specs.Lines.{field_line, unless_taken}
use Rattle.lines.specs.Form.{Form, line, layer, refusal, after, read_form, show_form}

-- the lines with these values say this layer
unfoldable pub Says : Form → List Items → Layer → Type 0
Says (line key field taken more) [] l = ⊥
Says (line key field taken more) (v ∷ vs) l =
    (field_value field (show_field field v) ≡ Some v) × (taken v ≡ true) × Says (more v) vs l
Says (layer m) [] l = m ≡ l
Says (layer m) (v ∷ vs) l = ⊥

-- a line is refused, with its own error or as one that is not used, or what follows it is read
after_line : {G : Type 0} (taken : Items → Bool) (x : Result (Items × ℕ) SheetError) (number : ℕ) (next : Items → ℕ → Result Layer SheetRefusal)
    (r : Result Layer SheetRefusal) → after number (unless_taken taken x) next ≡ r
    → ((k : SheetError) → (x ≡ Err k) ⊎ (k ≡ Unused) → Err (refusal k number) ≡ r → G)
    → ((v : Items) (at : ℕ) → x ≡ Ok (v, at) → taken v ≡ true → next v at ≡ r → G) → G
unfolding after unless_taken
after_line taken (Err k) number next r e f g = f k (inl refl) e
after_line {G} taken (Ok (v, at)) number next r e f g = go (taken v) refl e
  where
    go : (b : Bool) → taken v ≡ b → after number (cond b (Ok (v, at)) (Err Unused)) next ≡ r → G
    go true p q = g v at refl p q
    go false p q = f Unused (inr refl) q

-- reading what was shown
pub form_there : (f : Form) (vs : List Items) (l : Layer) → Says f vs l → (number : ℕ) (s : List ℕ) (at : ℕ) → drop at s ≡ show_form f vs → at ≤ length s
    → read_form f number s at ≡ Ok l
unfolding Says read_form show_form field_line after unless_taken
form_there (line key field taken more) [] l h number s at e b = absurd h
form_there (line key field taken more) (v ∷ vs) l h number s at e b =
    let t = show_line key (show_field field v) in
    let q = line_written_read key _ Key (unread field) (field_inverse field) v h.0 (show_form (more v) vs) s at e in
    rw (q.0, h.1)
    (form_there (more v) vs l h.2 (suc number) s (at + length t) q.1
    (omega (arith, length-drop at s, ap length e, length-append t (show_form (more v) vs))))
form_there (layer m) [] l h number s at e b = rw (eq-eqb at (length s) (omega (arith, length-drop at s, ap length e)), h)
form_there (layer m) (v ∷ vs) l h number s at e b = absurd h

-- showing what was read
pub form_back : (f : Form) (number : ℕ) (s : List ℕ) (at : ℕ) (l : Layer) → read_form f number s at ≡ Ok l
    → (vs : List Items) × Says f vs l × (show_form f vs ≡ drop at s)
unfolding Says read_form show_form field_line
form_back (line key field taken more) number s at l e =
    after_line _ _ _ _ _ e (λ k x q. absurd (false≢true cc)) λ v next x u q.
    let w = line_read_written _ _ _ _ (field_inverse field) v s at next x in
    let r = form_back (more v) (suc number) s next l q in
    (v ∷ r.0, (w.1, u, r.1), rw r.2 (sym w.0))
form_back (layer m) number s at l e = go (eqb at (length s)) refl e
  where
    go : (b : Bool) → eqb at (length s) ≡ b → cond b (Ok m) (Err (refusal Key number)) ≡ Ok l
        → (vs : List Items) × Says (layer m) vs l × (show_form (layer m) vs ≡ drop at s)
    go true p q = ([], cc, sym (drop_of_length-le s {i = at} (omega (arith, eqb-true at (length s) p))))
    go false p q = absurd (false≢true cc)

-- the number of a refusal is not 0
pub sheet_numbered : (error : SheetError) → sheet_number error ≡ 0 → ⊥
sheet_numbered Key e = omega (arith, e)
sheet_numbered Number e = omega (arith, e)
sheet_numbered Word e = omega (arith, e)
sheet_numbered Unused e = omega (arith, e)
sheet_numbered Room e = omega (arith, e)
