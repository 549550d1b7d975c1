-- Laws of the writer's answer and of what it leaves in the buffer.
use Prim.Native.Nat.{ℕ, ◌≤◌, ◌<◌}
use mathlib.Core.Path.{◌≡◌, refl, sym, ap, ◌∙◌}
use mathlib.Core.List.{List, ◌++◌}
use mathlib.Core.Bool.{Bool, true, false, cond}
use native.Mathlib.Nat.{zero-add}
use native.Mathlib.Omega.{arith}
use lib.Dec.{leb}
use lib.ListN.{length, drop}
use lib.Seq.{sets-eq}
use borrow.Author.Tests.{eq-eqb, leb-true, le-leb, lt-leb}
use Rattle.std.specs.Prelude.{Result, Ok, Err}
use Rattle.print.specs.Put.{Put, place_after}
use Rattle.print.proofs.PutLaws.{put_none}
use Rattle.layer.specs.declared.Layer.{Layer}
use Rattle.layer.specs.declared.SheetError.TheVariants.{Room}
use Rattle.layer.specs.declared.SheetRefusal.{SheetRefusal}
use Rattle.fields.specs.Sheet.{version_line, show_sheet}
use Rattle.faults.specs.Faults.{fault_of}
use Rattle.writer.specs.Writer.{written, not_written, answer, write_sheet, leave, buffer_after}

-- the default version's line is not there
pub no_version_line : (l : List ℕ) (at version : ℕ) → at ≤ 18446744073709551615 → length l < 9223372036854775808 → version ≡ 8
    → Put l at (version_line version) at l
no_version_line l at version a h e = rw (eq-eqb version 8 e) (put_none l at a h)

-- a call's answer w, and the buffer after it
abbrev pub Outcome : Layer → List ℕ → Result ℕ SheetRefusal → List ℕ → Type 0
Outcome l buffer w after = (w ≡ write_sheet l (length buffer)) × (after ≡ buffer_after l buffer)

module _ (l : Layer) (buffer : List ℕ) where
  pub fault_outcome : {refusal : SheetRefusal} → fault_of l ≡ Err refusal → Outcome l buffer (Err refusal) buffer
  unfolding write_sheet answer buffer_after leave
  fault_outcome e = (sym (rw e), sym (rw e))

  -- no fault: the buffer has room for the sheet, or it has not
  module _ (e : fault_of l ≡ Ok tt) where
    pub enough : length (show_sheet l) ≤ length buffer
        → (write_sheet l (length buffer) ≡ written (length (show_sheet l))) × (buffer_after l buffer ≡ show_sheet l ++ drop (length (show_sheet l)) buffer)
    unfolding write_sheet answer buffer_after leave
    enough h = let t = le-leb (length (show_sheet l)) (length buffer) h in (rw (e, t), rw (e, t))

    -- the same by the place `size` after a sheet that was put from place 0 on
    module _ {size : ℕ} (is : size ≡ place_after 0 (length (show_sheet l))) where
      pub short_outcome : length buffer < size → Outcome l buffer (not_written Room 0) buffer
      unfolding write_sheet answer buffer_after leave
      short_outcome h = let t = lt-leb (length (show_sheet l)) (length buffer) (omega arith) in (sym (rw (e, t)), sym (rw (e, t)))

      pub put_outcome : {after : List ℕ} {next : ℕ} → size ≤ length buffer → Put buffer 0 (show_sheet l) next after → Outcome l buffer (written size) after
      put_outcome h p =
          let room = p.room in
          let long : size ≡ length (show_sheet l) = omega arith in
          let r = enough (omega arith) in
          (ap written long ∙ sym r.0, p.left_is ∙ sets-eq (show_sheet l) buffer 0 (omega arith) ∙ rw zero-add (sym r.1))

-- a call that is not refused has written the sheet
pub record Taken (l : Layer) (buffer : List ℕ) (n : ℕ) : Type 0 where
  pub fine : fault_of l ≡ Ok tt
  pub long : n ≡ length (show_sheet l)
  pub left : buffer_after l buffer ≡ show_sheet l ++ drop (length (show_sheet l)) buffer

pub taken : (l : Layer) (buffer : List ℕ) (n : ℕ) → write_sheet l (length buffer) ≡ Ok n → Taken l buffer n
unfolding write_sheet answer
taken l buffer n e = go (fault_of l) refl e
  where
    fits : (b : Bool) → cond b (written (length (show_sheet l))) (not_written Room 0) ≡ Ok n → (b ≡ true) × (n ≡ length (show_sheet l))
    fits true z = (refl, cc)
    fits false z = absurd cc

    go : (f : Result (Unit {0}) SheetRefusal) → fault_of l ≡ f → answer f l (length buffer) ≡ Ok n → Taken l buffer n
    go (Err refusal) q z = absurd cc
    go (Ok tt) q z =
        let h = fits (leb (length (show_sheet l)) (length buffer)) z in
        let r = enough l buffer q (leb-true _ _ h.0) in
        record { fine = q; long = h.1; left = r.1 }
