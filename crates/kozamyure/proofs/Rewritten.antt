-- What `koza_rewrite` owes, by what the reader says of its sheet: the two equations, and that the number 0 is that of a sheet written back as it was.
use Prim.Native.Nat.{ℕ}
use mathlib.Core.Path.{◌≡◌, sym, ap}
use mathlib.Core.List.{List}
use lib.ListN.{length, take}
use Rattle.std.specs.Prelude.{Result, Ok, Err}
use Rattle.layer.specs.declared.Layer.{Layer}
use Rattle.layer.specs.declared.SheetRefusal.{SheetRefusal}
use Rattle.lines.proofs.FormLaws.{sheet_numbered}
use Rattle.writer.specs.Writer.{write_sheet, buffer_after}
use Rattle.sheet.specs.Sheet.{read_sheet}
use Rattle.sheet.proofs.WayBack.{rewritten, refused_numbered}
use Rattle.kozamyure.specs.declared.SheetWritten.{SheetWritten}
use Rattle.kozamyure.specs.Boundary.{written_back, rewrite_answer, rewrite_buffer}

abbrev pub RewritePromise : List ℕ → List ℕ → List ℕ → SheetWritten → Type 0
RewritePromise s before left a =
    (a ≡ rewrite_answer (read_sheet s) (length before))
    × ((left ≡ rewrite_buffer (read_sheet s) before)
    × (a.number ≡ 0 → (a.length ≡ length s) × (take a.length left ≡ s)))

module _ (s before : List ℕ) where
  pub not_rewritten : (r : SheetRefusal) → read_sheet s ≡ Err r → RewritePromise s before before (written_back (Err r))
  unfolding rewrite_answer rewrite_buffer
  not_rewritten r e = (rw e, (rw e, λ z. absurd (refused_numbered s r e z)))

  pub sheet_rewritten : (l : Layer) (w : Result ℕ SheetRefusal) (left : List ℕ) → read_sheet s ≡ Ok l → w ≡ write_sheet l (length before) → left ≡ buffer_after l before
      → RewritePromise s before left (written_back w)
  unfolding rewrite_answer rewrite_buffer
  sheet_rewritten l (Ok n) left e a b = (rw e (ap written_back a), (rw e b, λ z. rw b (rewritten s l e before n (sym a))))
  sheet_rewritten l (Err refusal) left e a b = (rw e (ap written_back a), (rw e b, λ z. absurd (sheet_numbered refusal.error z)))
