-- Laws of loops over rows and over their first sums in a wider form than the code's own (`rows_more` in `tensor`, `first_taps` in `rows`): of any rest that follows a
-- row, and of a stride and a dilation that are handed on by other names.
use mathlib.Core.Path.{◌≡◌, sym, ap, ◌∙◌}
use mathlib.Core.List.{List, ◌++◌, append_assoc}
use Prim.Native.Nat.{ℕ, ◌+◌, ◌-◌, ◌*◌, ◌≤◌}
use native.Mathlib.Nat.{zero-mul, add-mul, one-mul, sub-zero}
use native.Mathlib.Omega.{arith}
use lib.ListN.{length, take, drop, length-append}
use lib.Seq.{take_at, length-take-le}
use lib.Ieee.{Float}
use Rattle.tensor.specs.Table.{tabulate}
use Rattle.tensor.proofs.Table.{tabulate_length, Filled, filled_none}
use Rattle.tensor.proofs.Lines.{tabulate_more}
use Rattle.rows.specs.Rows.{Summed, across, held}
use Rattle.rows.proofs.Held.{first_taps}

module _ {A : Type 0} where
  -- a loop's invariant: the first `line` rows hold f 0, .., f (j - 1)
  abbrev pub Lines : ℕ → (ℕ → A) → ℕ → List A → ℕ → ℕ → Type 0
  Lines w f n l line j = (j ≡ line * w) × Filled f n l j

  -- before the first turn
  pub lines_none : (w : ℕ) (f : ℕ → A) (l : List A) → Lines w f (length l) l 0 0
  lines_none w f l = (sym (zero-mul w), filled_none f l)

  -- one turn; `rest` is what follows the row
  pub lines_more : (w : ℕ) (f : ℕ → A) (line : ℕ) {n j : ℕ} {l ys : List A} (rest : List A) → Lines w f n l line j → ys ≡ tabulate (λ x. f (line * w + x)) w
      → length (take j l ++ (ys ++ rest)) ≡ length l → j + w ≤ length l → Lines w f n (take j l ++ (ys ++ rest)) (line + 1) (j + w)
  lines_more w f line {n} {j} {l} {ys} rest i h k m =
      let e : ys ≡ tabulate (λ x. f (j + x)) w = rw i.0 h in
      let p : length (take j l ++ ys) ≡ j + w = length-append (take j l) ys ∙ ap (λ (a : ℕ). a + length ys) (length-take-le j l i.1.within) ∙ ap (λ (a : ℕ). j + a) (ap length e ∙ tabulate_length (λ x. f (j + x)) w) in (
        rw (add-mul line 1 w, one-mul w) (ap (λ (p : ℕ). p + w) i.0),
        record {
          within = omega arith;
          kept = k ∙ i.1.kept;
          front = ap (take (j + w)) (sym (append_assoc (take j l) ys rest)) ∙ take_at (take j l ++ ys) rest (j + w) p ∙ (λ d. i.1.front d ++ e d) ∙ tabulate_more f j w;
        },
      )

-- the first sums, lent as a part and handed back
module _ (sums values weights : List Float) {stride dilation s d r : ℕ} (es : stride ≡ s) (ed : dilation ≡ d) (e : r ≡ held (length sums) (length values) (length weights) stride dilation) where
  pub part_taps : {ys : List Float} → Summed (across values weights s d) (length weights) (length (take (r - 0) sums)) (take (r - 0) sums) ys → length (ys ++ drop (r - 0) sums) ≡ length sums
      → Summed (across values weights stride dilation) (length weights) (held (length sums) (length values) (length weights) stride dilation) sums (ys ++ drop (r - 0) sums)
  part_taps i k = rw (es, ed, sub-zero r) (first_taps sums values weights s d (rw (es, ed) at e) (rw (sub-zero r) at i))
