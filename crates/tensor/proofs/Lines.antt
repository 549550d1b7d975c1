-- Rows of w elements each, one after another in a list: row number `line` begins at place line · w. Where a row lies, and what a loop that writes row after row
-- keeps.
use mathlib.Core.Path.{◌≡◌, sym, ap, ◌∙◌}
use mathlib.Core.List.{List, [], ◌∷◌, ◌++◌, append_assoc, append-nil}
use Prim.Native.Nat.{ℕ, zero, suc, ◌+◌, ◌-◌, ◌*◌, ◌/◌, ◌≤◌, ◌<◌}
use native.Mathlib.Nat.{add-zero, add-suc, add-mul, one-mul, div-mul-le_self}
use native.Mathlib.Omega.{arith}
use lib.ListN.{length, take, drop, length-append}
use lib.Seq.{take_at, length-take-le}
use Rattle.tensor.specs.Table.{tabulate}
use Rattle.tensor.proofs.Table.{tabulate_length, Filled, part_back}
use Rattle.layer.proofs.Places.{part_within, place_div}

pub line_start : (line : ℕ) {w : ℕ} → 1 ≤ w → line * w / w ≡ line
line_start line {w} h = ap (λ (n : ℕ). n / w) (sym (add-zero (line * w))) ∙ place_div line h

-- ---- a loop over the rows of a list by their numbers: the row of a turn ends inside the list, and the rows are the whole list
pub row_end : (line w len : ℕ) → line < len / w → line * w + w ≤ len
row_end line w len l =
    omega (arith, part_within {a = line} {n = len / w} w l, div-mul-le_self len w)

pub rows_end : (lines : ℕ) {w len : ℕ} → len ≡ lines * w → 1 ≤ w → len / w * w ≡ len
rows_end lines {w} e h = rw (e, line_start lines {w = w} h)

module _ {A : Type 0} where
  -- a tabulated list goes on where another ended
  pub tabulate_more : (f : ℕ → A) (j w : ℕ) → tabulate f j ++ tabulate (λ x. f (j + x)) w ≡ tabulate f (j + w)
  unfolding tabulate
  tabulate_more f j zero = rw add-zero (append-nil (tabulate f j))
  tabulate_more f j (suc w) = rw (add-suc, ← tabulate_more f j w) (sym (append_assoc (tabulate f j) (tabulate (λ x. f (j + x)) w) (f (j + w) ∷ [])))

  -- the loop's invariant is that the first `line` rows hold f 0, f 1, ..; one turn, of which the row's part is lent and handed back
  pub rows_more : (w : ℕ) (f : ℕ → A) (line : ℕ) {n : ℕ} {l ys : List A} → Filled f n l (line * w) → ys ≡ tabulate (λ x. f (line * w + x)) w → line * w + w ≤ length l
      → Filled f n (take (line * w) l ++ (ys ++ drop (line * w + w - line * w) (drop (line * w) l))) ((line + 1) * w)
  rows_more w f line {n} {l} {ys} i h m =
      let rest = drop w (drop (line * w) l) in
      let e : line * w + w - line * w ≡ w = omega arith in
      let z : (line + 1) * w ≡ line * w + w = rw (add-mul line 1 w, one-mul w) in
      let part : length ys ≡ w = ap length h ∙ tabulate_length (λ x. f (line * w + x)) w in
      let p : length (take (line * w) l ++ ys) ≡ line * w + w = length-append (take (line * w) l) ys ∙ ap (λ (a : ℕ). a + length ys) (length-take-le (line * w) l i.within) ∙ ap (λ (a : ℕ). line * w + a) part in
      let k : length (take (line * w) l ++ (ys ++ rest)) ≡ length l = part_back l ys (line * w) w m part in
      rw (e, z)
      (record {
        within = omega arith;
        kept = k ∙ i.kept;
        front = ap (take (line * w + w)) (sym (append_assoc (take (line * w) l) ys rest)) ∙ take_at (take (line * w) l ++ ys) rest (line * w + w) p ∙ (λ d. i.front d ++ h d) ∙ tabulate_more f (line * w) w;
      })
