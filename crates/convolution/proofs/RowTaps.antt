-- A kernel row under a line of outputs, by the row of the input under it and by its weights; a line by parts.
use mathlib.Core.Path.{◌≡◌, refl, sym, ap, ap₂, ◌∙◌}
use mathlib.Core.List.{List, ◌++◌}
use mathlib.Core.Bool.{Bool, true, false}
use Prim.Native.Nat.{ℕ, ◌+◌, ◌-◌, ◌*◌, ◌≤◌, ◌<◌}
use native.Mathlib.Nat.{zero-add}
use native.Mathlib.Omega.{arith}
use lib.ListN.{length, take, drop}
use lib.Ieee.{Float}
use Rattle.taps.specs.Taps.{tap_inside, position_of}
use Rattle.taps.proofs.Exact.{position_within}
use Rattle.shape.specs.declared.Shape.{Shape}
use Rattle.shape.specs.Volumes.{kernel_volume}
use Rattle.tensor.specs.Table.{read}
use Rattle.tensor.proofs.Table.{part_length, part_read, part_back}
use Rattle.sums.specs.Taps.{pair}
use Rattle.rows.specs.Rows.{Summed}
use Rattle.rows.proofs.Rows.{summed_part, summed_same}
use Rattle.call.specs.Fitting.{Fitting}
use Rattle.places.specs.Taps.{inside_taps, plane_taps}
use Rattle.convolution.proofs.Inside.{column_outside, tap_inside_lem}
use Rattle.convolution.specs.Inside.{LineOf, line_taps, row_taps, span_taps, row_number, row_of, weights_of, RowInside, RowFits}
use Rattle.convolution.specs.declared.Line.{Line}
use Rattle.convolution.specs.declared.KernelRow.{KernelRow}
use Rattle.convolution.proofs.Bounds.{values_bounds, weights_bounds}
use Rattle.convolution.proofs.Runs.{span_inside, span_outside}

module _ (s : Shape) (input kernel : List Float) (h : Fitting s input kernel) (f : Line) (g : LineOf s f) (r : KernelRow) (i : RowInside s f r) {row weights : List Float}
    (er : row ≡ row_of s input f r) (ew : weights ≡ weights_of s kernel f r) where
  pub row_fits : RowFits s.x (length row) (length weights)
  row_fits =
      record {
        limits = h.shape.sound.x;
        row_is = ap length er ∙ part_length input _ s.x.input (values_bounds s f r h.shape h.input_length g i).end;
        weights_are = ap length ew ∙ part_length kernel _ s.x.kernel (weights_bounds s f r h.shape h.kernel_length g i).end;
      }

  -- one tap
  row_tap_lem : {p k : ℕ} → p < s.x.out → k < s.x.kernel
      → span_taps s.x row weights p k ≡ inside_taps s input kernel (f.number * s.x.out + p) (r.channel * kernel_volume s + (r.depth * plane_taps s + (r.row * s.x.kernel + k)))
  row_tap_lem {p} {k} lp lk = go (tap_inside s.x p k) refl
    where
      go : (b : Bool) → tap_inside s.x p k ≡ b
          → span_taps s.x row weights p k ≡ inside_taps s input kernel (f.number * s.x.out + p) (r.channel * kernel_volume s + (r.depth * plane_taps s + (r.row * s.x.kernel + k)))
      go true e =
          let w = r.channel * kernel_volume s + (r.depth * plane_taps s + r.row * s.x.kernel) in
          let z : f.weight + w + k ≡ f.weight + (r.channel * kernel_volume s + (r.depth * plane_taps s + (r.row * s.x.kernel + k))) = omega arith in
          span_inside s.x row weights p k e
          ∙ ap₂ pair (ap (λ (l : List Float). read l (position_of s.x p k)) er ∙ part_read input (row_number s f r * s.x.input) s.x.input (position_of s.x p k) (position_within s.x p k e))
          (ap (λ (l : List Float). read l k) ew ∙ part_read kernel (f.weight + w) s.x.kernel k lk ∙ ap (read kernel) z)
          ∙ sym (tap_inside_lem s h.shape input kernel f g r i lp lk e)
      go false e = span_outside s.x row weights p k e ∙ sym (column_outside s h.shape input kernel f g r.channel lp i.depth.depth_below i.row_below lk e)

  pub row_summed : (p : ℕ) {n : ℕ} {out o : List Float} → p + n ≤ s.x.out → Summed (λ j. span_taps s.x row weights (p + j)) s.x.kernel n out o
      → Summed (row_taps s input kernel f r p) s.x.kernel n out o
  row_summed p l a = summed_same a (λ j t u v. row_tap_lem (omega arith) v)

-- ---- a line by parts: those from a up to b, lent and handed back
pub line_part : (s : Shape) (input kernel : List Float) (line a b : ℕ) {p : ℕ} {out l ys : List Float} → p ≡ a → a ≤ b → b ≤ length out → Summed (line_taps s input kernel line 0) s.taps a out l
    → Summed (line_taps s input kernel line p) s.taps (length (take (b - a) (drop a l))) (take (b - a) (drop a l)) ys
    → Summed (line_taps s input kernel line 0) s.taps b out (take a l ++ (ys ++ drop (b - a) (drop a l)))
line_part s input kernel line a b {p = p} {l = l} {ys = ys} z h m i j =
    let w : a + (b - a) ≡ b = omega arith in
    let n = part_length l a (b - a) (omega (arith, i.kept)) in
    let e = part_back l ys a (b - a) (omega (arith, i.kept)) (j.kept ∙ n) in
    rw w at (summed_part _ _ a (b - a) i (omega arith)
    (summed_same (rw n at j) (λ x t u v.
    ap (λ (n : ℕ). inside_taps s input kernel (line * s.x.out + n) t) (ap (λ (n : ℕ). n + x) z ∙ sym (zero-add (a + x))))) e)
