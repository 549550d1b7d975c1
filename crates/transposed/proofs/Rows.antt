-- The taps of a row of outputs by kernel rows: what `add_row` adds is what the definition adds. Output x stands at column x + begin, counted from the start
-- of the padding.
use Rattle.std.specs.Prelude.{None, Option, Some}
use mathlib.Core.Path.{◌≡◌, refl}
use mathlib.Core.List.{List}
use Prim.Native.Nat.{ℕ, ◌+◌, ◌*◌, ◌≤◌, ◌<◌}
use lib.ListN.{length}
use lib.Ieee.{Float}
use Rattle.taps.specs.Joins.{reach_of, backward, Below}
use Rattle.taps.specs.Directions.{reach_below}
use Rattle.taps.proofs.Joins.{below_at}
use Rattle.shape.specs.declared.Shape.{Shape}
use Rattle.shape.specs.Volumes.{input_rows, kernel_rows, on_rows}
use Rattle.tensor.specs.Table.{read}
use Rattle.tensor.proofs.Table.{part_length, part_read}
use Rattle.layer.proofs.Places.{place_div, place_mod}
use Rattle.sums.specs.Taps.{Place, at, none, pair, tap_at}
use Rattle.rows.specs.Rows.{Summed}
use Rattle.rows.proofs.Rows.{summed_away, summed_same}
use Rattle.call.proofs.Planes.{line_flat}
use Rattle.transposed.specs.declared.FirstTap.{FirstTap}
use Rattle.transposed.specs.Rows.{meet, tap_in, row_tap, row_of, place_from, row_taps}
use Rattle.transposed.proofs.Bounds.{RowBounds}

pub row_of_length : (t : List Float) (row : ℕ) {width : ℕ} → row * width + width ≤ length t → length (row_of t row width) ≡ width
unfolding row_of
row_of_length t row h = part_length t _ _ h

row_of_read : (t : List Float) (row width k : ℕ) → k < width → read (row_of t row width) k ≡ read t (row * width + k)
unfolding row_of
row_of_read t row width k h = part_read t (row * width) width k h

-- a tap of a kernel row that reaches row y of the input
tap_one : (input kernel : List Float) (line width b y : ℕ) (t : Option ℕ) (f : ℕ → ℕ → Place) → Below width t → ((x : ℕ) → f y x ≡ at (line * width + x) b)
    → tap_in t (λ x. pair (read (row_of input line width) x) (read kernel b)) ≡ tap_at input kernel (meet (Some y) t f)
unfolding tap_in meet tap_at
tap_one input kernel line width b y (Some x) f h e = rw (e x, row_of_read input line width x (below_at width (Some x) x h refl))
tap_one input kernel line width b y None f h e = refl

tap_none : (input kernel : List Float) (t : Option ℕ) (f : ℕ → ℕ → Place) → tap_at input kernel (meet None t f) ≡ none
unfolding meet tap_at
tap_none input kernel (Some x) f = refl
tap_none input kernel None f = refl

-- ---- kernel row k of channel i
module _ (s : Shape) (input kernel : List Float) (f : FirstTap) (i : ℕ) {k : ℕ} (h : k < kernel_rows s) where
  -- its tap j, by the kernel row's own numbers
  place_row : (column : ℕ) {j : ℕ} → j < s.x.kernel → place_from s f column (i * (kernel_rows s * s.x.kernel) + (k * s.x.kernel + j))
      ≡ meet (on_rows backward s f.row k) (reach_of s.x.input s.x.dilation s.x.stride column j)
      (λ y x. at (((f.plane + i) * input_rows s + y) * s.x.input + x) (((f.weight + i * s.o) * kernel_rows s + k) * s.x.kernel + j))
  unfolding place_from
  place_row column {j} l = rw (line_flat i (kernel_rows s) s.x.kernel k j, place_div (i * kernel_rows s + k) l, place_mod (i * kernel_rows s + k) l, place_div i h, place_mod i h)

  -- where it reaches no row of the input it adds nothing to a row of outputs
  pub row_away : {n : ℕ} {l : List Float} → None ≡ on_rows backward s f.row k
      → Summed (row_taps s input kernel f i k) s.x.kernel n l l
  row_away e = summed_away (λ x j p q. rw (place_row (x + s.x.begin) q, ← e) (tap_none input kernel _ _))

  -- where it reaches row y of the input, with the parts of the two tensors at hand
  pub row_taps_lem : (y : ℕ) (row weights : List Float) {n : ℕ} {l m : List Float}
      → Some y ≡ on_rows backward s f.row k
      → row ≡ row_of input ((f.plane + i) * input_rows s + y) s.x.input
      → weights ≡ row_of kernel ((f.weight + i * s.o) * kernel_rows s + k) s.x.kernel
      → RowBounds s f i k y (kernel_rows s) (input_rows s) (length input) (length kernel)
      → Summed (λ x j. row_tap row weights (x + s.x.begin) s.x.dilation s.x.stride j) (length weights) n l m
      → Summed (row_taps s input kernel f i k) s.x.kernel n l m
  unfolding row_tap
  row_taps_lem y row weights e er ew b m =
      summed_same (rw (er, ew, row_of_length kernel _ b.part) at m) (λ x j p q. rw (place_row (x + s.x.begin) q, ← e, row_of_length input _ b.row, row_of_read kernel _ _ j q)
      (tap_one input kernel _ _ _ y _ _ (reach_below _ _ _ _ _) (λ x. refl)))
