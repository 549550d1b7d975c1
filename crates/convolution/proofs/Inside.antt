-- The taps of a line's outputs by channel, depth, row and column: what each has for the sum over the taps inside the input.
use Rattle.std.specs.Prelude.{None, Some}
use mathlib.Core.Path.{◌≡◌, sym, ap, ap₂, ◌∙◌}
use mathlib.Core.List.{List}
use mathlib.Core.Bool.{true, false, false≢true}
use Prim.Native.Nat.{ℕ, ◌+◌, ◌*◌, ◌<◌}
use native.Mathlib.Omega.{arith}
use borrow.Author.Tests.{eqb-true}
use lib.Ieee.{Float}
use Rattle.taps.specs.Taps.{tap_inside, position_of}
use Rattle.taps.proofs.Exact.{exactly_none, forward_at, forward_outside, both_outer, both_inner, both_at}
use Rattle.shape.specs.declared.Shape.{Shape}
use Rattle.shape.specs.Facts.{Grouped}
use Rattle.shape.specs.Volumes.{input_rows, input_volume}
use Rattle.tensor.specs.Table.{read}
use Rattle.sums.specs.Taps.{Place, Factors, none, pair, tap_at, inside_only}
use Rattle.rows.specs.Rows.{Summed}
use Rattle.rows.proofs.Rows.{summed_away}
use Rattle.rows.proofs.Ranges.{volume_none}
use Rattle.call.proofs.Planes.{line_flat, taps_are}
use Rattle.places.proofs.Taps.{volume_is, tap_number, lies, place_at, placed_pair, placed_none}
use Rattle.places.specs.Taps.{inside_taps}
use Rattle.convolution.specs.Inside.{LineOf, line_taps, row_number, RowInside, first_output, none_inside, PartInside}
use Rattle.convolution.specs.declared.Line.{Line}
use Rattle.convolution.specs.declared.KernelRow.{KernelRow}
use Rattle.convolution.specs.declared.Columns.{Columns}
use Rattle.convolution.specs.declared.Columns.TheVariants.{Alike, Whole}

module _ (s : Shape) (h : Grouped s) (input kernel : List Float) (f : Line) (g : LineOf s f) where
  -- nothing where it lies outside along one axis
  module _ (i : ℕ) {p a b k : ℕ} (hp : p < s.x.out) (ha : a < s.z.kernel) (hb : b < s.y.kernel) (hk : k < s.x.kernel) where
    none_at : lies s h f.number i hp ha hb hk ≡ None → inside_taps s input kernel (f.number * s.x.out + p) (tap_number s i a b k) ≡ none
    none_at e = rw (place_at s h f.number i hp ha hb hk) (placed_none input kernel _ _ _ e)

    pub depth_outside : tap_inside s.z f.depth a ≡ false → inside_taps s input kernel (f.number * s.x.out + p) (tap_number s i a b k) ≡ none
    depth_outside e = none_at (rw (← g.depth_is, forward_outside s.z f.depth a e, both_outer, both_outer))

    pub row_outside : tap_inside s.y f.row b ≡ false → inside_taps s input kernel (f.number * s.x.out + p) (tap_number s i a b k) ≡ none
    row_outside e = none_at (rw (← g.row_is, forward_outside s.y f.row b e, both_inner, both_outer))

    pub column_outside : tap_inside s.x p k ≡ false → inside_taps s input kernel (f.number * s.x.out + p) (tap_number s i a b k) ≡ none
    column_outside e = none_at (rw (forward_outside s.x p k e, both_inner))

  -- its two factors where it lies inside along every axis
  pub tap_inside_lem : (r : KernelRow) {p k : ℕ} → RowInside s f r → p < s.x.out → k < s.x.kernel → tap_inside s.x p k ≡ true
      → inside_taps s input kernel (f.number * s.x.out + p) (tap_number s r.channel r.depth r.row k)
      ≡ pair (read input (row_number s f r * s.x.input + position_of s.x p k)) (read kernel (f.weight + tap_number s r.channel r.depth r.row k))
  tap_inside_lem r {p} {k} i hp hk e =
      let z = position_of s.z f.depth r.depth in
      let y = position_of s.y f.row r.row in
      let x = position_of s.x p k in
      let q = (z * s.y.input + y) * s.x.input + x in
      let t = lies s h f.number r.channel hp i.depth.depth_below i.row_below hk in
      let at-q : t ≡ Some q = rw (← g.depth_is, ← g.row_is, forward_at s.z f.depth r.depth i.depth.depth_inside, forward_at s.y f.row r.row i.row_inside, forward_at s.x p k e, both_at, both_at) in
      ap (λ (w : Place). tap_at input kernel (inside_only w)) (place_at s h f.number r.channel hp i.depth.depth_below i.row_below hk)
      ∙ placed_pair input kernel _ _ q t at-q
      ∙ ap₂ (λ (n m : ℕ). pair (read input n) (read kernel m))
      (ap (λ (n : ℕ). (n + r.channel) * input_volume s + q) (sym g.plane_is) ∙ line_flat (f.plane + r.channel) (input_rows s) s.x.input (z * s.y.input + y) x)
      (ap (λ (n : ℕ). n + tap_number s r.channel r.depth r.row k) (sym g.weight_is))

-- no tap of an output, where none is one
pub all_none : (s : Shape) → Grouped s → (taps : ℕ → Factors) → ((i a b k : ℕ) → a < s.z.kernel → b < s.y.kernel → k < s.x.kernel → taps (tap_number s i a b k) ≡ none) → (t : ℕ) → t < s.taps → taps t ≡ none
all_none s h taps away t l =
    volume_none taps s.i s.z.kernel s.y.kernel s.x.kernel (λ i a b k li la lb lk. rw (volume_is s) (away i a b k la lb lk)) t
    (rw (volume_is s) (rw (taps_are s h) at l))

-- outputs of a line that have no tap inside the input
pub line_away : (s : Shape) → Grouped s → (input kernel : List Float) (line p : ℕ) {n : ℕ} {l : List Float}
    → ((x i a b k : ℕ) → x < n → a < s.z.kernel → b < s.y.kernel → k < s.x.kernel → line_taps s input kernel line p x (tap_number s i a b k) ≡ none)
    → Summed (line_taps s input kernel line p) s.taps n l l
line_away s h input kernel line p away = summed_away (λ x t u v. all_none s h (line_taps s input kernel line p x) (λ i a b k la lb lk. away x i a b k u la lb lk) t v)

-- a part of a line that has no tap along x inside the input
pub part_away : (s : Shape) (h : Grouped s) (input kernel : List Float) (f : Line) (g : LineOf s f) (c : Columns) {n : ℕ} {l : List Float} → PartInside s.x c n → none_inside c ≡ true
    → Summed (line_taps s input kernel f.number (first_output c)) s.taps n l l
part_away s h input kernel f g (Alike output taps) {n} k z =
    let e = eqb-true taps.count 0 z in
    line_away s h input kernel f.number output (λ x i a b t p la lb lt.
    column_outside s h input kernel f g i (omega (arith, k.0)) la lb lt (exactly_none (rw e at (k.1.alike x p)) lt))
part_away s h input kernel f g Whole {n} k z = absurd (false≢true z)
