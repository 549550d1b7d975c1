-- The products of a shape: the pairs of an output and a tap are all pairs of an output plane and a channel, each with the pairs of a plane; and these are the pairs
-- along z, y and x multiplied (`pairs_grid`, cited for planes, rows and depths).
use mathlib.Core.Path.{◌≡◌, refl, sym, ap₂, ◌∙◌}
use mathlib.Core.Bool.{true}
use Prim.Native.Nat.{ℕ, ◌*◌, ◌≤◌}
use native.Mathlib.Nat.{le-mul_of_pos_right, mul_comm, mul-pos}
use native.Mathlib.Omega.{arith}
use Rattle.sizes.specs.declared.Span.{Span}
use Rattle.sizes.proofs.Division.{times_le}
use Rattle.taps.specs.Taps.{tap_inside, turned}
use Rattle.taps.specs.Joins.{forward, is_at}
use Rattle.taps.proofs.Joins.{forward_inside}
use Rattle.taps.proofs.Exact.{turned_inside}
use Rattle.shape.specs.declared.Shape.{Shape}
use Rattle.shape.specs.Facts.{Grouped}
use Rattle.shape.specs.Volumes.{out_rows, kernel_rows, out_volume, kernel_volume, on_rows, on_plane}
use Rattle.shape.proofs.Volumes.{rows_inside, plane_inside, out_rows_are, kernel_rows_are}
use Rattle.sums.specs.Taps.{is_inside}
use Rattle.call.proofs.Planes.{outputs_are, taps_are}
use Rattle.places.specs.Places.{place_of}
use Rattle.places.proofs.Places.{place_inside}
use Rattle.products.specs.Pairs.{pairs_below}
use Rattle.products.specs.Products.{products}
use Rattle.products.specs.Axes.{pairs_inside}
use Rattle.products.proofs.Pairs.{pairs_most, pairs_all, pairs_same, pairs_turned, pairs_grid}

-- ---- one axis
axis_pairs : (a : Span) → pairs_below a.out a.kernel (λ p k. is_at (forward a p k)) ≡ pairs_inside a
unfolding pairs_inside
axis_pairs a = pairs_same a.out a.kernel _ (tap_inside a) (λ p k h l. forward_inside a p k)

pub axis_turned : (a : Span) → pairs_inside (turned a) ≡ pairs_inside a
unfolding pairs_inside
axis_turned a =
    sym (pairs_turned a.out a.kernel (tap_inside a)
    ∙ pairs_same a.kernel a.out _ (tap_inside (turned a)) (λ k p h l. turned_inside a k p))

-- ---- the axes of a plane
module _ (s : Shape) where
  abbrev row_pairs : ℕ
  row_pairs = pairs_below (out_rows s) (kernel_rows s) (λ p k. is_at (on_rows forward s p k))

  abbrev plane_pairs : ℕ
  plane_pairs = pairs_below (out_volume s) (kernel_volume s) (λ p k. is_at (on_plane forward s p k))

  rows_by_axes : row_pairs ≡ pairs_inside s.z * pairs_inside s.y
  rows_by_axes =
      ap₂ (λ (n k : ℕ). pairs_below n k (λ p t. is_at (on_rows forward s p t))) (out_rows_are s) (kernel_rows_are s)
      ∙ pairs_same (s.z.out * s.y.out) (s.z.kernel * s.y.kernel) _ _ (λ p k h l. rows_inside forward s p k)
      ∙ pairs_grid s.z.out s.z.kernel s.y.out s.y.kernel (λ p k. is_at (forward s.z p k)) (λ p k. is_at (forward s.y p k))
      ∙ ap₂ (λ (a b : ℕ). a * b) (axis_pairs s.z) (axis_pairs s.y)

  plane_by_axes : plane_pairs ≡ pairs_inside s.z * pairs_inside s.y * pairs_inside s.x
  plane_by_axes =
      pairs_same (out_volume s) (kernel_volume s) _ _ (λ p k h l. plane_inside forward s p k)
      ∙ pairs_grid (out_rows s) (kernel_rows s) s.x.out s.x.kernel (λ p k. is_at (on_rows forward s p k)) (λ p k. is_at (forward s.x p k))
      ∙ ap₂ (λ (a b : ℕ). a * b) rows_by_axes (axis_pairs s.x)

  -- ---- all outputs and taps
  module _ (h : Grouped s) where
    pub by_axes : s.n * s.channels * s.i * (pairs_inside s.z * pairs_inside s.y * pairs_inside s.x) ≡ products s
    unfolding products
    by_axes =
        sym (ap₂ (λ (n k : ℕ). pairs_below n k (λ j t. is_inside (place_of s j t))) (outputs_are s h.sound) (taps_are s h)
        ∙ pairs_same (s.n * s.channels * out_volume s) (s.i * kernel_volume s) _ _ (λ j t u v. place_inside s j t)
        ∙ pairs_grid (s.n * s.channels) s.i (out_volume s) (kernel_volume s) (λ j t. true) (λ p k. is_at (on_plane forward s p k))
        ∙ ap₂ (λ (a b : ℕ). a * b) (pairs_all (s.n * s.channels) s.i (λ j t. true) (λ j t u v. refl)) plane_by_axes)

-- "and never above outputs times K"
pub products_most : (s : Shape) → products s ≤ s.outputs * s.taps
unfolding products
products_most s = pairs_most s.outputs s.taps (λ j t. is_inside (place_of s j t))

-- ---- what the code multiplies fits: no factor is above its part of outputs times K, which is at most 16,777,216 · 4,096
pub record Bounds (s : Shape) : Type 0 where
  pub rows : pairs_inside s.z * pairs_inside s.y ≤ 68719476736
  pub positions : pairs_inside s.z * pairs_inside s.y * pairs_inside s.x ≤ 68719476736
  pub planes : s.n * s.channels ≤ 16777216
  pub channels : s.n * s.channels * s.i ≤ 68719476736
  pub all : products s ≤ 68719476736

pub bounds : (s : Shape) → Grouped s → Bounds s
bounds s h =
    let f = h.sound in
    let o = outputs_are s f in
    let t = taps_are s h in
    let planes = mul-pos f.n_1 f.channels_1 in
    let volume = rw (mul_comm (out_volume s) (s.n * s.channels)) at (le-mul_of_pos_right (out_volume s) planes) in
    let kernel = rw (mul_comm (kernel_volume s) s.i) at (le-mul_of_pos_right (kernel_volume s) h.i_1) in
    let rows = le-mul_of_pos_right (out_rows s) f.x.out_1 in
    let a = le-mul_of_pos_right (s.n * s.channels) (mul-pos f.out_rows_1 f.x.out_1) in
    let b = le-mul_of_pos_right s.i (mul-pos f.kernel_rows_1 f.x.kernel_1) in
    record {
      rows = omega (
        arith,
        rows_by_axes s,
        pairs_most (out_rows s) (kernel_rows s) (λ p k. is_at (on_rows forward s p k)),
        times_le {a = out_rows s} {b = kernel_rows s} 16777216 4096 (omega (arith, f.outputs_max)) f.kernel_rows_max,
      );
      positions = omega (
        arith,
        plane_by_axes s,
        pairs_most (out_volume s) (kernel_volume s) (λ p k. is_at (on_plane forward s p k)),
        times_le {a = out_volume s} {b = kernel_volume s} 16777216 4096 (omega (arith, f.outputs_max)) (omega (arith, h.taps_4096)),
      );
      planes = omega (arith, f.outputs_max);
      channels = times_le {a = s.n * s.channels} {b = s.i} 16777216 4096 (omega (arith, f.outputs_max)) (omega (arith, h.taps_4096));
      all = omega (arith, products_most s, times_le {a = s.outputs} {b = s.taps} 16777216 4096 f.outputs_max h.taps_4096);
    }
