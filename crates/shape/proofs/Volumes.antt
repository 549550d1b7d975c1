-- Laws of the axes of a plane as one. Beside the code that computes rows, number 7 and the reading laws, nothing else opens the definitions of rows.
use Rattle.std.specs.Prelude.{Option}
use Prim.Native.Nat.{ℕ, ◌+◌, ◌*◌, ◌/◌, ◌%◌, ◌≤◌, ◌<◌}
use native.Mathlib.Nat.{le-mul_of_pos_right, mul_comm, div-eq_of_lt, mod-eq_of_lt}
use native.Mathlib.Omega.{arith}
use mathlib.Core.Path.{◌≡◌, refl, sym}
use mathlib.Core.Bool.{true, ◌&&◌}
use lib.Dec.{ltb, eqb}
use borrow.Author.Tests.{ltb-true, eqb-true}
use Rattle.layer.proofs.Tests.{and_both}
use Rattle.layer.proofs.Places.{place_div, place_mod}
use Rattle.sizes.specs.declared.Span.{Span}
use Rattle.taps.specs.Joins.{both, is_at, Below}
use Rattle.taps.specs.Directions.{TapLaws}
use Rattle.taps.proofs.Joins.{both_first, both_below, both_inside}
use Rattle.shape.specs.declared.Shape.{Shape}
use Rattle.shape.specs.Volumes.{input_rows, kernel_rows, out_rows, input_volume, on_rows, on_plane}
use Rattle.shape.specs.Facts.{Sound}

module _ (f : Span → ℕ → ℕ → Option ℕ) (s : Shape) where
  -- row y of depth z of the output plane, and row b of depth a of the kernel
  pub rows_at : (z a : ℕ) {y b : ℕ} → y < s.y.out → b < s.y.kernel
      → on_rows f s (z * s.y.out + y) (a * s.y.kernel + b) ≡ both s.y.input (f s.z z a) (f s.y y b)
  unfolding on_rows
  rows_at z a h k = rw (place_div z h, place_mod z h, place_div a k, place_mod a k)

  -- position c of row r of the output plane, and position b of row a of the kernel
  pub plane_at : (r a : ℕ) {c b : ℕ} → c < s.x.out → b < s.x.kernel
      → on_plane f s (r * s.x.out + c) (a * s.x.kernel + b) ≡ both s.x.input (on_rows f s r a) (f s.x c b)
  unfolding on_plane
  plane_at r a h k = rw (place_div r h, place_mod r h, place_div a k, place_mod a k)

  -- where a tap of each axis lies inside the axis, a kernel row lies at a row of the input, and a kernel position at a position of the plane
  module _ (below : (a : Span) (p k : ℕ) → Below a.input (f a p k)) where
    pub rows_below : (p k : ℕ) → Below (input_rows s) (on_rows f s p k)
    unfolding input_rows on_rows
    rows_below p k = both_below s.z.input s.y.input _ _ (below s.z _ _) (below s.y _ _)

    pub plane_below : (p k : ℕ) → Below (input_volume s) (on_plane f s p k)
    unfolding on_plane
    plane_below p k = both_below (input_rows s) s.x.input (on_rows f s _ _) (f s.x _ _) (rows_below _ _) (below s.x _ _)

  -- inside the input where it is on every axis
  pub rows_inside : (p k : ℕ) → is_at (on_rows f s p k) ≡ is_at (f s.z (p / s.y.out) (k / s.y.kernel)) && is_at (f s.y (p % s.y.out) (k % s.y.kernel))
  unfolding on_rows
  rows_inside p k = both_inside s.y.input (f s.z (p / s.y.out) (k / s.y.kernel)) (f s.y (p % s.y.out) (k % s.y.kernel))

  pub plane_inside : (p k : ℕ) → is_at (on_plane f s p k) ≡ is_at (on_rows f s (p / s.x.out) (k / s.x.kernel)) && is_at (f s.x (p % s.x.out) (k % s.x.kernel))
  unfolding on_plane
  plane_inside p k = both_inside s.x.input (on_rows f s (p / s.x.out) (k / s.x.kernel)) (f s.x (p % s.x.out) (k % s.x.kernel))

-- ---- a row of the first depth
module _ {f : Span → ℕ → ℕ → Option ℕ} (laws : TapLaws f) where
  pub first_depth : (s : Shape) (p k : ℕ) → ltb p s.y.out && ltb k s.y.kernel && eqb s.z.begin 0 && ltb 0 s.z.input ≡ true → f s.y p k ≡ on_rows f s p k
  unfolding on_rows
  first_depth s p k e =
      let a = and_both _ (ltb 0 s.z.input) e in
      let b = and_both _ (eqb s.z.begin 0) a.0 in
      let c = and_both (ltb p s.y.out) (ltb k s.y.kernel) b.0 in
      let hp = ltb-true p s.y.out c.0 in
      let hk = ltb-true k s.y.kernel c.1 in
      let t = laws.first_tap_lem s.z (eqb-true s.z.begin 0 b.1) (ltb-true 0 s.z.input a.1) in
      sym (rw (div-eq_of_lt hp, div-eq_of_lt hk, mod-eq_of_lt hp, mod-eq_of_lt hk, t) (both_first s.y.input (f s.y p k)))

-- ---- rows by depths
pub kernel_rows_are : (s : Shape) → kernel_rows s ≡ s.z.kernel * s.y.kernel
unfolding kernel_rows
kernel_rows_are s = refl

pub out_rows_are : (s : Shape) → out_rows s ≡ s.z.out * s.y.out
unfolding out_rows
out_rows_are s = refl

pub input_rows_are : (s : Shape) → input_rows s ≡ s.z.input * s.y.input
unfolding input_rows
input_rows_are s = refl

-- ---- an output has as many channels as elements at most
pub channels_max : (s : Shape) → Sound s → s.channels ≤ 16777216
channels_max s h =
    let a = rw mul_comm at (le-mul_of_pos_right s.channels h.n_1) in
    let b = le-mul_of_pos_right (s.n * s.channels) h.out_rows_1 in
    let c = le-mul_of_pos_right (s.n * s.channels * out_rows s) h.x.out_1 in
    omega (arith, h.outputs_max, h.outputs_is)
