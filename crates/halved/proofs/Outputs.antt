-- The taps of an output by its position along each axis: those that the code finds are those of the output's number (`taps_are_inside`), and their places lie in the
-- tensors (`tap_bounds`).
use Rattle.std.specs.Prelude.{None, Option, Some}
use mathlib.Core.Path.{◌≡◌, refl, sym, ap, ap₂, ◌∙◌}
use mathlib.Core.List.{List}
use Prim.Native.Nat.{ℕ, ◌+◌, ◌*◌, ◌/◌, ◌%◌, ◌≤◌, ◌<◌}
use native.Mathlib.Nat.{mul_assoc, mul-pos, le_of_eq, le-mul_of_pos_right, mod-lt, div-add-mod'}
use native.Mathlib.Omega.{arith}
use lib.ListN.{length}
use lib.Ieee.{Float}
use Rattle.layer.proofs.Places.{place_within}
use Rattle.taps.specs.Joins.{forward}
use Rattle.taps.specs.Directions.{forward_below}
use Rattle.taps.proofs.Joins.{below_at}
use Rattle.taps.proofs.Exact.{both_outer, both_inner, both_at}
use Rattle.shape.specs.declared.Shape.{Shape}
use Rattle.shape.specs.Facts.{Grouped}
use Rattle.shape.specs.Volumes.{out_rows}
use Rattle.shape.proofs.Volumes.{input_rows_are}
use Rattle.tensor.specs.Table.{read, plus_zero}
use Rattle.sums.specs.declared.Profile.TheVariants.{Halved}
use Rattle.sums.specs.Taps.{Place, pair, tap_at, add_tap, halved, inside_only, output_of}
use Rattle.sums.proofs.Inside.{none_same}
use Rattle.sums.proofs.Halved.{halved_same}
use Rattle.sums.proofs.Outputs.{output_halved}
use Rattle.call.specs.Fitting.{Fitting}
use Rattle.call.proofs.Planes.{line_flat}
use Rattle.places.proofs.Lines.{LineBounds, line_bounds}
use Rattle.places.proofs.Taps.{row_number_is, number_of_parts, taps_by_axes, channel_below, tap_number, place_at, placed_none, placed_pair}
use Rattle.places.specs.Places.{placed, place_of}
use Rattle.places.specs.Taps.{inside_taps}
use Rattle.halved.specs.Outputs.{output_at, row_of_tap, depth_of_tap, channel_of_tap, lies_on, output_taps, Held}
use Rattle.halved.specs.declared.Output.{Output}

-- ---- what a tap adds to +0
module _ (input kernel : List Float) (o : Output) (t : ℕ) where
  abbrev z : Option ℕ
  z = forward o.z o.depth (depth_of_tap o t % o.z.kernel)

  abbrev y : Option ℕ
  y = forward o.y o.row (row_of_tap o t % o.y.kernel)

  abbrev x : Option ℕ
  x = forward o.x o.column (t % o.x.kernel)

  -- +0 where it lies outside along one axis
  nothing : lies_on o t ≡ None → plus_zero ≡ add_tap plus_zero (output_taps input kernel o t)
  nothing e = none_same plus_zero ∙ ap (add_tap plus_zero) (sym (placed_none input kernel _ _ _ e))

  pub outside_z : z ≡ None → plus_zero ≡ add_tap plus_zero (output_taps input kernel o t)
  outside_z e = nothing (rw (e, both_outer, both_outer))

  pub outside_y : y ≡ None → plus_zero ≡ add_tap plus_zero (output_taps input kernel o t)
  outside_y e = nothing (rw (e, both_inner, both_outer))

  pub outside_x : x ≡ None → plus_zero ≡ add_tap plus_zero (output_taps input kernel o t)
  outside_x e = nothing (rw (e, both_inner))

  -- its product where it lies inside along every axis
  pub inside : {iz iy ix : ℕ} → z ≡ Some iz → y ≡ Some iy → x ≡ Some ix
      → output_taps input kernel o t
      ≡ pair (read input ((((o.plane + channel_of_tap o t) * o.z.input + iz) * o.y.input + iy) * o.x.input + ix)) (read kernel (o.weight + t))
  inside {iz} {iy} {ix} ez ey ex =
      placed_pair input kernel _ _ ((iz * o.y.input + iy) * o.x.input + ix) (lies_on o t) (rw (ez, ey, ex, both_at, both_at))
      ∙ ap (λ (n : ℕ). pair (read input n) (read kernel (o.weight + t))) (flat (o.plane + channel_of_tap o t) iz iy ix)
    where
      flat : (p a b c : ℕ) → p * (o.z.input * o.y.input * o.x.input) + ((a * o.y.input + b) * o.x.input + c) ≡ ((p * o.z.input + a) * o.y.input + b) * o.x.input + c
      flat p a b c =
          line_flat p (o.z.input * o.y.input) o.x.input (a * o.y.input + b) c
          ∙ ap (λ (n : ℕ). n * o.x.input + c) (line_flat p o.z.input o.y.input a b)

-- ---- its place lies in the input, and every number on the way there fits
pub record TapBounds (o : Output) (t inputs iz iy ix : ℕ) : Type 0 where
  pub plane_max : o.plane + channel_of_tap o t ≤ 16777216
  pub depth_max : (o.plane + channel_of_tap o t) * o.z.input + iz ≤ 16777216
  pub row_max : ((o.plane + channel_of_tap o t) * o.z.input + iz) * o.y.input + iy ≤ 16777216
  pub place : (((o.plane + channel_of_tap o t) * o.z.input + iz) * o.y.input + iy) * o.x.input + ix < inputs

pub tap_bounds : (o : Output) {t inputs weights iz iy ix : ℕ} → Held o (t + 1) inputs weights → iz < o.z.input → iy < o.y.input → ix < o.x.input → TapBounds o t inputs iz iy ix
tap_bounds o {t} h lz ly lx =
    let a = h.plane t (omega arith) in
    let d = place_within a lz in
    let r = place_within d ly in
    let p = place_within r lx in
    let z-1 : 1 ≤ o.z.input = omega arith in
    let y-1 : 1 ≤ o.y.input = omega arith in
    let x-1 : 1 ≤ o.x.input = omega arith in
    let m = le-mul_of_pos_right h.planes z-1 in
    let n = le-mul_of_pos_right (h.planes * o.z.input) y-1 in
    let q = le-mul_of_pos_right (h.planes * o.z.input * o.y.input) x-1 in
    record {
      plane_max = omega (arith, h.inputs_in, h.inputs_max);
      depth_max = omega (arith, h.inputs_in, h.inputs_max);
      row_max = omega (arith, h.inputs_in, h.inputs_max);
      place = omega (arith, h.inputs_in);
    }

-- by what the code finds along each axis
pub tap_lies : (o : Output) (t : ℕ) {inputs weights iz iy ix : ℕ} {z y x : Option ℕ}
    → Held o (t + 1) inputs weights
    → z ≡ forward o.z o.depth (depth_of_tap o t % o.z.kernel)
    → z ≡ Some iz
    → y ≡ forward o.y o.row (row_of_tap o t % o.y.kernel)
    → y ≡ Some iy
    → x ≡ forward o.x o.column (t % o.x.kernel)
    → x ≡ Some ix
    → TapBounds o t inputs iz iy ix
tap_lies o t h fz ez fy ey fx ex =
    tap_bounds o h
    (below_at _ _ _ (forward_below _ _ _) (sym fz ∙ ez))
    (below_at _ _ _ (forward_below _ _ _) (sym fy ∙ ey))
    (below_at _ _ _ (forward_below _ _ _) (sym fx ∙ ex))

-- fewer taps
pub held_fewer : (o : Output) (taps fewer inputs weights : ℕ) → fewer ≤ taps → Held o taps inputs weights → Held o fewer inputs weights
held_fewer o taps fewer inputs weights l h =
    record {
      planes = h.planes;
      z_kernel = h.z_kernel;
      y_kernel = h.y_kernel;
      x_kernel = h.x_kernel;
      plane = λ t k. h.plane t (omega arith);
      inputs_in = h.inputs_in;
      weights_in = omega (arith, h.weights_in);
      inputs_max = h.inputs_max;
      weights_max = h.weights_max;
    }

-- ---- output number j
placed_same : {a b v w : ℕ} {y z : Option ℕ} → a ≡ b → v ≡ w → y ≡ z → placed a v y ≡ placed b w z
placed_same e g k = rw (e, g, k)

module _ (s : Shape) (h : Grouped s) {j : ℕ} (l : j < s.outputs) where
  -- its row
  pub row_bounds : LineBounds s (j / s.x.out) (out_rows s)
  row_bounds = line_bounds s (j / s.x.out) h (omega (arith, div-add-mod' j s.x.out)) refl

module _ (s : Shape) (input kernel : List Float) (h : Fitting s input kernel) where
  pub taps_1 : 1 ≤ s.taps
  taps_1 =
      let a = h.shape.sound in
      rw (taps_by_axes s h.shape) (mul-pos (mul-pos (mul-pos h.shape.i_1 a.z.kernel_1) a.y.kernel_1) a.x.kernel_1)

  -- its taps lie in the tensors
  pub held : {j : ℕ} → j < s.outputs → Held (output_at s j) s.taps (length input) (length kernel)
  held l =
      let a = h.shape.sound in
      let b = row_bounds s h.shape l in
      record {
        planes = s.n * s.c;
        z_kernel = a.z.kernel_1;
        y_kernel = a.y.kernel_1;
        x_kernel = a.x.kernel_1;
        plane = λ t k. omega (arith, b.plane, channel_below s h.shape k);
        inputs_in =
            le_of_eq (ap (λ (n : ℕ). n * s.x.input) (mul_assoc (s.n * s.c) s.z.input s.y.input ∙ ap (λ (n : ℕ). s.n * s.c * n) (sym (input_rows_are s)))
            ∙ sym (h.input_length ∙ a.inputs_is));
        weights_in = omega (arith, b.weight, h.kernel_length);
        inputs_max = omega (arith, h.input_length, a.inputs_max);
        weights_max = omega (arith, h.kernel_length, h.shape.weights_max);
      }

  -- a tap's number by its channel, depth, row and column
  number_is : (j t : ℕ) → let o = output_at s j in tap_number s (channel_of_tap o t) (depth_of_tap o t % s.z.kernel) (row_of_tap o t % s.y.kernel) (t % s.x.kernel) ≡ t
  number_is j t = sym (row_number_is s _ _ _ _) ∙ number_of_parts s t

  -- its taps are those of its number
  taps_are_inside : (j t : ℕ) → output_taps input kernel (output_at s j) t ≡ inside_taps s input kernel j t
  taps_are_inside j t =
      let a = h.shape.sound in
      let o = output_at s j in
      sym (ap₂ (inside_taps s input kernel) (sym (div-add-mod' j s.x.out)) (sym (number_is j t))
      ∙ ap (λ (w : Place). tap_at input kernel (inside_only w))
      (place_at s h.shape (j / s.x.out) (channel_of_tap o t) (mod-lt j a.x.out_1) (mod-lt (depth_of_tap o t) a.z.kernel_1) (mod-lt (row_of_tap o t) a.y.kernel_1) (mod-lt t a.x.kernel_1)
      ∙ placed_same
      (ap (λ (n : ℕ). (o.plane + channel_of_tap o t) * n) (ap (λ (n : ℕ). n * s.x.input) (input_rows_are s)))
      (ap (λ (n : ℕ). o.weight + n) (number_is j t))
      refl))

  pub halved_output : (j : ℕ) → halved (output_taps input kernel (output_at s j)) 0 s.taps ≡ output_of Halved (place_of s) s.taps input kernel j
  halved_output j = halved_same _ _ 0 s.taps (λ t _ _. taps_are_inside j t) ∙ sym (output_halved (place_of s) s.taps input kernel j)
