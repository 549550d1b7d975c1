-- A line is a row of an output plane, numbered through all planes: its planes of the input, its weights and its row lie in their counts. `lines` is the number of rows
-- that the code is told.
use mathlib.Core.Path.{◌≡◌}
use Prim.Native.Nat.{ℕ, ◌+◌, ◌*◌, ◌/◌, ◌%◌, ◌≤◌, ◌<◌}
use native.Mathlib.Nat.{mod-lt}
use native.Mathlib.Omega.{arith}
use Rattle.layer.proofs.Places.{part_within, mod_within}
use Rattle.shape.specs.Facts.{Grouped}
use Rattle.shape.specs.declared.Shape.{Shape}
use Rattle.shape.specs.Volumes.{out_rows}
use Rattle.tensor.proofs.Lines.{line_start}
use Rattle.call.proofs.Planes.{plane_parts, products, output_plane, group_within, planes_are}

-- the planes, the weights and the row of a line
pub record LineBounds (s : Shape) (line lines : ℕ) : Type 0 where
  pub plane : line / lines / s.o * s.i + s.i ≤ s.n * s.c
  pub plane_max : s.n * s.c ≤ 16777216
  pub weight : line / lines % s.channels * s.taps + s.taps ≤ s.weights
  pub weight_max : s.weights ≤ 16777216
  pub row_max : line % lines ≤ 16777216

pub line_bounds : (s : Shape) (line : ℕ) {lines : ℕ} → Grouped s → line * s.x.out < s.outputs → lines ≡ out_rows s → LineBounds s line lines
line_bounds s line h l e =
    let f = h.sound in
    let m = products s f in
    let a = plane_parts (out_rows s) s.x.out (line * s.x.out) f.out_rows_1 f.x.out_1 in
    let p = rw (a.plane, line_start line {w = s.x.out} f.x.out_1) at (output_plane s f l) in
    rw e (record {
      plane = omega (arith, planes_are s h, part_within s.i (group_within s h p));
      plane_max = m.planes_max;
      weight = omega (arith, h.weights_is, part_within s.taps (mod_within s.n s.channels p));
      weight_max = h.weights_max;
      row_max = omega (arith, mod-lt line f.out_rows_1, m.out_rows_max);
    })
