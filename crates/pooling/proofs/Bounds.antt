-- Bounds of a line of outputs of a sound shape: its row, and the plane of the input that it is taken from.
use Rattle.std.specs.Prelude.{Option, Some}
use Prim.Native.Nat.{ℕ, ◌+◌, ◌*◌, ◌/◌, ◌%◌, ◌≤◌}
use native.Mathlib.Nat.{mod-lt, mul-le-mul_right, le-mul_of_pos_right}
use native.Mathlib.Omega.{arith}
use mathlib.Core.Path.{◌≡◌, sym, ap, ◌∙◌}
use Rattle.layer.proofs.Places.{part_within, div_within}
use Rattle.shape.specs.declared.Shape.{Shape}
use Rattle.shape.specs.Facts.{Pooled}
use Rattle.shape.specs.Volumes.{input_rows, out_rows, on_rows}
use Rattle.shape.proofs.Volumes.{rows_below}
use Rattle.taps.specs.Joins.{forward}
use Rattle.taps.specs.Directions.{forward_below}
use Rattle.taps.proofs.Joins.{below_at}
use Rattle.tensor.proofs.Lines.{line_start}
use Rattle.call.proofs.Planes.{products}

-- of a line, from the numbers of rows that the code is told: its row in the plane, the number of the plane's row 0 in the input, and the plane's end
pub record PlaneAt (s : Shape) (line rows height : ℕ) : Type 0 where
  pub rows_1 : 1 ≤ rows
  pub row : line % rows ≤ 16777216
  pub first : line / rows * height ≤ 16777216
  pub end : (line / rows * height + input_rows s) * s.x.input ≤ s.inputs

pub plane_of_lem : (s : Shape) → Pooled s → (line : ℕ) {rows height : ℕ} → line * s.x.out + s.x.out ≤ s.outputs → rows ≡ out_rows s → height ≡ input_rows s
    → PlaneAt s line rows height
plane_of_lem s g line l er eh =
    let h = g.sound in
    let k = products s h in
    let c : s.n * s.channels ≡ s.n * s.c = ap (λ (m : ℕ). s.n * m) g.channels_is in
    let lines = div_within (s.n * s.channels * out_rows s) s.x.out {p = line * s.x.out} (omega (arith, l, h.outputs_is, h.x.out_1)) in
    let planes = div_within (s.n * s.channels) (out_rows s) (rw (line_start line {w = s.x.out} h.x.out_1) at lines) in
    let rows = part_within {a = line / out_rows s} {n = s.n * s.c} (input_rows s) (omega arith) in
    rw (er, eh)
    (record {
      rows_1 = h.out_rows_1;
      row = omega (arith, mod-lt line h.out_rows_1, k.out_rows_max);
      first = omega (arith, rows, k.lines_inputs, h.inputs_max);
      end = omega (arith, mul-le-mul_right s.x.input rows, h.inputs_is);
    })

-- a row of the plane whose row 0 is number `first`, where a tap was found to lie in row r: its part of the input
pub record RowAt (s : Shape) (first r : ℕ) : Type 0 where
  pub row : (first + r) * s.x.input + s.x.input ≤ s.inputs
  pub number : first + r ≤ s.inputs
  pub inputs_max : s.inputs ≤ 16777216

pub row_at : (s : Shape) (p k : ℕ) {first r : ℕ} {t : Option ℕ} → Pooled s → (first + input_rows s) * s.x.input ≤ s.inputs → t ≡ on_rows forward s p k → t ≡ Some r → RowAt s first r
row_at s p k {first} {r} g l e i =
    let b = below_at _ _ _ (rows_below forward s forward_below p k) (sym e ∙ i) in
    let m = part_within {a = first + r} {n = first + input_rows s} s.x.input (omega (arith, b)) in
    record {
      row = omega (arith, m, l);
      number = omega (arith, m, l, le-mul_of_pos_right (first + r) g.sound.x.input_1);
      inputs_max = g.sound.inputs_max;
    }
