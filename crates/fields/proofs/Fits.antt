-- The layers that a program can hold: every number of the record is a u32, as its types say. (The axis is an i32; the writer's own test is narrower.)
use Prim.Native.Nat.{ℕ, ◌≤◌}
use mathlib.Core.List.{List}
use native.Mathlib.Omega.{arith}
use mir.Val.{Val}
use denote.Laws.{Is}
use denote.Struct.Declared.{row}
use Rattle.layer.specs.declared.Axis.{Axis}
use Rattle.layer.specs.declared.Layer.{Layer}
use Rattle.layer.specs.contracts.Axis as axis

abbrev pub U32 : ℕ → Type 0
U32 n = n ≤ 4294967295

pub record AxisFits (a : Axis) : Type 0 where
  pub input : U32 a.input
  pub kernel : U32 a.kernel
  pub stride : U32 a.stride
  pub dilation : U32 a.dilation
  pub pad_begin : U32 a.pad_begin
  pub pad_end : U32 a.pad_end
  pub output_padding : U32 a.output_padding

pub record LayerFits (l : Layer) : Type 0 where
  pub n : U32 l.n
  pub c : U32 l.c
  pub g : U32 l.g
  pub o : U32 l.o
  pub i : U32 l.i
  pub z : AxisFits l.z
  pub y : AxisFits l.y
  pub x : AxisFits l.x

-- Owning a record tells that each of its u32 numbers is below 2^32: the fields stand in their order, behind the record's bytes.
pub axis_fits_lem : (a : Axis) (v : List Val) → Is (row axis.the_type) a v → AxisFits a
axis_fits_lem a v h =
    record {
      input = omega (arith, h.1.1.0.1);
      kernel = omega (arith, h.1.1.1.0.1);
      stride = omega (arith, h.1.1.1.1.0.1);
      dilation = omega (arith, h.1.1.1.1.1.0.1);
      pad_begin = omega (arith, h.1.1.1.1.1.1.0.1);
      pad_end = omega (arith, h.1.1.1.1.1.1.1.0.1);
      output_padding = omega (arith, h.1.1.1.1.1.1.1.1.0.1);
    }
