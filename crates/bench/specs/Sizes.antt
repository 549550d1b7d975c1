-- Document 01, "Bench cases": the cases (B) of sizes and of number 7, as layers with one axis.
use Rattle.std.specs.Prelude.{ℕ, List, [], ◌∷◌, pos, Err, Ok, Result}
use Rattle.layer.specs.declared.Op.{Op}
use Rattle.layer.specs.declared.Op.TheVariants.{Convolution, Transposed, MaxPool}
use Rattle.layer.specs.declared.AutoPad.{AutoPad}
use Rattle.layer.specs.declared.AutoPad.TheVariants.{Explicit, SameUpper, Valid}
use Rattle.layer.specs.declared.Rounding.{Rounding}
use Rattle.layer.specs.declared.Rounding.TheVariants.{Floor, Ceil, CeilTorch}
use Rattle.layer.specs.declared.Axis.{Axis}
use Rattle.layer.specs.declared.Layer.{Layer}
use Rattle.layer.specs.Defaults.{default_axis, version_default}
use Rattle.shape.specs.Judge.{judged}
use Rattle.layer.specs.declared.Refusal.{Refusal}
use Rattle.layer.specs.Refusals.{refusal_number}
use Rattle.shape.specs.declared.Shape.{Shape}

-- one axis: input, kernel, stride, dilation, and the pad on both sides
abbrev pub along : ℕ → ℕ → ℕ → ℕ → ℕ → Axis
along size k s d pad = record { input = size; kernel = k; stride = s; dilation = d; pad_begin = pad; pad_end = pad; output_padding = 0 }

-- one image, one channel, one or two axes
abbrev one_plane : ℕ → ℕ → Op → AutoPad → Rounding → Axis → Axis → Layer
one_plane version axes op m r y x =
    record {
      version = version;
      op = op;
      axes = axes;
      n = 1;
      c = 1;
      g = 1;
      o = 1;
      i = 1;
      z = default_axis;
      y = y;
      x = x;
      auto_pad = m;
      rounding = r;
      axis = pos 0;
    }

abbrev pub one_axis : Op → AutoPad → Rounding → Axis → Layer
one_axis op m r x = one_plane version_default 1 op m r default_axis x

-- max pooling "at version 14"
abbrev pub one_axis_at14 : AutoPad → Rounding → Axis → Layer
one_axis_at14 m r x = one_plane 14 1 MaxPool m r default_axis x

abbrev pub two_axes : Op → AutoPad → Rounding → Axis → Axis → Layer
two_axes op m r y x = one_plane version_default 2 op m r y x

-- a layer's number and its output size along X, 0 where it is refused
abbrev pub number_and_size : Result Shape Refusal → ℕ × ℕ
number_and_size (Ok s) = (0, s.x.out)
number_and_size (Err e) = (refusal_number e, 0)

pub record SizeCase : Type 0 where
  pub layer : Layer
  pub number : ℕ
  pub size : ℕ

abbrev pub size_of : SizeCase → ℕ × ℕ
size_of c = number_and_size (judged c.layer.op c.layer)

abbrev sized : Op → AutoPad → Rounding → Axis → ℕ → SizeCase
sized op m r a out = record { layer = one_axis op m r a; number = 0; size = out }

abbrev refused : Op → AutoPad → Rounding → Axis → ℕ → SizeCase
refused op m r a n = record { layer = one_axis op m r a; number = n; size = 0 }

-- "(B) Sizes: 128, k 4, s 2, valid: 63. 224, k 5, pads 2: 224. 320, k 3, d 2, s 3: 106. Transposed 224, k 3, s 2, pads 1: 447. Pool 32, k 2, s 2: pads 1 gives
-- 17, valid 16." "(B) Pool in 2, k 1, s 3, ceil, pads 0: out 2, second window empty, 7; with ceil_torch at version 14: out 1" "Pool in 3, k 2, d 16,
-- same_upper: taps -8 and 8, 7."
abbrev pub size_cases : List SizeCase
size_cases =
    sized Convolution Valid Floor (along 128 4 2 1 0) 63
    ∷ sized Convolution Explicit Floor (along 224 5 1 1 2) 224
    ∷ sized Convolution Explicit Floor (along 320 3 3 2 0) 106
    ∷ sized Transposed Explicit Floor (along 224 3 2 1 1) 447
    ∷ sized MaxPool Explicit Floor (along 32 2 2 1 1) 17
    ∷ sized MaxPool Valid Floor (along 32 2 2 1 0) 16
    ∷ refused MaxPool Explicit Ceil (along 2 1 3 1 0) 7
    ∷ record { layer = one_axis_at14 Explicit CeilTorch (along 2 1 3 1 0); number = 0; size = 1 }
    ∷ refused MaxPool SameUpper Floor (along 3 2 1 16 0) 7
    ∷ []
