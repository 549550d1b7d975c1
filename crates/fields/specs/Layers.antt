-- Lists of numbers and the layer: which number of a list is which field of the layer record, read and shown.
use Rattle.std.specs.Prelude.{ℕ, ◌+◌, cond, ℤ}
use Rattle.text.specs.Lists.{one_item, more_item}
use Rattle.text.specs.declared.Items.{Items}
use Rattle.layer.specs.Axes.{uses_y, uses_z}
use Rattle.layer.specs.Defaults.{default_axis, default_layer, size_default}
use Rattle.layer.specs.declared.Op.{Op}
use Rattle.layer.specs.declared.Op.TheVariants.{Convolution, Transposed, MaxPool}
use Rattle.layer.specs.declared.AutoPad.{AutoPad}
use Rattle.layer.specs.declared.Rounding.{Rounding}
use Rattle.layer.specs.declared.Axis.{Axis}
use Rattle.layer.specs.declared.Layer.{Layer}
use Rattle.fields.specs.declared.Kernel.{Kernel}
use Rattle.fields.specs.declared.PerAxis.{PerAxis}

-- ---- from lists to a layer

-- "Input [N, C, Z, Y, X]", "Two axes mean [N, C, Y, X]", "One axis means [N, C, X]": "With one axis each list is one shorter, with three axes one longer, Z
-- before Y"
abbrev pub input_numbers : ℕ → ℕ
input_numbers axes = axes + 2

-- "Convolution kernel [G, O, I, KZ, KY, KX], transposed kernel [G, I, O, KZ, KY, KX]", "and a kernel without KZ", "and a kernel without KZ and KY", "maxpool
-- has KZ,KY,KX alone, with fewer axes KY,KX or KX"
abbrev pub kernel_numbers : Op → ℕ → ℕ
kernel_numbers Convolution axes = axes + 3
kernel_numbers Transposed axes = axes + 3
kernel_numbers MaxPool axes = axes

-- "Kernel lists are as above": G, O and I, "1 for any size that is not used", and the numbers that follow, one for each axis
abbrev pub kernel_of : Op → Items → Kernel
kernel_of Convolution items = record { g = items.a; o = items.b; i = items.c; first = items.d; second = items.e; third = items.f }
kernel_of Transposed items = record { g = items.a; o = items.c; i = items.b; first = items.d; second = items.e; third = items.f }
kernel_of MaxPool items = record { g = size_default; o = size_default; i = size_default; first = items.a; second = items.b; third = items.c }

-- The numbers of a list for the axes, first, second and third, as each axis has them: with three axes Z's, Y's and X's, with two Y's and X's, with one X's. An
-- axis that is not used has its default.
abbrev pub per_axis : ℕ → ℕ → ℕ → ℕ → ℕ → PerAxis
per_axis axes unused first second third =
    cond (uses_z axes) (record { z = first; y = second; x = third })
    (cond (uses_y axes) (record { z = unused; y = first; x = second })
    (record { z = unused; y = unused; x = first }))

abbrev pub with_sizes : Axis → ℕ → ℕ → ℕ → ℕ → Axis
with_sizes base input kernel stride dilation =
    record {
      input = input;
      kernel = kernel;
      stride = stride;
      dilation = dilation;
      pad_begin = base.pad_begin;
      pad_end = base.pad_end;
      output_padding = base.output_padding;
    }

abbrev pub with_pads : Axis → ℕ → ℕ → ℕ → Axis
with_pads base begin end padding =
    record {
      input = base.input;
      kernel = base.kernel;
      stride = base.stride;
      dilation = base.dilation;
      pad_begin = begin;
      pad_end = end;
      output_padding = padding;
    }

-- what the version and the lines from op to dilations say of a layer; all else is at its default
unfoldable pub sized_layer : ℕ → Op → ℕ → Items → Items → Items → Items → Layer
sized_layer version op axes input kernel strides dilations =
    let k = kernel_of op kernel in
    let sizeOn = per_axis axes default_axis.input input.c input.d input.e in
    let kernelOn = per_axis axes default_axis.kernel k.first k.second k.third in
    let strideOn = per_axis axes default_axis.stride strides.a strides.b strides.c in
    let dilationOn = per_axis axes default_axis.dilation dilations.a dilations.b dilations.c in
    record {
      version = version;
      op = op;
      axes = axes;
      n = input.a;
      c = input.b;
      g = k.g;
      o = k.o;
      i = k.i;
      z = with_sizes default_axis sizeOn.z kernelOn.z strideOn.z dilationOn.z;
      y = with_sizes default_axis sizeOn.y kernelOn.y strideOn.y dilationOn.y;
      x = with_sizes default_axis sizeOn.x kernelOn.x strideOn.x dilationOn.x;
      auto_pad = (default_layer op axes).auto_pad;
      rounding = (default_layer op axes).rounding;
      axis = (default_layer op axes).axis;
    }

-- the same layer with what the lines from auto_pad on say
unfoldable pub padded_layer : Layer → AutoPad → Items → Items → Items → Rounding → ℤ → Layer
padded_layer l mode begin end padding rounding axis =
    let beginOn = per_axis l.axes default_axis.pad_begin begin.a begin.b begin.c in
    let endOn = per_axis l.axes default_axis.pad_end end.a end.b end.c in
    let paddingOn = per_axis l.axes default_axis.output_padding padding.a padding.b padding.c in
    record {
      version = l.version;
      op = l.op;
      axes = l.axes;
      n = l.n;
      c = l.c;
      g = l.g;
      o = l.o;
      i = l.i;
      z = with_pads l.z beginOn.z endOn.z paddingOn.z;
      y = with_pads l.y beginOn.y endOn.y paddingOn.y;
      x = with_pads l.x beginOn.x endOn.x paddingOn.x;
      auto_pad = mode;
      rounding = rounding;
      axis = axis;
    }

-- ---- from a layer to lists

-- Z's, Y's and X's number, "Z before Y"; of the axes that are used alone
abbrev pub axis_list : ℕ → ℕ → ℕ → ℕ → Items
axis_list axes z y x =
    cond (uses_z axes) (more_item z (more_item y (one_item x)))
    (cond (uses_y axes) (more_item y (one_item x))
    (one_item x))

-- N, C, Z, Y, X
abbrev pub input_list : ℕ → ℕ → ℕ → ℕ → ℕ → ℕ → Items
input_list axes n c z y x = more_item n (more_item c (axis_list axes z y x))

-- G, O, I, KZ, KY, KX; transposed G, I, O, KZ, KY, KX; maxpool KZ, KY, KX
abbrev pub kernel_list : Op → ℕ → ℕ → ℕ → ℕ → ℕ → ℕ → ℕ → Items
kernel_list Convolution axes g o i z y x = more_item g (more_item o (more_item i (axis_list axes z y x)))
kernel_list Transposed axes g o i z y x = more_item g (more_item i (more_item o (axis_list axes z y x)))
kernel_list MaxPool axes g o i z y x = axis_list axes z y x
