-- "Defaults, held with the type of the layer record: version 8, strides 1, dilations 1, pads 0, output padding 0, auto_pad explicit, rounding floor, axis 0,
-- and 1 for any size that is not used"
use Rattle.std.specs.Prelude.{ℕ, Bool, ◌&&◌, ℤ, pos}
use Rattle.std.specs.Int.Signed.{le_z}
use Rattle.layer.specs.declared.Op.{Op}
use Rattle.layer.specs.declared.AutoPad.{AutoPad}
use Rattle.layer.specs.declared.AutoPad.TheVariants.{Explicit}
use Rattle.layer.specs.declared.Rounding.{Rounding}
use Rattle.layer.specs.declared.Rounding.TheVariants.{Floor}
use Rattle.layer.specs.declared.Axis.{Axis}
use Rattle.layer.specs.declared.Layer.{Layer}
use Rattle.layer.specs.Kinds.{same_rounding}

-- a spatial axis with each field at its default
abbrev pub default_axis : Axis
default_axis = record { input = 1; kernel = 1; stride = 1; dilation = 1; pad_begin = 0; pad_end = 0; output_padding = 0 }

-- the constants of the layer record: "version 8", "1 for any size that is not used", "auto_pad explicit, rounding floor, axis 0"
abbrev pub version_default : ℕ
version_default = 8

abbrev pub size_default : ℕ
size_default = 1

abbrev pub auto_pad_default : AutoPad
auto_pad_default = Explicit

abbrev pub rounding_default : Rounding
rounding_default = Floor

abbrev pub axis_attribute_default : ℤ
axis_attribute_default = pos 0

abbrev pub default_layer : Op → ℕ → Layer
default_layer op axes =
    record {
      version = version_default;
      op = op;
      axes = axes;
      n = size_default;
      c = size_default;
      g = size_default;
      o = size_default;
      i = size_default;
      z = default_axis;
      y = default_axis;
      x = default_axis;
      auto_pad = auto_pad_default;
      rounding = rounding_default;
      axis = axis_attribute_default;
    }

-- whether pooling's rounding and its axis attribute, the `axis` of a sheet, are at their defaults, as they are where no pooling uses them
abbrev pub is_default_rounding : Rounding → Bool
is_default_rounding r = same_rounding r rounding_default

abbrev pub is_default_axis_attribute : ℤ → Bool
is_default_axis_attribute z = le_z axis_attribute_default z && le_z z axis_attribute_default
