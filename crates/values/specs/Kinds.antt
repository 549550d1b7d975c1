-- The values that are no numbers in the layer record, from the numbers of a line and back: operators, modes and roundings by the place of their word, the axis
-- by its digit and sign.
use Rattle.std.specs.Prelude.{suc, cond, leb, eqb, ℤ, pos, negsuc, ◌-ℤ◌}
use Rattle.text.specs.Lists.{one_item}
use Rattle.text.specs.declared.Items.{Items}
use Rattle.layer.specs.declared.Op.{Op}
use Rattle.layer.specs.declared.Op.TheVariants.{Convolution, Transposed, MaxPool}
use Rattle.layer.specs.declared.AutoPad.{AutoPad}
use Rattle.layer.specs.declared.AutoPad.TheVariants.{Explicit, SameUpper, SameLower, Valid}
use Rattle.layer.specs.declared.Rounding.{Rounding}
use Rattle.layer.specs.declared.Rounding.TheVariants.{Floor, Ceil, CeilTorch}
use Rattle.values.specs.Values.{signed}

-- "op is convolution, transposed or maxpool"
abbrev pub op_of : Items → Op
op_of items = cond (eqb items.a 0) Convolution (cond (eqb items.a 1) Transposed MaxPool)

abbrev pub op_items : Op → Items
op_items Convolution = one_item 0
op_items Transposed = one_item 1
op_items MaxPool = one_item 2

-- "auto_pad explicit, same_upper, same_lower or valid"
abbrev pub auto_pad_of : Items → AutoPad
auto_pad_of items = cond (eqb items.a 0) Explicit (cond (eqb items.a 1) SameUpper (cond (eqb items.a 2) SameLower Valid))

abbrev pub auto_pad_items : AutoPad → Items
auto_pad_items Explicit = one_item 0
auto_pad_items SameUpper = one_item 1
auto_pad_items SameLower = one_item 2
auto_pad_items Valid = one_item 3

-- "rounding floor, ceil or, at version 14, ceil_torch"
abbrev pub rounding_of : Items → Rounding
rounding_of items = cond (eqb items.a 0) Floor (cond (eqb items.a 1) Ceil CeilTorch)

abbrev pub rounding_items : Rounding → Items
rounding_items Floor = one_item 0
rounding_items Ceil = one_item 1
rounding_items CeilTorch = one_item 2

-- "axis is -9..9 in one digit": what is no digit gives 0, and `negsuc n` is the number -(n + 1)
abbrev pub axis_of : Items → ℤ
axis_of items = cond (leb items.a 9) (cond (eqb items.b 0) (pos items.a) (pos 0 -ℤ pos items.a)) (pos 0)

abbrev pub axis_items : ℤ → Items
axis_items (pos n) = signed n 0
axis_items (negsuc n) = signed (suc n) 1
