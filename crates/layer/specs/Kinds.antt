-- The kinds of operators, of padding and of rounding, told apart by tests.
use Rattle.std.specs.Prelude.{Bool, true, false}
use Rattle.layer.specs.declared.Op.{Op}
use Rattle.layer.specs.declared.Op.TheVariants.{Convolution, Transposed, MaxPool}
use Rattle.layer.specs.declared.AutoPad.{AutoPad}
use Rattle.layer.specs.declared.AutoPad.TheVariants.{Explicit, SameUpper, SameLower, Valid}
use Rattle.layer.specs.declared.Rounding.{Rounding}
use Rattle.layer.specs.declared.Rounding.TheVariants.{Floor, Ceil, CeilTorch}

-- "Three operators .. convolution, transposed convolution, max pooling": a test for each
abbrev pub is_pool : Op → Bool
is_pool Convolution = false
is_pool Transposed = false
is_pool MaxPool = true

abbrev pub is_transposed : Op → Bool
is_transposed Convolution = false
is_transposed Transposed = true
is_transposed MaxPool = false

abbrev pub is_convolution : Op → Bool
is_convolution Convolution = true
is_convolution Transposed = false
is_convolution MaxPool = false

-- whether two operators are of one kind
abbrev pub same_op : Op → Op → Bool
same_op Convolution b = is_convolution b
same_op Transposed b = is_transposed b
same_op MaxPool b = is_pool b

abbrev pub is_explicit : AutoPad → Bool
is_explicit Explicit = true
is_explicit SameUpper = false
is_explicit SameLower = false
is_explicit Valid = false

-- the same modes: same_upper and same_lower
abbrev pub is_same : AutoPad → Bool
is_same Explicit = false
is_same SameUpper = true
is_same SameLower = true
is_same Valid = false

abbrev pub is_floor : Rounding → Bool
is_floor Floor = true
is_floor Ceil = false
is_floor CeilTorch = false

abbrev pub is_ceil : Rounding → Bool
is_ceil Floor = false
is_ceil Ceil = true
is_ceil CeilTorch = false

abbrev pub is_ceil_torch : Rounding → Bool
is_ceil_torch Floor = false
is_ceil_torch Ceil = false
is_ceil_torch CeilTorch = true

-- whether two roundings are one
abbrev pub same_rounding : Rounding → Rounding → Bool
same_rounding Floor b = is_floor b
same_rounding Ceil b = is_ceil b
same_rounding CeilTorch b = is_ceil_torch b
