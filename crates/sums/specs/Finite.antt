-- "So no sum overflows and no output is NaN."
use Rattle.std.specs.Prelude.{List, ℕ, ◌<◌, T, length, Float}
use Rattle.std.specs.Float.Ieee.Scale.{finite}
use Rattle.tensor.specs.Table.{read}
use Rattle.tensor.specs.Element.{element_ok}

-- "Every element of input and kernel is at most 2^40 in magnitude; NaN is not."
abbrev pub AllOk : List Float → Type 0
AllOk l = (i : ℕ) → i < length l → T (element_ok (read l i))

-- every element is finite, neither NaN nor an infinity
abbrev pub AllFinite : List Float → Type 0
AllFinite l = (i : ℕ) → i < length l → T (finite (read l i))
