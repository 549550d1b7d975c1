-- The version of a layer's operator. "Max pooling is MaxPool-8 or MaxPool-14, by the version that the layer record has": MaxPool-14 knows rounding ceil_torch
-- besides. The other operators have the default version alone.
use Rattle.std.specs.Prelude.{ℕ, Bool, not, ◌&&◌, ◌||◌, eqb}
use Rattle.layer.specs.declared.Op.{Op}
use Rattle.layer.specs.declared.Rounding.{Rounding}
use Rattle.layer.specs.Kinds.{is_pool, is_ceil_torch}

-- "version other than 8 and 14": a test that such a version does not pass
abbrev pub version_in : ℕ → Bool
version_in version = eqb version 8 || eqb version 14

-- "version 14 with another op than maxpool"
abbrev pub lacks_op : ℕ → Op → Bool
lacks_op version op = eqb version 14 && not (is_pool op)

-- "rounding ceil_torch at version 8"
abbrev pub lacks_rounding : ℕ → Rounding → Bool
lacks_rounding version r = eqb version 8 && is_ceil_torch r
