-- For the code and for laws: a sum that started at +0 is never -0, so that adding +0 times a weight changes no bit of it.
use Rattle.std.specs.Prelude.{Bool, false, not, ◌&&◌, T, eqb, Float}
use Rattle.std.specs.Float.{nan, inf, fin, binary32}
use Rattle.std.specs.Float.Ieee.{fits}

-- whether x is -0
unfoldable pub is_minus_zero : Float → Bool
is_minus_zero nan = false
is_minus_zero (inf s) = false
is_minus_zero (fin s m e) = s && eqb m 0

-- what holds of each sum that started at +0: it is a value of f32 and not -0
pub record FromZero (sum : Float) : Type 0 where
  pub held : T (fits binary32 sum)
  pub not_minus : T (not (is_minus_zero sum))
