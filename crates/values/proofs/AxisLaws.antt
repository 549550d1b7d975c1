-- The step of reading an axis.
use Prim.Native.Nat.{ℕ, suc}
use mathlib.Core.Path.{◌≡◌, refl}
use mathlib.Core.List.{List, [], ◌∷◌}
use mathlib.Core.Bool.{cond}
use Rattle.std.specs.Prelude.{None}
use native.Mathlib.Omega.{arith}
use lib.Dec.{eqb}
use lib.ListN.{length, get_or}
use borrow.Author.Tests.{ne_eqb}
use Rattle.values.specs.Values.{digit_from, axis_number}

-- by the length of the text
pub axis_by : (t : List ℕ)
    → axis_number t
    ≡ cond (eqb (length t) 1) (digit_from 48 0 (get_or t 0 0))
    (cond (eqb (length t) 2) (cond (eqb (get_or t 0 0) 45) (digit_from 49 1 (get_or t 1 0)) None) None)
unfolding axis_number
axis_by [] = refl
axis_by (b ∷ []) = refl
axis_by (a ∷ b ∷ []) = refl
axis_by (a ∷ b ∷ c ∷ t) =
    let n = suc (suc (suc (length t))) in rw (ne_eqb n 1 (λ e. omega (arith, e)), ne_eqb n 2 (λ e. omega (arith, e)))
