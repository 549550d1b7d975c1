-- A signed number as the code reads it from its bits: -1 less a negative one, and one that is not negative.
use Prim.Native.Nat.{ℕ, suc, ◌<◌}
use native.Mathlib.Omega.{arith}
use mathlib.Core.Path.{◌≡◌, refl, sym, ap, ◌∙◌}
use mathlib.Core.Bool.{true, false, false≢true}
use lib.IntN.{ℤ, pos, negsuc, ◌-ℤ◌, pred_ℤ, +ℤ_idl, pred_ℤ-+ℤ}
use lib.Signed.{lt_z}
use borrow.Author.Tests.{ltb-true}
use mir.Syntax.{w32}
use mir.Val.{SFits, to_z, of_z}
use mir.Facts.{to_z-of_z}

abbrev pub Read : ℤ → ℤ
Read z = to_z w32 (of_z w32 z)

-- z is -(n + 1), and -1 - z is n
pub record Negative (z : ℤ) : Type 0 where
  pub n : ℕ
  pub is : z ≡ negsuc n
  pub small : n < 2147483648
  pub fits : SFits w32 (negsuc 0 -ℤ Read z)
  pub less : Read (negsuc 0 -ℤ Read z) ≡ pos n

pub below : (z : ℤ) → SFits w32 z → lt_z (Read z) (pos 0) ≡ true → Negative z
below (pos n) f e = absurd (omega (arith, ltb-true n 0 (sym (ap (λ (z : ℤ). lt_z z (pos 0)) (to_z-of_z f)) ∙ e)))
below (negsuc n) f e =
    let d : negsuc 0 -ℤ Read (negsuc n) ≡ pos n = rw (to_z-of_z f) (pred_ℤ-+ℤ (pos 0) (pos (suc n)) ∙ ap pred_ℤ (+ℤ_idl (pos (suc n)))) in
    let g : SFits w32 (negsuc 0 -ℤ Read (negsuc n)) = rw d (record { sfits = f.sfits }) in
    record { n = n; is = refl; small = f.sfits; fits = g; less = to_z-of_z g ∙ d }

pub record Whole (z : ℤ) : Type 0 where
  pub n : ℕ
  pub is : z ≡ pos n
  pub small : n < 2147483648
  pub read : Read z ≡ pos n

pub not_below : (z : ℤ) → SFits w32 z → lt_z (Read z) (pos 0) ≡ false → Whole z
not_below (pos n) f e = record { n = n; is = refl; small = f.sfits; read = to_z-of_z f }
not_below (negsuc n) f e = absurd (false≢true (sym e ∙ ap (λ (z : ℤ). lt_z z (pos 0)) (to_z-of_z f)))
