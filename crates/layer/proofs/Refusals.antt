-- Laws of the numbers of refusals: none is 0, so the number 0 is that of what is done.
use Rattle.std.specs.Prelude.{◌≡◌, Result, Ok, Err, IsOk}
use mathlib.Core.Path.{refl}
use mathlib.Core.Bool.{false≢true}
use native.Mathlib.Omega.{arith}
use Rattle.layer.specs.declared.Refusal.{Refusal}
use Rattle.layer.specs.declared.Refusal.TheVariants.{Dimension, Attribute, Groups, ElementCount, Size, OutputCount, EmptyWindow, SliceLength, BadElement}
use Rattle.layer.specs.Refusals.{refusal_number, number_of}

-- no refusal has the number 0
pub refusal_pos : (e : Refusal) → refusal_number e ≡ 0 → ⊥
refusal_pos Dimension h = omega arith
refusal_pos Attribute h = omega arith
refusal_pos Groups h = omega arith
refusal_pos ElementCount h = omega arith
refusal_pos Size h = omega arith
refusal_pos OutputCount h = omega arith
refusal_pos EmptyWindow h = omega arith
refusal_pos SliceLength h = omega arith
refusal_pos (BadElement tensor place bad) h = omega arith

-- "a call is accepted if its number is 0"
pub zero_ok : {A : Type 0} (r : Result A Refusal) → number_of r ≡ 0 → IsOk r
zero_ok (Ok a) h = refl
zero_ok (Err e) h = absurd (refusal_pos e h)

pub ok_zero : {A : Type 0} (r : Result A Refusal) → IsOk r → number_of r ≡ 0
ok_zero (Ok a) h = refl
ok_zero (Err e) h = absurd (false≢true h)
