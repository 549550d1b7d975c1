-- Below the size a number is its own remainder, as it is where the size is 0.
use Prim.Native.Nat.{ℕ, ◌/◌, ◌%◌, ◌<◌}
use native.Mathlib.Nat.{div-eq_of_lt, mod-eq_of_lt, div-zero, mod-zero}
use native.Mathlib.Omega.{arith}
use mathlib.Core.Path.{◌≡◌, refl, sym}
use mathlib.Core.Bool.{Bool, true, false, ◌||◌}
use lib.Dec.{ltb, eqb}
use borrow.Author.Tests.{ltb-true, eqb-true, eqb-false}
use Rattle.layer.proofs.Tests.{or_other, or_neither}
use Rattle.shape.proofs.taken_apart.Goals as goal
use Rattle.shape.proofs.taken_apart.Goals.{Else-n-size}

first : (n size : ℕ) → ltb n size || eqb size 0 ≡ true → (0 ≡ n / size) × (n ≡ n % size)
first n size e = go (ltb n size) refl
  where
    go : (b : Bool) → ltb n size ≡ b → (0 ≡ n / size) × (n ≡ n % size)
    go true h = let l = ltb-true n size h in (sym (div-eq_of_lt l), sym (mod-eq_of_lt l))
    go false h = rw (eqb-true size 0 (or_other (ltb n size) (eqb size 0) e h)) (sym (div-zero n), sym (mod-zero n))

positive : (c : Else-n-size) → 0 < c.args.size
positive c =
    let a = c.args in
    let h = eqb-false a.size 0 (or_neither (ltb a.n a.size) (eqb a.size 0) c.if-n-size.false).1 in
    omega (arith, h)

pub returns-then-n-size : goal.returns-then-n-size
returns-then-n-size c = first c.args.n c.args.size c.if-n-size.true

pub nonzero_div-result : goal.nonzero_div-result
nonzero_div-result c = positive c

pub nonzero_rem-result : goal.nonzero_rem-result
nonzero_rem-result c = positive c
