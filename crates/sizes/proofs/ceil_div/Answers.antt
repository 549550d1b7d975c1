-- A divisor of 1 and a dividend of at most the divisor need no division; nothing is divided by 0.
use mathlib.Core.Path.{sym}
use native.Mathlib.Nat.{div-one, div-zero, add-zero}
use native.Mathlib.Omega.{arith}
use Rattle.sizes.specs.Size.{ceil_div}
use Rattle.sizes.proofs.Division.{ceil_one, ceil_whole}
use Rattle.sizes.proofs.ceil_div.Goals as goal

pub returns-then-b-eq1 : goal.returns-then-b-eq1
unfolding ceil_div
returns-then-b-eq1 c = rw (c.if-b-eq1.true, add-zero) (sym (div-one _))

pub returns-then-b-eq0 : goal.returns-then-b-eq0
unfolding ceil_div
returns-then-b-eq0 c = rw c.if-b-eq0.true (sym (div-zero _))

pub returns-then-a-b : goal.returns-then-a-b
returns-then-a-b c = rw c.min.ensures (ceil_one c.args.a c.args.b (omega arith) c.if-a-b.true)

pub returns : goal.returns
returns c = rw c.div_ceil.ensures (ceil_whole c.args.a c.args.b (omega arith))
