-- By where the tap lies along each axis: outside along one of them it is +0, else its product added to +0. Its place lies in the input by `tap_lies`.
use mathlib.Core.Path.{sym, ap₂, ◌∙◌}
use native.Mathlib.Omega.{arith}
use Rattle.sums.specs.Taps.{add_tap}
use Rattle.sums.proofs.Sums.{zero_is}
use Rattle.halved.proofs.Outputs.{outside_z, outside_y, outside_x, inside, tap_lies}
use Rattle.halved.proofs.single.Goals as goal

pub returns-in_default : goal.returns-in_default
returns-in_default c = zero_is ∙ outside_z c.args.input.now c.args.kernel.now c.args.o c.args.t (sym c.forward-z.ensures ∙ c.in_default.is)

pub returns-in_default-y : goal.returns-in_default-y
returns-in_default-y c = zero_is ∙ outside_y c.args.input.now c.args.kernel.now c.args.o c.args.t (sym c.forward-y.ensures ∙ c.in_default-y.is)

pub returns-in_default-x : goal.returns-in_default-x
returns-in_default-x c = zero_is ∙ outside_x c.args.input.now c.args.kernel.now c.args.o c.args.t (sym c.forward-x.ensures ∙ c.in_default-x.is)

-- its place lies in the input
pub overflow_add-plane : goal.overflow_add-plane
overflow_add-plane c = omega (arith, tap_lies c.args.o c.args.t c.requires c.forward-z.ensures c.in-Some.is c.forward-y.ensures c.in-Some-y.is c.forward-x.ensures c.in-Some-x.is)

pub overflow_mul-plane : goal.overflow_mul-plane
overflow_mul-plane c = omega (arith, tap_lies c.args.o c.args.t c.requires c.forward-z.ensures c.in-Some.is c.forward-y.ensures c.in-Some-y.is c.forward-x.ensures c.in-Some-x.is)

pub overflow_add-plane-2 : goal.overflow_add-plane-2
overflow_add-plane-2 c = omega (arith, tap_lies c.args.o c.args.t c.requires c.forward-z.ensures c.in-Some.is c.forward-y.ensures c.in-Some-y.is c.forward-x.ensures c.in-Some-x.is)

pub overflow_mul-place : goal.overflow_mul-place
overflow_mul-place c = omega (arith, tap_lies c.args.o c.args.t c.requires c.forward-z.ensures c.in-Some.is c.forward-y.ensures c.in-Some-y.is c.forward-x.ensures c.in-Some-x.is)

pub overflow_add-place : goal.overflow_add-place
overflow_add-place c = omega (arith, tap_lies c.args.o c.args.t c.requires c.forward-z.ensures c.in-Some.is c.forward-y.ensures c.in-Some-y.is c.forward-x.ensures c.in-Some-x.is)

pub overflow_mul-place-2 : goal.overflow_mul-place-2
overflow_mul-place-2 c = omega (arith, tap_lies c.args.o c.args.t c.requires c.forward-z.ensures c.in-Some.is c.forward-y.ensures c.in-Some-y.is c.forward-x.ensures c.in-Some-x.is, c.requires.inputs_max)

pub overflow_add-place-2 : goal.overflow_add-place-2
overflow_add-place-2 c = omega (arith, tap_lies c.args.o c.args.t c.requires c.forward-z.ensures c.in-Some.is c.forward-y.ensures c.in-Some-y.is c.forward-x.ensures c.in-Some-x.is, c.requires.inputs_max)

pub offset_bounds-input-place : goal.offset_bounds-input-place
offset_bounds-input-place c = omega (arith, tap_lies c.args.o c.args.t c.requires c.forward-z.ensures c.in-Some.is c.forward-y.ensures c.in-Some-y.is c.forward-x.ensures c.in-Some-x.is, c.requires.inputs_max)

pub bounds-input-place : goal.bounds-input-place
bounds-input-place c = (tap_lies c.args.o c.args.t c.requires c.forward-z.ensures c.in-Some.is c.forward-y.ensures c.in-Some-y.is c.forward-x.ensures c.in-Some-x.is).place

pub returns : goal.returns
returns c =
    c.add_product.ensures
    ∙ ap₂ add_tap zero_is (sym (inside c.args.input.now c.args.kernel.now c.args.o c.args.t (sym c.forward-z.ensures ∙ c.in-Some.is) (sym c.forward-y.ensures ∙ c.in-Some-y.is) (sym c.forward-x.ensures ∙ c.in-Some-x.is)))
