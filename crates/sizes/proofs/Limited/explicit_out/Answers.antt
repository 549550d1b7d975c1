-- The window fits, and no size is more than the padded axis has positions.
use Prim.Native.Nat.{◌-◌, ◌≤◌}
use native.Mathlib.Nat.{div-le_self}
use native.Mathlib.Omega.{arith}
use mathlib.Core.Path.{sym, ◌∙◌}
use borrow.Author.Tests.{leb-true}
use Rattle.sizes.proofs.Division.{ceil_self}
use Rattle.sizes.proofs.SizeRule.{fits_rule}
use Rattle.sizes.proofs.Limited.explicit_out.Goals as goal
use Rattle.sizes.proofs.Limited.explicit_out.Goals.{After-ceil_div-ceil}

ceil : (c : After-ceil_div-ceil) → c.ceil_div-ceil.result ≤ c.padded_size.result - c.dilated_kernel.result
ceil c = rw c.ceil_div-ceil.ensures (ceil_self (c.padded_size.result - c.dilated_kernel.result) c.args.self.limits.stride_1)

pub overflow_sub-room : goal.overflow_sub-room
overflow_sub-room c =
    let a = c.args.self in
    rw (c.padded_size.ensures.value, c.dilated_kernel.ensures) (leb-true _ _ (sym (fits_rule a.mode a.axis) ∙ c.requires))

pub overflow_add-ceil : goal.overflow_add-ceil
overflow_add-ceil c = omega (arith, ceil c)

pub overflow_add-result : goal.overflow_add-result
overflow_add-result c = omega (arith, div-le_self (c.padded_size.result - c.dilated_kernel.result) c.args.self.axis.stride)

pub less_last-requires : goal.less_last-requires
less_last-requires c = (omega arith, omega (arith, ceil c.before))
