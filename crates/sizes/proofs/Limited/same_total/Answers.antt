-- The last step starts inside the input, so nothing overflows.
use native.Mathlib.Omega.{arith}
use Rattle.sizes.specs.Size.{same_total}
use Rattle.sizes.proofs.Division.{same_out_pos, same_out_last, kernel_le}
use Rattle.sizes.proofs.Limited.same_total.Goals as goal

pub overflow_sub-steps : goal.overflow_sub-steps
overflow_sub-steps c = rw c.same_out.ensures (same_out_pos c.args.self.axis c.args.self.limits)

pub overflow_mul-steps : goal.overflow_mul-steps
overflow_mul-steps c = rw c.same_out.ensures (omega (arith, same_out_last c.args.self.axis c.args.self.limits))

pub overflow_add-steps : goal.overflow_add-steps
overflow_add-steps c =
    let a = c.args.self in
    rw (c.same_out.ensures, c.dilated_kernel.ensures) (omega (arith, same_out_last a.axis a.limits, kernel_le a.axis a.limits))

pub returns : goal.returns
unfolding same_total
returns c = simp (c.saturating_sub.ensures, c.same_out.ensures, c.dilated_kernel.ensures)
