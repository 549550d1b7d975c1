-- The limits keep every sum far below 2^64.
use Prim.Native.Nat.{◌-◌}
use native.Mathlib.Omega.{arith}
use Rattle.sizes.specs.Size.{transposed_out}
use Rattle.sizes.proofs.Division.{pads_le, kernel_le, times_le}
use Rattle.sizes.proofs.Limited.transposed_out.Goals as goal
use Rattle.sizes.proofs.Limited.transposed_out.Goals.{After-dilated_kernel}

pub overflow_add-whole : goal.overflow_add-whole
overflow_add-whole c =
    let a = c.args.self in
    omega (arith, times_le {a = a.axis.input - 1} 4095 16 (omega (arith, a.limits)) a.limits.stride_16, kernel_le a.axis a.limits)

pub overflow_add-whole-2 : goal.overflow_add-whole-2
overflow_add-whole-2 c =
    let a = c.args.self in
    omega (arith, times_le {a = a.axis.input - 1} 4095 16 (omega (arith, a.limits)) a.limits.stride_16, kernel_le a.axis a.limits)

pub overflow_add-begin : goal.overflow_add-begin
overflow_add-begin c = let a = c.args.self in rw c.pads-begin.ensures (omega (arith, pads_le a.mode a.axis a.limits))

pub returns : goal.returns
unfolding transposed_out
returns c = simp (c.saturating_sub.ensures, c.pads-begin.ensures, c.dilated_kernel.ensures)
