-- One turn is one channel more for each sum.
use native.Mathlib.Nat.{zero-mul}
use native.Mathlib.Omega.{arith}
use mathlib.Core.Path.{◌≡◌, sym, ap, ◌∙◌}
use Prim.Native.Nat.{ℕ, ◌*◌}
use Rattle.shape.specs.Volumes.{kernel_volume}
use Rattle.call.proofs.Planes.{taps_are}
use Rattle.rows.proofs.Rows.{summed_start, summed_row}
use Rattle.transposed.proofs.OutputRow.add_channels.Goals as goal

pub loop-i-init : goal.loop-i-init
loop-i-init c = rw zero-mul (summed_start _ _ _)

pub loop-i-preserved : goal.loop-i-preserved
loop-i-preserved c = summed_row _ _ _ c.loop-i.invariant c.add_channel.ensures

pub returns : goal.returns
returns c =
    let s = c.args.self.now.tensors.shape in
    let e : c.loop-i.i ≡ s.i = omega arith in
    rw (ap (λ (n : ℕ). n * kernel_volume s) e ∙ sym (taps_are s c.args.self.now.tensors.fitting.shape)) at c.loop-i.invariant
