-- One turn is one channel more for each output.
use mathlib.Core.Path.{◌≡◌, sym, ap, ◌∙◌}
use Prim.Native.Nat.{ℕ, ◌*◌}
use native.Mathlib.Nat.{zero-mul}
use native.Mathlib.Omega.{arith}
use Rattle.shape.specs.Volumes.{kernel_volume}
use Rattle.call.proofs.Planes.{taps_are}
use Rattle.rows.proofs.Rows.{summed_start, summed_row}
use Rattle.convolution.proofs.OutputRow.add_channels.Goals as goal

pub loop-channel-init : goal.loop-channel-init
loop-channel-init c = rw zero-mul (summed_start _ _ _)

pub loop-channel-preserved : goal.loop-channel-preserved
loop-channel-preserved c =
    let l = c.loop-channel in
    summed_row _ l.channel _ l.invariant (rw l.invariant.kept at c.add_depths.ensures)

pub returns : goal.returns
returns c =
    let s = c.args.self.now.tensors.shape in
    let e : c.loop-channel.channel ≡ s.i = omega arith in
    rw (ap (λ (n : ℕ). n * kernel_volume s) e ∙ sym (taps_are s c.args.self.now.tensors.fitting.shape)) at c.loop-channel.invariant
