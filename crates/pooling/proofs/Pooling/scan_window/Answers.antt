-- After every kernel row the best is the window of the plane.
use mathlib.Core.Path.{◌≡◌, ◌∙◌}
use native.Mathlib.Omega.{arith}
use Rattle.shape.specs.Volumes.{kernel_rows}
use Rattle.tensor.specs.declared.Window.TheVariants.{Empty}
use Rattle.pooling.proofs.Scan.{plane_window_lem}
use Rattle.pooling.proofs.Pooling.scan_window.Goals as goal

pub returns : goal.returns
returns c =
    let a = c.args in
    let t = a.self.now in
    let e : c.loop-k.k ≡ kernel_rows t.shape = omega (arith, c.kernel_rows-k-end.ensures) in
    rw e at c.loop-k.invariant ∙ plane_window_lem t.input.now a.first t.shape a.p a.q Empty
