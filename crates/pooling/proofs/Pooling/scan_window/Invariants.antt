-- The best is the window after the first k kernel rows.
use mathlib.Core.Path.{◌≡◌}
use Rattle.taps.specs.Joins.{forward}
use Rattle.shape.specs.Volumes.{on_rows}
use Rattle.tensor.specs.declared.Window.TheVariants.{Empty}
use Rattle.pooling.specs.Steps.{after_taps, row_step}
use Rattle.pooling.proofs.Pooling.scan_window.Given as goal

abbrev pub invariant-loop-k : goal.invariant-loop-k
invariant-loop-k l = l.best ≡ after_taps (on_rows forward l.self.shape l.p) (row_step l.self.input.now l.first l.self.shape.x l.q) l.k Empty
