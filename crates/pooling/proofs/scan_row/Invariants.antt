-- The best is the window after the first k taps.
use mathlib.Core.Path.{◌≡◌}
use Rattle.taps.specs.Joins.{forward}
use Rattle.pooling.specs.Steps.{after_taps, column_step}
use Rattle.pooling.proofs.scan_row.Given as goal

abbrev pub invariant-loop-k : goal.invariant-loop-k
invariant-loop-k l = l.best ≡ after_taps (forward l.x l.q) (column_step l.row l.start) l.k l.initial.best
