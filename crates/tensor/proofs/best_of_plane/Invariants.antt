-- The best is that of the places before i.
use Rattle.std.proofs.Common.{◌≡◌}
use Rattle.tensor.specs.Window.{best_of, up_to}
use Rattle.tensor.specs.declared.Window.TheVariants.{Empty}
use Rattle.tensor.proofs.best_of_plane.Given as goal

abbrev pub invariant-loop-i : goal.invariant-loop-i
invariant-loop-i l = l.best ≡ best_of l.plane (up_to l.i) Empty
