-- The taps of the turned axis.
use Rattle.taps.proofs.Exact.{turned_exactly}
use Rattle.taps.proofs.outputs_inside.Goals as goal

pub returns : goal.returns
returns c = let a = c.args in turned_exactly a.s a.k _ _ (rw c.turned.ensures at c.taps_inside.ensures)
