-- The taps of p are those of the positions that have the same taps inside.
use Rattle.taps.proofs.Exact.{same_alike}
use Rattle.taps.proofs.run_from.Goals as goal

pub returns : goal.returns
returns c = same_alike _ _ _ _ _ c.same_until-end.ensures c.taps_inside-taps.ensures
