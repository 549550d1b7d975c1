-- `volume` meets its contract: caps inside the product are not seen outside.
use Rattle.counts.proofs.Capped.{capped_left}
use Rattle.counts.proofs.volume.Goals as goal

pub returns : goal.returns
returns c = simp (c.times-3.ensures, c.times-2.ensures, c.times.ensures, capped_left)
