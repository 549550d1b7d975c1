-- The first j outputs are written.
use Rattle.std.proofs.Common.{length}
use Rattle.tensor.proofs.Table.{Filled}
use Rattle.sums.specs.declared.Profile.TheVariants.{Halved}
use Rattle.sums.specs.Taps.{output_of}
use Rattle.places.specs.Places.{place_of}
use Rattle.halved.proofs.fill.Given as goal

abbrev pub invariant-loop-j : goal.invariant-loop-j
invariant-loop-j l = Filled (output_of Halved (place_of l.s) l.s.taps l.input l.kernel) (length l.initial.output) l.output l.j
