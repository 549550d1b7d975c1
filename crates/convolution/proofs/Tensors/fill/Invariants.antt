-- The first `line` rows are written.
use Prim.Native.Nat.{◌*◌}
use lib.ListN.{length}
use Rattle.tensor.proofs.Table.{Filled}
use Rattle.sums.specs.declared.Profile.TheVariants.{Running}
use Rattle.sums.specs.Taps.{output_of}
use Rattle.places.specs.Places.{place_of}
use Rattle.convolution.proofs.Tensors.fill.Given as goal

abbrev pub invariant-loop-line : goal.invariant-loop-line
invariant-loop-line l =
    let s = l.self.shape in
    Filled (output_of Running (place_of s) s.taps l.self.input.now l.self.kernel.now) (length l.initial.output) l.output (l.line * s.x.out)
