-- Up to position p, the pairs of the positions before it.
use Rattle.std.proofs.Common.{◌≡◌}
use Rattle.taps.specs.Taps.{tap_inside}
use Rattle.products.specs.Pairs.{pairs_below}
use Rattle.products.proofs.pairs_by_position.Given as goal

abbrev pub invariant-loop-p : goal.invariant-loop-p
invariant-loop-p l = l.pairs ≡ pairs_below l.p l.s.kernel (tap_inside l.s)
