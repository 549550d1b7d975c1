-- Every position below p has a tap inside.
use Rattle.std.proofs.Common.{◌≡◌, false, not}
use Rattle.taps.specs.Taps.{any_below, reached}
use Rattle.taps.proofs.some_missed.Given as goal

abbrev pub invariant-loop-p : goal.invariant-loop-p
invariant-loop-p l = any_below l.p (λ q. not (reached l.s q)) ≡ false
