-- Every sum has its first k taps.
use Prim.Native.Nat.{◌+◌}
use lib.ListN.{length}
use Rattle.rows.specs.Rows.{Summed}
use Rattle.transposed.specs.Rows.{row_tap}
use Rattle.transposed.proofs.add_taps.Given as goal

abbrev pub invariant-loop-k : goal.invariant-loop-k
invariant-loop-k l = Summed (λ p k. row_tap l.row l.weights (p + l.x.begin) l.x.dilation l.x.stride k) l.k (length l.initial.out) l.initial.out l.out
