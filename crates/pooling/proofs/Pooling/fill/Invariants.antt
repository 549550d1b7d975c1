-- The first `line` rows of both outputs are written.
use Prim.Native.Nat.{◌*◌}
use lib.ListN.{length}
use Rattle.tensor.proofs.Table.{Filled}
use Rattle.pooling.specs.Call.{pooled_value, pooled_index}
use Rattle.pooling.proofs.Pooling.fill.Given as goal

abbrev pub invariant-loop-line : goal.invariant-loop-line
invariant-loop-line l =
    let s = l.self.shape in
    record {
      values_are : Filled (pooled_value l.self.input.now s) (length l.initial.values) l.values (l.line * s.x.out);
      indices_are : Filled (pooled_index l.self.input.now s) (length l.initial.indices) l.indices (l.line * s.x.out);
    }
