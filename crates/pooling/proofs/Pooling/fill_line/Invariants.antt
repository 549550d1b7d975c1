-- Both rows are filled up to q.
use Prim.Native.Nat.{◌+◌, ◌*◌}
use lib.ListN.{length}
use Rattle.tensor.proofs.Table.{Filled}
use Rattle.pooling.specs.Call.{pooled_value, pooled_index}
use Rattle.pooling.proofs.Pooling.fill_line.Given as goal

abbrev pub invariant-loop-q : goal.invariant-loop-q
invariant-loop-q l =
    let s = l.self.shape in
    record {
      values_are : Filled (λ k. pooled_value l.self.input.now s (l.line * s.x.out + k)) (length l.initial.values) l.values l.q;
      indices_are : Filled (λ k. pooled_index l.self.input.now s (l.line * s.x.out + k)) (length l.initial.indices) l.indices l.q;
    }
