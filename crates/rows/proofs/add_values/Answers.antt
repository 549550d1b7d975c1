-- One turn is one stride more.
use Rattle.std.proofs.Common.{arith, ◌≡◌, length}
use Rattle.rows.proofs.Spread.{spread_next, spread_all}
use Rattle.rows.proofs.add_values.Goals as goal

pub loop-m-preserved : goal.loop-m-preserved
loop-m-preserved c =
    spread_next c.args.values.now c.args.weight c.args.stride c.requires.stride_1 c.loop-m.invariant c.loop-m-test.true (c.requires.by_index _ c.loop-m-test.true) c.add_product.ensures

pub returns : goal.returns
returns c =
    let e : c.loop-m.m ≡ length c.args.values.now = omega arith in
    spread_all c.args.values.now c.args.weight c.args.stride c.requires.stride_1 (rw e at c.loop-m.invariant)
