-- The values that find a sum are the first ones.
use Rattle.std.proofs.Common.{arith}
use Rattle.rows.proofs.Spread.{spread_no, spread_within, spread_part}
use Rattle.rows.proofs.add_spread.Goals as goal

pub returns-then-stride-eq0 : goal.returns-then-stride-eq0
returns-then-stride-eq0 c = rw c.if-stride-eq0.true (spread_no c.args.values.now c.args.weight c.args.sums.now)

pub add_values-requires-clause-by_index : goal.add_values-requires-clause-by_index
add_values-requires-clause-by_index c =
    spread_within c.args.values.now _ 1 (rw (c.ceil_div.ensures, c.in-1.is) at c.min-n.ensures)

pub add_values-requires-in_default-clause-by_index : goal.add_values-requires-in_default-clause-by_index
add_values-requires-in_default-clause-by_index c = spread_within c.args.values.now _ c.args.stride (rw c.ceil_div.ensures at c.min-n.ensures)

pub returns-in-1 : goal.returns-in-1
returns-in-1 c =
    rw c.in-1.is (spread_part c.args.values.now c.args.weight 1 (rw (c.ceil_div.ensures, c.in-1.is) at c.min-n.ensures) (omega arith) c.add_values.ensures)

pub returns-in_default : goal.returns-in_default
returns-in_default c =
    spread_part c.args.values.now c.args.weight c.args.stride (rw c.ceil_div.ensures at c.min-n.ensures) (omega arith) c.add_values-in_default.ensures
