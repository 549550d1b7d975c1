-- The first n sums have all their taps among the values.
use Rattle.rows.proofs.Held.{first_held, first_taps}
use Rattle.rows.proofs.Under.add.Goals as goal

pub add_each-requires : goal.add_each-requires
add_each-requires c = first_held _ _ _ _ _ c.held-n.ensures

pub returns-then-n-lt5 : goal.returns-then-n-lt5
returns-then-n-lt5 c = first_taps _ _ _ _ _ c.held-n.ensures c.add_each.ensures

pub add_all-requires-clause-held : goal.add_all-requires-clause-held
add_all-requires-clause-held c = first_held _ _ _ _ _ c.held-n.ensures

pub returns : goal.returns
returns c = first_taps _ _ _ _ _ c.held-n.ensures c.add_all.ensures
