-- The part's taps are those from tap k on.
use Rattle.std.proofs.Common.{refl}
use Rattle.rows.proofs.Held.{part_held, part_taps}
use Rattle.rows.proofs.Under.add_some.Goals as goal

pub add_each-requires : goal.add_each-requires
add_each-requires g c =
    let a = c.args.self.now in
    part_held a.values.now a.weights.now a.stride a.dilation c.args.k g.row.N refl c.copy_from_slice.ensures.after c.requires.taps c.requires.held

pub returns : goal.returns
returns g c =
    let a = c.args.self.now in
    part_taps a.values.now a.weights.now a.stride a.dilation c.args.k g.row.N refl c.copy_from_slice.ensures.after c.requires.taps c.add_each.ensures
