-- A tap that lies inside an axis lies below 2^32.
use Prim.Native.Nat.{◌^◌}
use Rattle.std.proofs.Common.{rules}
use Rattle.taps.proofs.Joins.{below_more}
use Rattle.shape.proofs.folded_tap.Goals as goal

pub both-requires : goal.both-requires
both-requires g c =
    let laws = g.met.D.Direction.laws in (
      rw c.tap-outer.ensures (below_more c.args.z.input (2 ^ 32) _ (search rules) (laws.tap_below c.args.z _ _)),
      rw c.tap-inner.ensures (below_more c.args.y.input (2 ^ 32) _ (search rules) (laws.tap_below c.args.y _ _)),
    )
