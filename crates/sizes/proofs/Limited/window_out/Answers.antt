-- The size is one rule for every mode.
use Rattle.sizes.proofs.SizeRule.{size_rule}
use Rattle.sizes.proofs.Limited.window_out.Goals as goal

pub returns : goal.returns
returns c =
    let a = c.args.self in
    rw (size_rule a.mode c.args.rounding a.axis a.limits) (simp (c.explicit_out.ensures, c.rounding_of.ensures))
