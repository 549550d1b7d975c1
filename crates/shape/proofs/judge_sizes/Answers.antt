-- Past checks 1 and 2 the size rule asks number 5 alone.
use Rattle.std.proofs.Common.{rules}
use Rattle.shape.proofs.Fits.{fitted}
use Rattle.shape.proofs.judge_sizes.Goals as goal

pub judge_spans-requires : goal.judge_spans-requires
judge_spans-requires c =
    fitted c.args.op c.args.l c.requires _ _ _ (search rules) (search rules) (search rules)
