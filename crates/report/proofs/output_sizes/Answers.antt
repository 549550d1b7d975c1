-- An accepted shape's sizes are u32.
use native.Mathlib.Omega.{arith}
use mathlib.Core.Path.{sym, ◌∙◌}
use Rattle.shape.proofs.Accepted.{sound}
use Rattle.shape.proofs.Volumes.{channels_max}
use Rattle.report.proofs.output_sizes.Goals as goal

pub overflow_cast-result : goal.overflow_cast-result
overflow_cast-result c = omega (arith, (sound c.args.layer.op c.args.layer _ (sym c.judge.ensures ∙ c.in_ok-s.was)).n_16)

pub overflow_cast-result-2 : goal.overflow_cast-result-2
overflow_cast-result-2 c =
    omega (arith, channels_max _ (sound c.args.layer.op c.args.layer _ (sym c.judge.ensures ∙ c.in_ok-s.was)))
