-- One turn is the halved sum of one output more.
use Rattle.std.proofs.Common.{arith, ◌∙◌, ◌<◌}
use Rattle.tensor.proofs.Table.{filled_none, filled_more}
use Rattle.halved.proofs.Outputs.{held, held_fewer, halved_output}
use Rattle.halved.proofs.fill.Goals as goal

pub loop-j-init : goal.loop-j-init
loop-j-init c = filled_none _ _

pub halved_sum-requires-clause-held : goal.halved_sum-requires-clause-held
halved_sum-requires-clause-held c =
    let s = c.args.s in
    let l : c.loop-j.j < s.outputs = omega arith in
    rw c.output_at.ensures (held_fewer _ s.taps _ _ _ (omega arith) (held s _ _ c.requires.fitting l))

pub loop-j-preserved : goal.loop-j-preserved
loop-j-preserved c =
    filled_more _ c.loop-j.invariant (omega (arith, c.loop-j.invariant.kept))
    (c.halved_sum.ensures ∙ rw c.output_at.ensures (halved_output c.args.s _ _ c.requires.fitting c.loop-j.j))
