-- `value_at` meets its contract: the line end is found, or the text ends before it.
use Rattle.std.proofs.Common.{arith, ◌∙◌}
use Rattle.text.proofs.TextLaws.{tail_part}
use Rattle.text.proofs.LineLaws.{value_past, value_found, value_none, value_fits}
use Rattle.text.proofs.value_at.Goals as goal

pub returns-in_err-get : goal.returns-in_err-get
returns-in_err-get c = rw c.from_residual.ensures (value_past _ _ (omega (arith, c.in_err-get.ensures.lookup)))

pub overflow_add-end : goal.overflow_add-end
overflow_add-end c =
    omega (arith, value_fits c.args.s.now c.args.start c.find.result (c.in_ok-get.ensures.lookup.0.2 ∙ tail_part c.args.s.now c.args.start) c.find.ensures (omega (arith, c.in_ok-get.ensures.lookup)))

pub returns-then-end-s : goal.returns-then-end-s
returns-then-end-s c = value_found _ _ _ (c.in_ok-get.ensures.lookup.0.2 ∙ tail_part c.args.s.now c.args.start) c.find.ensures c.if-end-s.true

pub returns : goal.returns
returns c = value_none _ _ _ (c.in_ok-get.ensures.lookup.0.2 ∙ tail_part c.args.s.now c.args.start) c.find.ensures c.if-end-s.false
