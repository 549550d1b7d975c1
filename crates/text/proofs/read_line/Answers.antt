-- `read_line` meets its contract: the key is there, or it is not.
use Rattle.std.proofs.Common.{arith, sym, ◌∙◌}
use Rattle.text.proofs.TextLaws.{tail_part}
use Rattle.text.proofs.LineLaws.{line_past, line_keyed, line_unkeyed}
use Rattle.text.proofs.read_line.Goals as goal

pub returns-in_err-get : goal.returns-in_err-get
returns-in_err-get c = rw c.from_residual.ensures (line_past _ _ _ (omega (arith, c.in_err-get.ensures.lookup)))

pub returns-then-starts : goal.returns-then-starts
returns-then-starts c = c.value_at.ensures ∙ sym (line_keyed _ _ _ (c.in_ok-get.ensures.lookup.0.2 ∙ tail_part c.args.s.now c.args.at) (sym c.if-starts.true ∙ c.starts.ensures))

pub returns : goal.returns
returns c = line_unkeyed _ _ _ (c.in_ok-get.ensures.lookup.0.2 ∙ tail_part c.args.s.now c.args.at) (sym c.if-starts.false ∙ c.starts.ensures)
