-- `put_shown` meets its contract, by recursion on the count: a number and a comma, then the others.
use Rattle.std.proofs.Common.{arith}
use Rattle.text.specs.Lists.{shown}
use Rattle.print.proofs.PutLaws.{put_none, put_then, show_more}
use Rattle.print.proofs.+put_shown.Goals as goal

pub returns-then-count-eq0 : goal.returns-then-count-eq0
unfolding shown
returns-then-count-eq0 t c = rw c.if-count-eq0.true (put_none _ _ (omega arith) (omega arith))

pub returns-then-count-eq1 : goal.returns-then-count-eq1
unfolding shown
returns-then-count-eq1 t c = rw c.if-count-eq1.true c.put_number-next.ensures

pub returns : goal.returns
returns t c =
    rw (show_more _ c.args.items c.if-count-eq0.false c.if-count-eq1.false)
    (put_then c.put_number-next.ensures (put_then c.put_byte-comma.ensures c.put_shown.ensures))
