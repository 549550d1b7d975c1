-- `put_axis` meets its contract: a digit, or a minus and a digit.
use borrow.Author.Tests.{eq-eqb, ne_eqb}
use Rattle.print.proofs.PutLaws.{put_then}
use Rattle.values.proofs.put_axis.Goals as goal

pub returns-then-items-eq0 : goal.returns-then-items-eq0
returns-then-items-eq0 c = rw (eq-eqb _ 0 c.if-items-eq0.true) c.put_number.ensures

pub returns : goal.returns
returns c = rw (ne_eqb _ 0 c.if-items-eq0.false) (put_then c.put_byte-digit.ensures c.put_number-2.ensures)
