-- `put_number` meets its contract, by recursion on the number: the digits before the last, then the last.
use Rattle.text.proofs.NumberLaws.{decimal_small, decimal_big}
use Rattle.print.proofs.PutLaws.{put_then}
use Rattle.print.proofs.+put_number.Goals as goal

pub returns-then-n-lt10 : goal.returns-then-n-lt10
returns-then-n-lt10 t c = rw (decimal_small _ c.if-n-lt10.true) c.put_byte.ensures

pub returns : goal.returns
returns t c = rw (decimal_big _ c.if-n-lt10.false) (put_then c.put_number-next.ensures c.put_byte-2.ensures)
