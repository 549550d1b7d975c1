-- `put_text` meets its contract. The loop's invariant: the bytes passed are put, and next is the place after them.
use Rattle.print.proofs.PutLaws.{text_step}
use Rattle.print.proofs.put_text.Goals as goal

pub loop-b-preserved : goal.loop-b-preserved
loop-b-preserved c = text_step _ _ _ _ _ _ _ _ c.loop-b.invariant c.loop-b-test.true c.put_byte-next.ensures
