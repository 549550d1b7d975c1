-- `put_text` meets its contract. The loop's invariant: the bytes passed are put, and next is the place after them.
use lib.ListN.{take}
use Rattle.print.specs.Put.{Put}
use Rattle.print.proofs.put_text.Given as goal

abbrev pub invariant-loop-b : goal.invariant-loop-b
invariant-loop-b l = Put l.initial.buf l.at (take l.b-index l.src) l.next l.buf
