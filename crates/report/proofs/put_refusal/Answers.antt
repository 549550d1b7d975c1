-- The two lines, one write after another, and how long they are.
use Rattle.print.proofs.PutLaws.{put_then}
use Rattle.std.proofs.Common.{rules, arith}
use Rattle.report.proofs.Lengths.{put_end, refusal_length}
use Rattle.report.proofs.put_refusal.Goals as goal

pub returns : goal.returns
returns c =
    let p = put_then c.put_number_line-next.ensures c.put_number_line.ensures in
    record { put = rw c.number.ensures at p; upper_bound = put_end p (refusal_length _ _ (omega (arith, c.number.type_inv)) (search rules)) }
