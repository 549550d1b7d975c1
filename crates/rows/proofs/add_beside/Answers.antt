-- A kernel row of one weight.
use Rattle.std.proofs.Common.{arith, ◌≡◌, ◌+◌, ◌*◌}
use Rattle.rows.proofs.Rows.{summed_same}
use Rattle.rows.proofs.Held.{summed_first}
use Rattle.rows.proofs.add_beside.Goals as goal

pub returns : goal.returns
returns c =
    rw (← c.min-n.ensures)
    (summed_same (summed_first _ 1 (omega arith) c.add_each.ensures) (λ x t p q.
    let z : t ≡ 0 = omega arith in
    let e : x * 1 + 0 * 1 ≡ x = omega arith in
    rw (z, e)))
