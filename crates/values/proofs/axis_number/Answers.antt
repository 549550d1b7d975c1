-- `axis_number` meets its contract, by the length and the sign.
use Rattle.std.proofs.Common.{◌≡◌, length, get_or, arith, ne_eqb}
use Rattle.values.proofs.AxisLaws.{axis_by}
use Rattle.values.proofs.axis_number.Goals as goal

pub returns-in-len1 : goal.returns-in-len1
returns-in-len1 c = let n : length c.args.t.now ≡ 1 = omega arith in rw (axis_by, n) c.axis_digit.ensures

pub returns-in-45 : goal.returns-in-45
returns-in-45 c =
    let n : length c.args.t.now ≡ 2 = omega arith in
    let m : get_or c.args.t.now 0 0 ≡ 45 = omega arith in
    rw (axis_by, n, m) c.axis_digit-in-45.ensures

pub returns-in_default : goal.returns-in_default
returns-in_default c = let n : length c.args.t.now ≡ 0 = omega arith in rw (axis_by, n)

pub returns-in_default-2 : goal.returns-in_default-2
returns-in_default-2 c =
    let n : length c.args.t.now ≡ 2 = omega arith in
    rw (axis_by, n, ne_eqb (get_or c.args.t.now 0 0) 45 (λ e. omega arith))

pub returns-in_default-3 : goal.returns-in_default-3
returns-in_default-3 c =
    let n = length c.args.t.now in
    rw (axis_by, ne_eqb n 1 (λ e. omega arith), ne_eqb n 2 (λ e. omega arith))
