-- `read_digits` meets its contract. The loop's invariant: the digits passed have the value, and the rest goes on from it.
use Rattle.std.proofs.Common.{◌≡◌, ◌+◌, ◌-◌, ◌*◌, get_or, arith, sym, ◌∙◌}
use Rattle.text.proofs.NumberLaws.{other, next, next_over, done}
use Rattle.text.proofs.read_digits.Goals as goal

pub returns-then-not-is_ascii_digit : goal.returns-then-not-is_ascii_digit
returns-then-not-is_ascii_digit c =
    sym (c.loop-b.invariant.1 ∙ other _ _ _ c.loop-b-test.true c.if-not-is_ascii_digit.ensures.cases)

pub returns-in_err-checked_mul : goal.returns-in_err-checked_mul
returns-in_err-checked_mul c =
    rw c.from_residual.ensures (sym (c.loop-b.invariant.1 ∙ next_over _ _ _ c.loop-b-test.true c.if-not-is_ascii_digit.ensures.cases (omega (arith, c.in_err-checked_mul.ensures))))

pub returns-in_err-value : goal.returns-in_err-value
returns-in_err-value c =
    rw c.from_residual-in_err-value.ensures (sym (c.loop-b.invariant.1 ∙ next_over _ _ _ c.loop-b-test.true c.if-not-is_ascii_digit.ensures.cases (omega (arith, c.in_ok-checked_mul.ensures, c.in_err-value.ensures))))

pub loop-b-preserved : goal.loop-b-preserved
loop-b-preserved c =
    let e = next c.args.t.now c.loop-b.b-index c.loop-b.value c.loop-b-test.true c.if-not-is_ascii_digit.ensures.cases in
    let v : c.loop-b.value * 10 + (get_or c.args.t.now c.loop-b.b-index 0 - 48) ≡ c.in_ok-value.value =
    omega (arith, c.in_ok-checked_mul.ensures, c.in_ok-value.ensures) in
    (omega (arith, c.in_ok-value.ensures), c.loop-b.invariant.1 ∙ e ∙ rw v)

pub returns : goal.returns
returns c = sym (c.loop-b.invariant.1 ∙ done _ _ _ c.loop-b-test.false c.loop-b.invariant.0)
