-- Each return is one case: every tap behind the input, every tap before it, the position alone (twice), every tap inside.
use Prim.Native.Nat.{◌-◌}
use native.Mathlib.Omega.{arith}
use Rattle.sizes.proofs.Division.{times_le}
use Rattle.taps.proofs.Exact.{same_behind, same_before, same_inside}
use Rattle.taps.proofs.same_until.Goals as goal

pub overflow_add-last : goal.overflow_add-last
overflow_add-last c = let a = c.args in omega (arith, times_le {a = c.args.p} {b = c.args.s.stride} 4294967295 65535 (omega arith) (omega arith), c.reach.ensures, times_le {a = a.s.kernel - 1} {b = a.s.dilation} 4294967295 65535 (omega arith) (omega arith))

pub returns-then-end-start : goal.returns-then-end-start
returns-then-end-start c = same_behind c.args.s (omega arith) (omega arith)

pub returns-then-last-begin : goal.returns-then-last-begin
returns-then-last-begin c = same_before c.args.s c.end_before.ensures

pub returns : goal.returns
returns c = same_inside c.args.s (omega arith) c.end_before-2.ensures

pub overflow_mul-start : goal.overflow_mul-start
overflow_mul-start c = omega (arith, times_le {a = c.args.p} {b = c.args.s.stride} 4294967295 65535 (omega arith) (omega arith))

pub end_before-requires-2 : goal.end_before-requires-2
end_before-requires-2 c = omega (arith, c.if-end-last.false, c.reach.ensures)
