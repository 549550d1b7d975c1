-- A position has at most as many pairs as there are taps, so all of them are below 2^64.
use Rattle.std.proofs.Common.{arith, add-one, sym, ◌∙◌, ◌+◌}
use mathlib.Core.Path.{ap₂}
use Rattle.sizes.proofs.Division.{times_le}
use Rattle.taps.specs.Taps.{tap_inside}
use Rattle.products.proofs.Sums.{sum_more}
use Rattle.products.proofs.Pairs.{count_most, pairs_most, exactly_count}
use Rattle.products.proofs.pairs_by_position.Goals as goal

pub overflow_add-pairs : goal.overflow_add-pairs
overflow_add-pairs c =
    let l = c.loop-p in
    let s = c.args.s in
    omega (
      arith,
      l.invariant,
      exactly_count c.taps_inside-inside.ensures,
      count_most s.kernel (tap_inside s l.p),
      pairs_most l.p s.kernel (tap_inside s),
      times_le {a = l.p} {b = s.kernel} 4294967294 4294967295 (omega arith) (omega arith),
    )

pub loop-p-preserved : goal.loop-p-preserved
loop-p-preserved c =
    let l = c.loop-p in
    rw (add-one l.p) (ap₂ (λ a b. a + b) l.invariant (sym (exactly_count c.taps_inside-inside.ensures)) ∙ sym (sum_more l.p _))
