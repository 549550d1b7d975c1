-- `halved_one` for a single tap, `halved_cut` for the two parts of a run.
use mathlib.Core.Path.{◌≡◌, sym, ◌∙◌}
use native.Mathlib.Omega.{arith}
use Rattle.sums.proofs.Halved.{halved_one, halved_cut}
use Rattle.halved.specs.Outputs.{output_taps}
use Rattle.halved.proofs.+halved_sum.Goals as goal

pub returns-then-count-lt2 : goal.returns-then-count-lt2
returns-then-count-lt2 t c =
    let n : c.args.count ≡ 1 = omega (arith, c.requires.count_1) in
    c.single.ensures ∙ rw n (sym (halved_one (output_taps c.args.input.now c.args.kernel.now c.args.o) c.args.first))

pub returns : goal.returns
returns t c =
    rw (c.halved_sum-a.ensures, c.halved_sum-b.ensures)
    (sym (halved_cut (output_taps c.args.input.now c.args.kernel.now c.args.o) c.args.first c.args.count (omega arith)))
