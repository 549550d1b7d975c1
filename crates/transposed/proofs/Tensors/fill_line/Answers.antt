-- The sums start at +0, and have all their taps.
use mathlib.Core.Path.{ap, ◌∙◌}
use native.Mathlib.Omega.{arith}
use Rattle.tensor.specs.Table.{tabulate}
use Rattle.call.proofs.Lines.{line_sums, line_outputs}
use Rattle.transposed.specs.Transposed.{place_of}
use Rattle.transposed.proofs.Bounds.{first_within}
use Rattle.transposed.proofs.Places.{place_from_first}
use Rattle.transposed.proofs.Tensors.fill_line.Goals as goal

pub invariant_of-row : goal.invariant_of-row
invariant_of-row c =
    let t = c.args.self.now in
    record { within = rw c.first_tap.ensures (first_within t.shape c.args.line t.fitting.shape (omega (arith, c.requires.out_bound.0, t.fitting.shape.sound.x.out_1))) }

pub returns : goal.returns
returns c =
    let t = c.args.self.now in
    let s = t.shape in
    line_sums s _ _ _ _ t.fitting (c.start.ensures ∙ ap (tabulate _) c.requires.out_bound.1) c.add_channels.ensures
    ∙ line_outputs s (place_of s) _ _ _ c.args.line (λ x t p. rw c.first_tap.ensures (place_from_first s c.args.line t c.args.self.now.fitting.shape p))
