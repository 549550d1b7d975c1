-- Outputs that are alike and have no tap along x have none; else there is one.
use mathlib.Core.Path.{sym, ◌∙◌}
use Rattle.convolution.proofs.Inside.{part_away}
use Rattle.convolution.proofs.OutputRow.add_part.Goals as goal

pub returns-then-none_inside : goal.returns-then-none_inside
returns-then-none_inside c =
    let t = c.args.self.now in
    part_away t.tensors.shape t.tensors.fitting.shape _ _ t.line t.line_of c.args.c c.requires.part_in (sym c.none_inside.ensures ∙ c.if-none_inside.true)

pub add_channels-requires : goal.add_channels-requires
add_channels-requires c = record { columns_in = record { part = c.requires.part_in; some_taps = sym c.none_inside.ensures ∙ c.if-none_inside.false } }
