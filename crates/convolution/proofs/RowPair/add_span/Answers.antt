-- Outputs that are alike have a block of taps (`alike_summed`).
use Rattle.convolution.proofs.Runs.{alike_in, alike_block, alike_summed}
use Rattle.convolution.proofs.RowPair.add_span.Goals as goal

pub add_block-requires : goal.add_block-requires
add_block-requires c =
    let t = c.args.self.now in
    let a = alike_in t.x c.args.c c.requires c.in-Alike.is in
    alike_block t.x c.in-Alike.output c.in-Alike.taps a.0 a.1

pub returns-in-Alike : goal.returns-in-Alike
returns-in-Alike c =
    let t = c.args.self.now in
    let a = alike_in t.x c.args.c c.requires c.in-Alike.is in
    rw c.in-Alike.is (alike_summed t.x t.row.now t.weights.now c.in-Alike.output c.in-Alike.taps a.0 c.add_block.ensures)
