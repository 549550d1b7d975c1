-- What `add_taps` adds are these taps (`block_summed`).
use Rattle.convolution.proofs.Runs.{block_summed}
use Rattle.convolution.proofs.RowPair.add_block.Goals as goal

pub returns : goal.returns
returns c =
    let t = c.args.self.now in
    block_summed t.x t.row.now t.weights.now t.fits c.args.output c.args.taps c.args.out.now c.requires (rw c.position_of-from.ensures at c.add_taps.ensures)
