-- The taps of the row and the weights are those of the kernel row (`row_summed`).
use lib.ListN.{length}
use Rattle.convolution.specs.Inside.{first_output}
use Rattle.convolution.proofs.RowTaps.{row_fits, row_summed}
use Rattle.convolution.proofs.Runs.{outputs_within}
use Rattle.convolution.proofs.OutputRow.add_row.Goals as goal

pub invariant_of-pair : goal.invariant_of-pair
invariant_of-pair c =
    let t = c.args.self.now in
    let l = t.tensors in
    record { fits = row_fits l.shape l.input.now l.kernel.now l.fitting t.line t.line_of c.args.r c.requires.row_in c.row_of.ensures c.weights_of.ensures }

pub returns : goal.returns
returns c =
    let t = c.args.self.now in
    let l = t.tensors in
    row_summed l.shape l.input.now l.kernel.now l.fitting t.line t.line_of c.args.r c.requires.row_in c.row_of.ensures c.weights_of.ensures
    (first_output c.args.c) (outputs_within l.shape.x c.args.c (length c.args.out.now) c.requires.columns_in.part) c.add_span.ensures
