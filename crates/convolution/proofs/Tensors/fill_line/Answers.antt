-- The sums start at +0 and take all their taps inside the input; they are then the outputs (`line_is`).
use mathlib.Core.Path.{◌≡◌, ap, ◌∙◌}
use lib.ListN.{length}
use Rattle.tensor.specs.Table.{tabulate}
use Rattle.tensor.proofs.Table.{tabulate_length}
use Rattle.convolution.proofs.Outputs.{line_is}
use Rattle.convolution.proofs.Tensors.fill_line.Goals as goal

pub returns : goal.returns
returns c =
    let t = c.args.self.now in
    let long : length c.start.new.sums ≡ t.shape.x.out = ap length c.start.ensures ∙ tabulate_length _ _ ∙ c.requires.out_bound.1 in
    line_is t.shape _ _ t.fitting c.args.line c.line_of.ensures.0 c.requires.out_bound.0 (c.start.ensures ∙ ap (tabulate _) c.requires.out_bound.1)
    (rw long at c.add_line.ensures)
