-- Number 5 is one rule for every mode.
use Rattle.sizes.proofs.SizeRule.{fits_rule}
use Rattle.sizes.proofs.Limited.window_fits.Goals as goal

pub returns : goal.returns
returns c = simp (c.padded_size.ensures.value, c.dilated_kernel.ensures, fits_rule c.args.self.mode c.args.self.axis)
