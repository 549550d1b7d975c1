-- `element_ok` meets its contract: the two tests are the bound of the magnitude.
use mathlib.Core.Path.{sym}
use lib.Ieee.{of_bits, neg}
use Rattle.tensor.proofs.Element.{element_between}
use Rattle.tensor.proofs.element_ok.Goals as goal

pub returns : goal.returns
unfolding of_bits neg
returns c = sym (element_between c.args.x)
