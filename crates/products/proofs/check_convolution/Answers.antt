-- A call that is run has an accepted shape.
use Rattle.std.proofs.Common.{refl, sym, ◌∙◌}
use Rattle.layer.specs.declared.Op.TheVariants.{Convolution}
use Rattle.call.proofs.Outcome.{fitting}
use Rattle.products.proofs.check_convolution.Goals as goal

pub products_over-requires : goal.products_over-requires
products_over-requires c = (fitting Convolution refl _ _ _ _ _ (sym c.check_sum.ensures ∙ c.in_ok-s.was)).0.shape
