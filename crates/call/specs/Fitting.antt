-- For the operators' code: slices that fit an accepted shape, with good elements.
use Rattle.std.specs.Prelude.{◌≡◌, List, length, Float}
use Rattle.shape.specs.declared.Shape.{Shape}
use Rattle.shape.specs.Facts.{Grouped}
use Rattle.sums.specs.Finite.{AllOk}

-- a convolution of either kind
pub record Fitting (s : Shape) (input kernel : List Float) : Type 0 where
  pub shape : Grouped s
  pub input_length : length input ≡ s.inputs
  pub kernel_length : length kernel ≡ s.weights
  pub input_good : AllOk input
  pub kernel_good : AllOk kernel
