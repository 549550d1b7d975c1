-- `elements` meets its contract: sizes within their limits have products that fit.
use native.Mathlib.Omega.{arith}
use Rattle.tensor.proofs.Plane.{sizes_in}
use Rattle.tensor.proofs.Dimensions.elements.Goals as goal

pub overflow_mul-result-2 : goal.overflow_mul-result-2
overflow_mul-result-2 c = omega (arith, sizes_in _ _ _ _ _ c.requires.within)

pub overflow_mul-result-3 : goal.overflow_mul-result-3
overflow_mul-result-3 c = omega (arith, sizes_in _ _ _ _ _ c.requires.within)
