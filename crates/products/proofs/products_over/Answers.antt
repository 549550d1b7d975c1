-- The planes of all outputs and channels are within `bounds`.
use native.Mathlib.Omega.{arith}
use Rattle.products.proofs.Products.{bounds}
use Rattle.products.proofs.products_over.Goals as goal

pub overflow_mul-planes-2 : goal.overflow_mul-planes-2
overflow_mul-planes-2 c = omega (arith, (bounds c.args.s c.requires).channels)
