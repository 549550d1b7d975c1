-- For the code, and no part of what is promised: the pairs of one axis, and the verdict of a call with its products.
use Rattle.std.specs.Prelude.{ℕ, Err, Ok, Result}
use Rattle.sizes.specs.declared.Span.{Span}
use Rattle.taps.specs.Taps.{tap_inside}
use Rattle.products.specs.Pairs.{pairs_below}
use Rattle.products.specs.Products.{products}
use Rattle.layer.specs.declared.Refusal.{Refusal}
use Rattle.shape.specs.declared.Shape.{Shape}

-- the pairs of an output position and a tap of it that lies inside the input
unfoldable pub pairs_inside : Span → ℕ
pairs_inside s = pairs_below s.out s.kernel (tap_inside s)

-- what the checks say, with the products of a call that is run
unfoldable pub counted_in : Result Shape Refusal → Result (Shape × ℕ) Refusal
counted_in (Ok s) = Ok (s, products s)
counted_in (Err e) = Err e
