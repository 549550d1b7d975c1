-- The products that a convolution reports (C-19).
use Rattle.std.specs.Prelude.{ℕ, List, Float, Err, Ok, Result}
use Rattle.layer.specs.declared.Op.{Op}
use Rattle.layer.specs.declared.Op.TheVariants.{Convolution, Transposed, MaxPool}
use Rattle.layer.specs.declared.Layer.{Layer}
use Rattle.shape.specs.declared.Shape.{Shape}
use Rattle.sums.specs.Taps.{is_inside}
use Rattle.call.specs.Checks.{sum_verdict}
use Rattle.places.specs.Places.{place_of}
use Rattle.products.specs.Pairs.{pairs_below}
use Rattle.layer.specs.declared.Refusal.{Refusal}

-- The number of (output, tap) pairs whose tap lies inside the input: output number j of [N, G·O, OZ, OY, OX] and tap number t of [I, KZ, KY, KX], at the places
-- of which the output is the sum
unfoldable pub products : Shape → ℕ
products s = pairs_below s.outputs s.taps (λ j t. is_inside (place_of s j t))

-- A refused call reports 0.
unfoldable pub products_in : Result Shape Refusal → ℕ
products_in (Ok s) = products s
products_in (Err e) = 0

-- Convolution, in either profile, reports how many products it formed, by no profile; transposed convolution and pooling report none.
abbrev pub products_of : Op → Layer → List Float → List Float → ℕ → ℕ
products_of Convolution l input kernel output = products_in (sum_verdict Convolution l input kernel output)
products_of Transposed l input kernel output = 0
products_of MaxPool l input kernel output = 0
