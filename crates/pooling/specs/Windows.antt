-- The window of each output: "Pooling: taps as for convolution, in each channel of each image; taps outside the input are no elements". "A window holds either
-- nothing, or a best value with its place."
use Rattle.std.specs.Prelude.{ℕ, zero, suc, ◌+◌, ◌*◌, ◌/◌, ◌%◌, List, [], ◌∷◌, ◌++◌, Float, None, Option, Some}
use Rattle.taps.specs.Joins.{forward}
use Rattle.shape.specs.declared.Shape.{Shape}
use Rattle.shape.specs.Volumes.{input_volume, kernel_volume, out_volume, on_plane}
use Rattle.tensor.specs.declared.Window.{Window}
use Rattle.tensor.specs.declared.Window.TheVariants.{Empty}
use Rattle.tensor.specs.Window.{best_of}

-- "taps outside the input are no elements"
abbrev pub at_tap : (ℕ → List ℕ) → Option ℕ → List ℕ
at_tap f None = []
at_tap f (Some q) = f q

-- what f gives for where the taps 0, 1, .., n - 1 lie, one after the other
unfoldable pub over_taps : (ℕ → Option ℕ) → (ℕ → List ℕ) → ℕ → List ℕ
over_taps tap f zero = []
over_taps tap f (suc k) = over_taps tap f k ++ at_tap f (tap k)

-- The places in the input of the elements of the window of output number j of [N, C, OZ, OY, OX], "by kz, then ky, then kx": the kernel's positions, row-major.
-- "in each channel of each image": pooling keeps image and channel.
abbrev pub window_places : Shape → ℕ → List ℕ
window_places s j = over_taps (on_plane forward s (j % out_volume s)) (λ q. (j / out_volume s * input_volume s + q) ∷ []) (kernel_volume s)

unfoldable pub window_of : List Float → Shape → ℕ → Window
window_of input s j = best_of input (window_places s j) Empty
