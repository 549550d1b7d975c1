-- What a user is told of an accepted call of max pooling, without the fold that finds it.
use Rattle.std.specs.Prelude.{ℕ, ◌%◌, ◌<◌, ◌≡◌, List, T, ℤ, pos, length, get_or, Float}
use Rattle.std.specs.Float.Ieee.{le}
use Rattle.layer.specs.declared.Layer.{Layer}
use Rattle.shape.specs.declared.Shape.{Shape}
use Rattle.tensor.specs.Table.{read}
use Rattle.tensor.specs.Window.{All, FirstLargest}
use Rattle.pooling.specs.Windows.{window_places}
use Rattle.pooling.specs.Call.{max_pool_values, max_pool_indices}

-- Output number j after the call: the value and the place of one element of the window, which is the first largest. `largest` says that it is an element of
-- the window and that every earlier one is below it, `most` that every element of the window is at most it, `index` that the index names it.
pub record BestOfWindow (layer : Layer) (input values : List Float) (indices : List ℤ) (s : Shape) (j : ℕ) : Type 0 where
  pub place : ℕ
  pub within : place < length input
  pub largest : FirstLargest input (window_places s j) (read input place) place
  pub most : All (λ q. T (le (read input q) (read input place))) (window_places s j)
  pub value : read (max_pool_values layer input values indices) j ≡ read input place
  pub index : get_or (max_pool_indices layer input values indices) j (pos 0) ≡ pos (place % s.modulus)
