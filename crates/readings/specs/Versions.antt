-- MaxPool-14 beside MaxPool-8.
use Rattle.std.specs.Prelude.{ℕ, ◌≡◌, List, ℤ, Float}
use Rattle.layer.specs.declared.Layer.{Layer}
use Rattle.pooling.specs.Call.{max_pool_answer, max_pool_values, max_pool_indices}
use Rattle.readings.specs.Layers.{layer_with}

-- the layer at another version
abbrev pub at_version : ℕ → Layer → Layer
at_version version l = layer_with version l.n l

-- "Floor and ceil mean the same at both versions": every call of max pooling comes back with the same and leaves the same with either layer
pub record SameCalls (a b : Layer) : Type 0 where
  pub answer : (input values : List Float) (indices : List ℤ) → max_pool_answer a input values indices ≡ max_pool_answer b input values indices
  pub values : (input values : List Float) (indices : List ℤ) → max_pool_values a input values indices ≡ max_pool_values b input values indices
  pub indices : (input values : List Float) (indices : List ℤ) → max_pool_indices a input values indices ≡ max_pool_indices b input values indices
