-- What a call of max pooling comes back with, and what it leaves in the two lent outputs: by cases on one verdict.
use Rattle.std.specs.Prelude.{ℕ, ◌%◌, List, ℤ, pos, length, Float, Result, ⊤}
use Rattle.layer.specs.declared.Layer.{Layer}
use Rattle.shape.specs.declared.Shape.{Shape}
use Rattle.tensor.specs.declared.Window.{Window}
use Rattle.tensor.specs.declared.Window.TheVariants.{Empty, Best}
use Rattle.tensor.specs.Table.{plus_zero}
use Rattle.call.specs.Checks.{pool_verdict}
use Rattle.call.specs.Call.{answer_in, leaves}
use Rattle.pooling.specs.Windows.{window_of}
use Rattle.layer.specs.declared.Refusal.{Refusal}

-- "with its own bits". No window of an accepted call is empty.
abbrev pub value_of : Window → Float
value_of Empty = plus_zero
value_of (Best v p) = v

-- "The index is its flat place in the input modulo the product of the dimensions from `axis` on"
abbrev pub index_of : ℕ → Window → ℤ
index_of m Empty = pos 0
index_of m (Best v p) = pos (p % m)

-- value and index of output number j
abbrev pub pooled_value : List Float → Shape → ℕ → Float
pooled_value input s j = value_of (window_of input s j)

abbrev pub pooled_index : List Float → Shape → ℕ → ℤ
pooled_index input s j = index_of s.modulus (window_of input s j)

-- of the layer, the input, and the entry contents of values and indices: the answer, and the contents after the call
abbrev pub call_verdict : Layer → List Float → List Float → List ℤ → Result Shape Refusal
call_verdict layer input values indices = pool_verdict layer input (length values) (length indices)

abbrev pub max_pool_answer : Layer → List Float → List Float → List ℤ → Result ⊤ Refusal
max_pool_answer layer input values indices = answer_in (call_verdict layer input values indices)

abbrev pub max_pool_values : Layer → List Float → List Float → List ℤ → List Float
max_pool_values layer input values indices = leaves (call_verdict layer input values indices) (pooled_value input) values

abbrev pub max_pool_indices : Layer → List Float → List Float → List ℤ → List ℤ
max_pool_indices layer input values indices = leaves (call_verdict layer input values indices) (pooled_index input) indices
