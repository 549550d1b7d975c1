-- A call that is run passed every check: its slices fit its shape, and every element of the input is good.
use Rattle.std.specs.Prelude.{Ok}
use Rattle.tensor.specs.Element.{good}
use Prim.Native.Nat.{ℕ}
use mathlib.Core.Path.{◌≡◌}
use mathlib.Core.List.{List}
use lib.ListN.{length}
use lib.Ieee.{Float}
use Rattle.layer.specs.declared.Layer.{Layer}
use Rattle.shape.specs.declared.Shape.{Shape}
use Rattle.shape.specs.Facts.{Pooled}
use Rattle.shape.proofs.Accepted.{pooled}
use Rattle.tensor.specs.Element.{element_check}
use Rattle.call.specs.Checks.{pool_verdict}
use Rattle.call.proofs.Checked.{run_taken, three_lengths}

pub record PoolFitting (s : Shape) (input : List Float) (values indices : ℕ) : Type 0 where
  pub shape : Pooled s
  pub input_length : length input ≡ s.inputs
  pub values_length : values ≡ s.outputs
  pub indices_length : indices ≡ s.outputs
  pub good : element_check input ≡ good

pub pool_fitting : (l : Layer) (input : List Float) (values indices : ℕ) (s : Shape) → pool_verdict l input values indices ≡ Ok s → PoolFitting s input values indices
pool_fitting l input values indices s e =
    let t = run_taken _ _ _ s e in
    let n = three_lengths _ _ _ t.lengths in
    record { shape = pooled l s t.layer; input_length = n.0; values_length = n.1; indices_length = n.2; good = t.good.0 }
