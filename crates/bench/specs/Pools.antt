-- Document 01, "Bench cases": the cases (B) of max pooling, as calls over one plane.
use Rattle.std.specs.Prelude.{false, ◌≡◌, List, [], ◌∷◌, map, ℤ, pos, negsuc, Float, Result, Err, ⊤}
use Rattle.std.specs.Float.{fin, binary32}
use Rattle.std.specs.Float.Ieee.{of_int}
use Rattle.layer.specs.declared.Op.TheVariants.{MaxPool}
use Rattle.layer.specs.declared.AutoPad.TheVariants.{Explicit, SameUpper, Valid}
use Rattle.layer.specs.declared.Rounding.TheVariants.{Floor, Ceil, CeilTorch}
use Rattle.layer.specs.declared.Layer.{Layer}
use Rattle.layer.specs.declared.Refusal.{Refusal}
use Rattle.layer.specs.declared.Refusal.TheVariants.{EmptyWindow}
use Rattle.layer.specs.Refusals.{done}
use Rattle.pooling.specs.Call.{max_pool_answer, max_pool_values, max_pool_indices}
use Rattle.bench.specs.Sizes.{along, one_axis, one_axis_at14, two_axes}

-- What each element of a lent output is before the call of a case: 1/2, and the index -7. No call writes them in these cases, whose values are whole
-- numbers and whose indices are not negative. So an accepted call that leaves an element unwritten shows, and so does a refused call that writes zeros.
abbrev pub unwritten : Float
unwritten = fin false 1 (negsuc 0)

abbrev pub unwritten_index : ℤ
unwritten_index = negsuc 6

-- a call, and what it comes back with and leaves in outputs of unwritten elements
pub record PoolCase : Type 0 where
  pub layer : Layer
  pub input : List Float
  pub answer : Result ⊤ Refusal
  pub values : List Float
  pub indices : List ℤ

abbrev pub entry_values : PoolCase → List Float
entry_values c = map (λ v. unwritten) c.values

abbrev pub entry_indices : PoolCase → List ℤ
entry_indices c = map (λ i. unwritten_index) c.indices

pub record Computes (c : PoolCase) : Type 0 where
  pub answer : max_pool_answer c.layer c.input (entry_values c) (entry_indices c) ≡ c.answer
  pub values : max_pool_values c.layer c.input (entry_values c) (entry_indices c) ≡ c.values
  pub indices : max_pool_indices c.layer c.input (entry_values c) (entry_indices c) ≡ c.indices

-- whole numbers as f32
abbrev whole : List ℤ → List Float
whole zs = map (of_int binary32) zs

-- "(B) 002 example 2: values 3,5,5,9,9; indices 2,3,3,5,5."
abbrev pub example2 : PoolCase
example2 =
    record {
      layer = one_axis MaxPool Valid Floor (along 7 3 1 1 0);
      input = whole (negsuc 0 ∷ pos 2 ∷ pos 3 ∷ pos 5 ∷ negsuc 6 ∷ pos 9 ∷ pos 1 ∷ []);
      answer = done;
      values = whole (pos 3 ∷ pos 5 ∷ pos 5 ∷ pos 9 ∷ pos 9 ∷ []);
      indices = pos 2 ∷ pos 3 ∷ pos 3 ∷ pos 5 ∷ pos 5 ∷ [];
    }

-- "002 example 5: values 5,3,8,9; indices 4,2,7,8" and "002 example 5 is followed: valid with ceil has its size": two windows an axis, the last one holding the
-- last row or column alone.
abbrev pub example5 : PoolCase
example5 =
    record {
      layer = two_axes MaxPool Valid Ceil (along 3 2 2 1 0) (along 3 2 2 1 0);
      input = whole (negsuc 0 ∷ pos 2 ∷ pos 3 ∷ pos 4 ∷ pos 5 ∷ negsuc 5 ∷ negsuc 6 ∷ pos 8 ∷ pos 9 ∷ []);
      answer = done;
      values = whole (pos 5 ∷ pos 3 ∷ pos 8 ∷ pos 9 ∷ []);
      indices = pos 4 ∷ pos 2 ∷ pos 7 ∷ pos 8 ∷ [];
    }

-- "(B) Pool in 2, k 1, s 3, ceil, pads 0: out 2, second window empty, 7" The outputs are left as they were.
abbrev pub second_empty : PoolCase
second_empty =
    record {
      layer = one_axis MaxPool Explicit Ceil (along 2 1 3 1 0);
      input = whole (pos 4 ∷ pos 5 ∷ []);
      answer = Err EmptyWindow;
      values = unwritten ∷ unwritten ∷ [];
      indices = unwritten_index ∷ unwritten_index ∷ [];
    }

-- "with ceil_torch at version 14: out 1"
abbrev pub without_second : PoolCase
without_second =
    record {
      layer = one_axis_at14 Explicit CeilTorch (along 2 1 3 1 0);
      input = whole (pos 4 ∷ pos 5 ∷ []);
      answer = done;
      values = whole (pos 4 ∷ []);
      indices = pos 0 ∷ [];
    }

-- "Pool in 3, k 2, d 16, same_upper: taps -8 and 8, 7." The outputs are left as they were.
abbrev pub both_outside : PoolCase
both_outside =
    record {
      layer = one_axis MaxPool SameUpper Floor (along 3 2 1 16 0);
      input = whole (pos 4 ∷ pos 5 ∷ pos 6 ∷ []);
      answer = Err EmptyWindow;
      values = unwritten ∷ unwritten ∷ unwritten ∷ [];
      indices = unwritten_index ∷ unwritten_index ∷ unwritten_index ∷ [];
    }
