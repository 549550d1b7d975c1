-- Floor and ceil at both versions: checks 1 to 7 ask for the version in one test of number 2, which both pass, and nothing else of a call does.
use Rattle.std.specs.Prelude.{Result}
use mathlib.Core.Path.{◌≡◌, refl, ap}
use mathlib.Core.Bool.{false, ◌&&◌}
use mathlib.Core.List.{List, [], ◌∷◌}
use lib.IntN.{ℤ}
use lib.ListN.{length}
use lib.Ieee.{Float}
use Rattle.layer.specs.declared.Op.{Op}
use Rattle.layer.specs.declared.Op.TheVariants.{Convolution, Transposed, MaxPool}
use Rattle.layer.specs.declared.Rounding.{Rounding}
use Rattle.layer.specs.declared.Layer.{Layer}
use Rattle.layer.specs.Kinds.{same_op, is_ceil_torch}
use Rattle.shape.specs.Checks.{dimensions_ok, version_ok, unused_ok, attributes_ok, counts_ok, fits_ok, output_ok, windows_ok}
use Rattle.shape.specs.Judge.{judged}
use Rattle.tensor.specs.Element.{element_check}
use Rattle.call.specs.Checks.{slices_of, verdict}
use Rattle.call.specs.Call.{answer_in, leaves}
use Rattle.pooling.specs.Call.{pooled_value, pooled_index, call_verdict}
use Rattle.readings.specs.Versions.{at_version, SameCalls}
use Rattle.layer.specs.declared.Refusal.{Refusal}
use Rattle.shape.specs.declared.Shape.{Shape}

-- number 2's test of the version
both_pass : (op : Op) (r : Rounding) → is_ceil_torch r ≡ false → same_op MaxPool op && version_ok 14 op r ≡ same_op MaxPool op && version_ok 8 op r
both_pass Convolution r h = refl
both_pass Transposed r h = refl
both_pass MaxPool r h = rw h

same_judged : (l : Layer) → is_ceil_torch l.rounding ≡ false → judged MaxPool (at_version 14 l) ≡ judged MaxPool (at_version 8 l)
unfolding dimensions_ok unused_ok attributes_ok counts_ok fits_ok output_ok windows_ok judged
same_judged l h = rw (both_pass l.op l.rounding h)

pub same_at_both : (l : Layer) → is_ceil_torch l.rounding ≡ false → SameCalls (at_version 14 l) (at_version 8 l)
same_at_both l h =
    record {
      answer = λ input values indices. ap answer_in (same input values indices);
      values = λ input values indices. ap (λ (v : Result Shape Refusal). leaves v (pooled_value input) values) (same input values indices);
      indices = λ input values indices. ap (λ (v : Result Shape Refusal). leaves v (pooled_index input) indices) (same input values indices);
    }
  where
    same : (input values : List Float) (indices : List ℤ) → call_verdict (at_version 14 l) input values indices ≡ call_verdict (at_version 8 l) input values indices
    same input values indices =
        ap (λ (j : Result Shape Refusal). verdict j (slices_of MaxPool (length input) (length values) (length indices)) (element_check input ∷ [])) (same_judged l h)
