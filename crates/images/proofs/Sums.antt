-- The sums of an image, for any place function whose places stay in the output's image: those of image n are the places of the layer with one image, moved by the
-- images before it. Each tap of an output of image n has then the factors that it has in the call on image n alone.
use Rattle.std.specs.Prelude.{IsOk, Ok}
use mathlib.Core.Path.{◌≡◌, refl, sym, ap, ◌∙◌, subst}
use mathlib.Core.Bool.{Bool, false, cond}
use mathlib.Core.List.{List}
use Prim.Native.Nat.{ℕ, ◌+◌, ◌*◌, ◌/◌, ◌<◌}
use lib.ListN.{length}
use lib.Ieee.{Float, nan}
use Rattle.layer.specs.declared.Op.{Op}
use Rattle.layer.specs.declared.Layer.{Layer}
use Rattle.layer.specs.Kinds.{is_pool}
use Rattle.shape.specs.declared.Shape.{Shape}
use Rattle.shape.specs.Counts.{shape_of}
use Rattle.shape.specs.Facts.{Grouped}
use Rattle.shape.proofs.Accepted.{grouped}
use Rattle.tensor.specs.Table.{tabulate}
use Rattle.tensor.proofs.Table.{tabulate_same}
use Rattle.sums.specs.declared.Profile.{Profile}
use Rattle.sums.specs.Taps.{Place, missing, outside, at, InRange, tap_at, inside_only, output_of}
use Rattle.sums.proofs.Outputs.{output_same}
use Rattle.call.specs.Checks.{sum_verdict}
use Rattle.call.specs.Call.{answer_of, contents_of}
use Rattle.call.specs.Fitting.{Fitting}
use Rattle.call.proofs.Checked.{run_taken, zero_run}
use Rattle.call.proofs.Outcome.{run_answer, run_leaves, Ranges, fitting}
use Rattle.images.specs.Images.{image_of, one_image}
use Rattle.images.specs.Calls.{SameOutputs, SummedAlone, OutputsAlone}
use Rattle.images.proofs.Parts.{image_get, image_tabulate}
use Rattle.images.proofs.Numbers.{input_size, output_size}
use Rattle.images.proofs.Accepted.{lengths_three, Batch, batch, own_input, own_output, own_run}

-- a place with `more` elements of the input before it; the kernel's stays
abbrev pub moved : ℕ → Place → Place
moved more missing = missing
moved more (outside weight) = outside weight
moved more (at place weight) = at (more + place) weight

-- the places stay in the output's image
abbrev pub Stays : Op → (Shape → ℕ → ℕ → Place) → Type 0
Stays op place =
    (l : Layer) → Grouped (shape_of op l) → (n q t : ℕ)
    → place (shape_of op l) (n * output_size (shape_of op l) + q) t ≡ moved (n * input_size (shape_of op l)) (place (shape_of op (one_image l)) q t)

-- one tap, in a running sum and in a halved one
tap_moved : (images size n : ℕ) (input kernel : List Float) (weights : ℕ) (p : Place) → length input ≡ images * size → n < images → InRange size weights p
    → tap_at input kernel (moved (n * size) p) ≡ tap_at (image_of images n input) kernel p
unfolding tap_at
tap_moved images size n input kernel weights missing e h r = refl
tap_moved images size n input kernel weights (outside w) e h r = refl
tap_moved images size n input kernel weights (at a w) e h r = rw (image_get images size n input e h a nan r.0)

inside_moved : (images size n : ℕ) (input kernel : List Float) (weights : ℕ) (p : Place) → length input ≡ images * size → n < images → InRange size weights p
    → tap_at input kernel (inside_only (moved (n * size) p)) ≡ tap_at (image_of images n input) kernel (inside_only p)
unfolding inside_only
inside_moved images size n input kernel weights missing e h r = tap_moved images size n input kernel weights missing e h r
inside_moved images size n input kernel weights (outside w) e h r = tap_moved images size n input kernel weights missing e h tt
inside_moved images size n input kernel weights (at a w) e h r = tap_moved images size n input kernel weights (at a w) e h r

-- ---- an accepted call
module _ (op : Op) (pool : is_pool op ≡ false) (profile : Profile) (place : Shape → ℕ → ℕ → Place) (ranges : Ranges place) (stays : Stays op place) (l : Layer) (input kernel before : List Float) (n : ℕ) (h : n < l.n) (z : IsOk (answer_of op l input kernel (length before))) where
  abbrev s : Shape
  s = shape_of op l

  abbrev t : Shape
  t = shape_of op (one_image l)

  abbrev image : List Float
  image = image_of l.n n input

  run : sum_verdict op l input kernel (length before) ≡ Ok s
  run = zero_run op l _ _ z

  fits : Fitting s input kernel × (length before ≡ s.outputs)
  fits = fitting op pool l input kernel (length before) s run

  facts : Batch op l input
  facts = batch op l _ input _ run fits.0.input_length

  -- the place of a tap in the call alone
  range_alone : (q u : ℕ) → q < output_size s → u < s.taps → InRange (input_size s) t.weights (place t q u)
  range_alone q u small k =
      subst (λ (m : ℕ). InRange m t.weights (place t q u)) facts.one_inputs (ranges t (grouped op (one_image l) t pool facts.one_accepted) q u (rw facts.one_outputs small) k)

  -- each tap of output q of image n has the factors that it has in the call alone, so that their sum is the same
  output_alone : (q : ℕ) → q < output_size s → output_of profile (place s) s.taps input kernel (n * output_size s + q) ≡ output_of profile (place t) t.taps image kernel q
  output_alone q small =
      output_same profile (place s) (place t) s.taps input image kernel _ q
      (λ u k. ap (tap_at input kernel) (stays l fits.0.shape n q u) ∙ tap_moved l.n (input_size s) n input kernel t.weights (place t q u) facts.inputs h (range_alone q u small k))
      (λ u k. ap (λ (p : Place). tap_at input kernel (inside_only p)) (stays l fits.0.shape n q u)
      ∙ inside_moved l.n (input_size s) n input kernel t.weights (place t q u) facts.inputs h (range_alone q u small k))

  -- all of them, by the image alone
  outputs_alone : image_of l.n n (contents_of op profile place l input kernel before) ≡ tabulate (output_of profile (place t) t.taps image kernel) (output_size s)
  outputs_alone =
      ap (image_of l.n n) (sym (run_leaves _ (λ s. output_of profile (place s) s.taps input kernel) before s run))
      ∙ image_tabulate l.n (output_size s) n _ s.outputs facts.outputs h
      ∙ tabulate_same _ _ (output_size s) output_alone

  -- the call on the image alone
  module _ (own : List Float) (k : length own ≡ length before / l.n) where
    run_alone : sum_verdict op (one_image l) image kernel (length own) ≡ Ok t
    run_alone =
        own_run op l input facts n h _ _
        (lengths_three _ _ _ (own_input op l input facts n h) (fits.0.kernel_length ∙ sym (ap (λ (b : Bool). cond b t.outputs t.weights) pool)) (own_output op l input facts n h own before fits.1 k))
        (run_taken _ _ _ s run).good.1

    alone : SummedAlone op profile place l input kernel before own n
    alone =
        record {
          answer = sym (run_answer _ t run_alone);
          outputs =
              outputs_alone ∙ ap (tabulate (output_of profile (place t) t.taps image kernel)) (sym facts.one_outputs)
              ∙ run_leaves _ (λ s. output_of profile (place s) s.taps image kernel) own t run_alone;
        }

-- ---- the laws of an operator
module _ (op : Op) (pool : is_pool op ≡ false) (profile : Profile) (place : Shape → ℕ → ℕ → Place) (ranges : Ranges place) (stays : Stays op place) where
  pub same_outputs : SameOutputs op profile place
  same_outputs l a b kernel before-a before-b n h za zb e =
      outputs_alone op pool profile place ranges stays l a kernel before-a n h za
      ∙ ap (λ (image : List Float). tabulate (output_of profile (place (shape_of op (one_image l))) (shape_of op (one_image l)).taps image kernel) (output_size (shape_of op l))) e
      ∙ sym (outputs_alone op pool profile place ranges stays l b kernel before-b n h zb)

  pub image_alone : OutputsAlone op profile place
  image_alone l input kernel before own n h z k = alone op pool profile place ranges stays l input kernel before n h z own k
