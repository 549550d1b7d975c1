-- The call on one image of an accepted call is accepted: its layer is, its slices have the lengths of one image, and the elements of the image are among those that
-- the other call looked at.
use Rattle.std.specs.Prelude.{Ok, Result, ⊤}
use mathlib.Core.Path.{◌≡◌, refl, sym, ◌∙◌, subst}
use mathlib.Core.Bool.{true}
use mathlib.Core.List.{List, [], ◌∷◌}
use Prim.Native.Nat.{ℕ, suc, ◌+◌, ◌*◌, ◌/◌, ◌<◌}
use native.Mathlib.Omega.{arith}
use borrow.Author.Tests.{eq-eqb}
use lib.Dec.{T, eqb}
use lib.ListN.{length}
use lib.Ieee.{Float, nan}
use Rattle.layer.specs.declared.Op.{Op}
use Rattle.layer.specs.declared.Layer.{Layer}
use Rattle.layer.proofs.Tests.{and_of}
use Rattle.layer.proofs.Places.{place_within}
use Rattle.shape.specs.declared.Shape.{Shape}
use Rattle.shape.specs.Counts.{shape_of}
use Rattle.shape.specs.Judge.{judged}
use Rattle.shape.proofs.Accepted.{sound}
use Rattle.tensor.specs.Element.{element_ok, element_check}
use Rattle.tensor.proofs.Element.{all_good, good_all}
use Rattle.tensor.specs.declared.BadElements.{BadElements}
use Rattle.call.specs.Checks.{Lent, lengths_ok, elements_verdict, verdict}
use Rattle.call.proofs.Checked.{AllGood, lengths_good, then_elements, first_good, run_taken}
use Rattle.images.specs.Images.{image_of, one_image}
use Rattle.images.proofs.Parts.{image_size_lem, image_length, image_get}
use Rattle.images.proofs.Layers.{layer_accepted}
use Rattle.images.proofs.Numbers.{input_size, output_size, inputs_by_images, outputs_by_images, one_inputs, one_outputs}
use Rattle.tensor.specs.Element.{good}
use Rattle.layer.specs.declared.Refusal.{Refusal}

-- ---- a call that passes checks 1 to 9 is run
elements_good : (s : Shape) (n : ℕ) (es : List (Result ⊤ BadElements)) → AllGood es → elements_verdict s n es ≡ Ok s
unfolding elements_verdict
elements_good s n [] h = refl
elements_good s n (e ∷ es) h = first_good s n e es h.0 ∙ elements_good s (suc n) es h.1

passed_run : (j : Result Shape Refusal) (slices : Shape → List Lent) (tensors : List (Result ⊤ BadElements)) (s : Shape) → j ≡ Ok s → lengths_ok (slices s) ≡ true → AllGood tensors
    → verdict j slices tensors ≡ Ok s
passed_run j slices tensors s e l g = then_elements slices tensors j s (lengths_good j slices s e l) ∙ elements_good s 0 tensors g

pub lengths_three : (a b c : Lent) → a.length ≡ a.count → b.length ≡ b.count → c.length ≡ c.count → lengths_ok (a ∷ b ∷ c ∷ []) ≡ true
lengths_three a b c p q r = and_of (eqb a.length a.count) _ (eq-eqb _ _ p) (and_of (eqb b.length b.count) _ (eq-eqb _ _ q) (and_of _ true (eq-eqb _ _ r) refl))

-- ---- what an accepted call of any operator tells of its images
pub record Batch (op : Op) (l : Layer) (input : List Float) : Type 0 where
  pub accepted : judged op l ≡ Ok (shape_of op l)
  pub one_accepted : judged op (one_image l) ≡ Ok (shape_of op (one_image l))
  pub inputs : length input ≡ l.n * input_size (shape_of op l)
  pub outputs : (shape_of op l).outputs ≡ l.n * output_size (shape_of op l)
  pub one_inputs : (shape_of op (one_image l)).inputs ≡ input_size (shape_of op l)
  pub one_outputs : (shape_of op (one_image l)).outputs ≡ output_size (shape_of op l)
  pub good : element_check input ≡ good

pub batch : (op : Op) (l : Layer) (slices : Shape → List Lent) (input : List Float) (others : List (Result ⊤ BadElements))
    → verdict (judged op l) slices (element_check input ∷ others) ≡ Ok (shape_of op l) → length input ≡ (shape_of op l).inputs → Batch op l input
batch op l slices input others e n =
    let s = shape_of op l in
    let t = run_taken (judged op l) slices (element_check input ∷ others) s e in
    let h = sound op l s t.layer in
    let one = layer_accepted op l t.layer in
    let k = sound op (one_image l) (shape_of op (one_image l)) one in
    record {
      accepted = t.layer;
      one_accepted = one;
      inputs = n ∙ inputs_by_images s h;
      outputs = outputs_by_images s h;
      one_inputs = one_inputs op l k;
      one_outputs = one_outputs op l k;
      good = t.good.0;
    }

-- ---- the call on image n
module _ (op : Op) (l : Layer) (input : List Float) (b : Batch op l input) (n : ℕ) (h : n < l.n) where
  abbrev size : ℕ
  size = input_size (shape_of op l)

  pub own_input : length (image_of l.n n input) ≡ (shape_of op (one_image l)).inputs
  own_input = image_length l.n size n input b.inputs h ∙ sym b.one_inputs

  pub own_output : {A : Type 0} (own before : List A) → length before ≡ (shape_of op l).outputs → length own ≡ length before / l.n → length own ≡ (shape_of op (one_image l)).outputs
  own_output own before e k = k ∙ image_size_lem l.n (output_size (shape_of op l)) n before (e ∙ b.outputs) h ∙ sym b.one_outputs

  -- its elements are among those of the input
  own_good : element_check (image_of l.n n input) ≡ good
  own_good =
      good_all (image_of l.n n input) (λ k m.
      let small : k < size = omega (arith, own_input, b.one_inputs) in
      let within : n * size + k < length input = omega (arith, place_within h small, b.inputs) in
      subst (λ (v : Float). T (element_ok v)) (sym (image_get l.n size n input b.inputs h k nan small)) (all_good input b.good (n * size + k) within))

  pub own_run : (slices : Shape → List Lent) (others : List (Result ⊤ BadElements)) → lengths_ok (slices (shape_of op (one_image l))) ≡ true → AllGood others
      → verdict (judged op (one_image l)) slices (element_check (image_of l.n n input) ∷ others) ≡ Ok (shape_of op (one_image l))
  own_run slices others e g = passed_run _ slices _ (shape_of op (one_image l)) b.one_accepted e (own_good, g)
