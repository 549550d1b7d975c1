-- Numbers 8 and 9 of any operator's call. Of a layer that passes checks 1 to 7, exactly those calls have number 8 that are lent a slice whose length is not its
-- element count; `koza_lengths` tells these counts. A call with number 9 tells the first tensor that has bad elements, and no other call tells any.
use Rattle.std.specs.Prelude.{Err, Ok, Result, ⊤}
use Prim.Native.Nat.{ℕ, suc, ◌≤◌}
use native.Mathlib.Omega.{arith}
use mathlib.Core.Path.{◌≡◌, refl, sym}
use mathlib.Core.Bool.{Bool, true, false, not, cond, false≢true}
use mathlib.Core.List.{List, [], ◌∷◌}
use mathlib.Core.Logic.{◌↔◌, inl, inr}
use lib.IntN.{ℤ}
use lib.Ieee.{Float}
use Rattle.layer.specs.declared.Op.{Op}
use Rattle.layer.specs.declared.Op.TheVariants.{MaxPool}
use Rattle.layer.specs.declared.Layer.{Layer}
use Rattle.layer.specs.Refusals.{number_of, refusal_number, tells}
use Rattle.shape.specs.declared.Shape.{Shape}
use Rattle.shape.specs.Checks.{dimensions_ok, attributes_ok, groups_ok, counts_ok, fits_ok, output_ok, windows_ok}
use Rattle.shape.specs.Judge.{judged}
use Rattle.tensor.specs.Element.{first_bad, bad_count, element_check}
use Rattle.tensor.proofs.Element.{good_count, bad_elements}
use Rattle.call.specs.Checks.{Lent, lengths_ok, elements_verdict, verdict}
use Rattle.call.specs.Call.{answer_in, answer_of}
use Rattle.pooling.specs.Call.{max_pool_answer}
use Rattle.readings.specs.Calls.{TellsBad, TellsFirst}
use Rattle.layer.specs.declared.Refusal.{Refusal}
use Rattle.layer.specs.declared.Refusal.TheVariants.{Dimension, Attribute, Groups, ElementCount, Size, OutputCount, EmptyWindow, SliceLength, BadElement}
use Rattle.tensor.specs.declared.BadElements.{BadElements}

-- ---- number 8

-- the element checks give 0 or 9
not_eight : (s : Shape) (n : ℕ) (tensors : List (Result ⊤ BadElements)) → number_of (answer_in (elements_verdict s n tensors)) ≡ 8 → ⊥
unfolding elements_verdict answer_in
not_eight s n [] e = omega arith
not_eight s n (Ok u ∷ later) e = not_eight s (suc n) later e
not_eight s n (Err b ∷ later) e = omega arith

pub number_8 : (s : Shape) (slices : Shape → List Lent) (tensors : List (Result ⊤ BadElements)) → (number_of (answer_in (verdict (Ok s) slices tensors)) ≡ 8) ↔ (lengths_ok (slices s) ≡ false)
unfolding verdict answer_in
number_8 s slices tensors = go (lengths_ok (slices s))
  where
    go : (b : Bool) → (number_of (answer_in (cond b (elements_verdict s 0 tensors) (Err SliceLength))) ≡ 8) ↔ (b ≡ false)
    go true = (λ e. absurd (not_eight s 0 tensors e), λ e. absurd (false≢true (sym e)))
    go false = (λ e. refl, λ e. refl)

-- ---- number 9

-- checks 1 to 7 give at most 7
at_most : (b : Bool) (e : Refusal) (rest : Result Shape Refusal) → refusal_number e ≤ 7 → number_of rest ≤ 7 → number_of (cond b (Err e) rest) ≤ 7
at_most true e rest h k = h
at_most false e rest h k = k

judged_most : (op : Op) (l : Layer) → number_of (judged op l) ≤ 7
unfolding judged
judged_most op l =
    at_most (not (dimensions_ok op l)) Dimension _ (omega arith) (at_most (not (attributes_ok op l)) Attribute _ (omega arith)
    (at_most (not (groups_ok op l.c l.g l.i)) Groups _ (omega arith) (at_most (not (counts_ok op l)) ElementCount _ (omega arith)
    (at_most (not (fits_ok op l)) Size _ (omega arith) (at_most (not (output_ok op l)) OutputCount _ (omega arith)
    (at_most (not (windows_ok op l)) EmptyWindow _ (omega arith) (omega arith)))))))

-- a call with number 9 passes checks 1 to 8: its answer is that of the element checks
elements_answer : (P : Result Shape Refusal → Type 0) (op : Op) (l : Layer) (slices : Shape → List Lent) (tensors : List (Result ⊤ BadElements))
    → ((s : Shape) → number_of (answer_in (elements_verdict s 0 tensors)) ≡ 9 → P (elements_verdict s 0 tensors))
    → number_of (answer_in (verdict (judged op l) slices tensors)) ≡ 9 → P (verdict (judged op l) slices tensors)
unfolding verdict answer_in
elements_answer P op l slices tensors f e = go (judged op l) (judged_most op l) e
  where
    of : (s : Shape) (b : Bool) → number_of (answer_in (cond b (elements_verdict s 0 tensors) (Err SliceLength))) ≡ 9
        → P (cond b (elements_verdict s 0 tensors) (Err SliceLength))
    of s true e = f s e
    of s false e = absurd (omega arith)

    go : (j : Result Shape Refusal) → number_of j ≤ 7 → number_of (answer_in (verdict j slices tensors)) ≡ 9 → P (verdict j slices tensors)
    go (Err n) h e = absurd (omega arith)
    go (Ok s) h e = of s (lengths_ok (slices s)) e

-- a tensor in which the element check finds bad elements
told : (s : Shape) (t : ℕ) (xs : List Float) (later : List (Result ⊤ BadElements)) (b : BadElements) → element_check xs ≡ Err b
    → TellsBad (answer_in (elements_verdict s t (Err b ∷ later))) t (first_bad xs) (bad_count xs)
unfolding elements_verdict answer_in
told s t xs later b e =
    let f = bad_elements xs b.place b.bad e in
    record { told = rw (← f.first, ← f.counted); some = omega (arith, f.some, f.counted) }

-- of a convolution of either kind
pub sum_9 : (op : Op) (l : Layer) (input kernel : List Float) (output : ℕ) → number_of (answer_of op l input kernel output) ≡ 9
    → TellsFirst (answer_of op l input kernel output) input kernel
unfolding elements_verdict answer_in
sum_9 op l input kernel output e =
    elements_answer (λ v. TellsFirst (answer_in v) input kernel) op l _ _ (λ s h. go s (element_check input) (element_check kernel) refl refl h) e
  where
    go : (s : Shape) (f g : Result ⊤ BadElements) → element_check input ≡ f → element_check kernel ≡ g → number_of (answer_in (elements_verdict s 0 (f ∷ g ∷ []))) ≡ 9
        → TellsFirst (answer_in (elements_verdict s 0 (f ∷ g ∷ []))) input kernel
    go s (Err b) g p q h = inl (told s 0 input (g ∷ []) b p)
    go s (Ok u) (Err b) p q h = inr ((good_count input).0 p, told s 1 kernel [] b q)
    go s (Ok u) (Ok v) p q h = absurd (omega arith)

-- of max pooling
pub pool_9 : (l : Layer) (input values : List Float) (indices : List ℤ) → number_of (max_pool_answer l input values indices) ≡ 9
    → TellsBad (max_pool_answer l input values indices) 0 (first_bad input) (bad_count input)
unfolding elements_verdict answer_in
pool_9 l input values indices e =
    elements_answer (λ v. TellsBad (answer_in v) 0 (first_bad input) (bad_count input)) MaxPool l _ _ (λ s h. go s (element_check input) refl h) e
  where
    go : (s : Shape) (f : Result ⊤ BadElements) → element_check input ≡ f → number_of (answer_in (elements_verdict s 0 (f ∷ []))) ≡ 9
        → TellsBad (answer_in (elements_verdict s 0 (f ∷ []))) 0 (first_bad input) (bad_count input)
    go s (Err b) p h = told s 0 input [] b p
    go s (Ok u) p h = absurd (omega arith)

-- any other number tells no bad element
elements_none : (s : Shape) (n : ℕ) (tensors : List (Result ⊤ BadElements)) → (number_of (answer_in (elements_verdict s n tensors)) ≡ 9 → ⊥) → tells (answer_in (elements_verdict s n tensors)) ≡ (0, 0, 0)
unfolding elements_verdict answer_in
elements_none s n [] h = refl
elements_none s n (Ok u ∷ later) h = elements_none s (suc n) later h
elements_none s n (Err b ∷ later) h = absurd (h refl)

pub other_number : (j : Result Shape Refusal) (slices : Shape → List Lent) (tensors : List (Result ⊤ BadElements)) → (number_of (answer_in (verdict j slices tensors)) ≡ 9 → ⊥) → tells (answer_in (verdict j slices tensors)) ≡ (0, 0, 0)
unfolding verdict answer_in
other_number (Err Dimension) slices tensors h = refl
other_number (Err Attribute) slices tensors h = refl
other_number (Err Groups) slices tensors h = refl
other_number (Err ElementCount) slices tensors h = refl
other_number (Err Size) slices tensors h = refl
other_number (Err OutputCount) slices tensors h = refl
other_number (Err EmptyWindow) slices tensors h = refl
other_number (Err SliceLength) slices tensors h = refl
other_number (Err (BadElement tensor place bad)) slices tensors h = absurd (h refl)
other_number (Ok s) slices tensors h = go (lengths_ok (slices s)) h
  where
    go : (b : Bool) → (number_of (answer_in (cond b (elements_verdict s 0 tensors) (Err SliceLength))) ≡ 9 → ⊥)
        → tells (answer_in (cond b (elements_verdict s 0 tensors) (Err SliceLength))) ≡ (0, 0, 0)
    go true h = elements_none s 0 tensors h
    go false h = refl
