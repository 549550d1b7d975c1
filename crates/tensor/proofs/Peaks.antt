-- Laws of the peak finder: one turn of its loop, and that its peak is the first largest element of the plane.
use mathlib.Core.Path.{◌≡◌, refl, sym, ap, ◌∙◌, subst}
use mathlib.Core.Bool.{Bool, true, false, not, ◌||◌, cond, false≢true}
use mathlib.Core.List.{List, [], ◌∷◌, ◌++◌}
use Prim.Native.Nat.{ℕ, zero, suc, ◌+◌, ◌-◌, ◌*◌, ◌/◌, ◌%◌, ◌≤◌, ◌<◌}
use native.Mathlib.Nat.{div-add-mod', mod-lt, pos_of_ne-zero}
use native.Mathlib.Decide.{dec_lt}
use native.Mathlib.Numerals.{add-one}
use native.Mathlib.Omega.{arith}
use lib.Dec.{T, eqb}
use lib.ListN.{length, get_or, length-append, get_or-append}
use lib.Seq.{get_or_at, get_or-append-add}
use lib.Ieee.{Float, lt, le}
use borrow.Author.Tests.{eqb-false}
use Rattle.tensor.specs.Table.{read, tabulate}
use Rattle.tensor.specs.Element.{element_check, good}
use Rattle.tensor.specs.Window.{best_of, better_of, up_to, All, FirstLargest, HoldsBest}
use Rattle.std.specs.Prelude.{Result, Ok, Err, ⊤}
use Rattle.layer.specs.declared.Refusal.TheVariants.{SliceLength}
use Rattle.tensor.specs.Peak.{wrong_length, peak_at, checked_peak, peak_of, LargestOfPlane}
use Rattle.tensor.specs.declared.Peak.{Peak}
use Rattle.tensor.specs.declared.BadElements.{BadElements}
use Rattle.tensor.specs.declared.Window.{Window}
use Rattle.tensor.specs.declared.Window.TheVariants.{Empty, Best}
use Rattle.tensor.proofs.Table.{tabulate_length, tabulate_get}
use Rattle.tensor.proofs.Order.{NotNan, le_of_lt, le_refl}
use Rattle.tensor.proofs.Element.{all_good, element_number}
use Rattle.tensor.proofs.Largest.{best_append, first_largest, all_append, all_get}

-- the fold over them: none, and one place more
pub best_none : (xs : List Float) → Empty ≡ best_of xs (up_to 0) Empty
unfolding best_of tabulate
best_none xs = refl

pub best_more : (xs : List Float) (i : ℕ) (w : Window) → best_of xs (up_to (i + 1)) w ≡ better_of (best_of xs (up_to i) w) (read xs i) i
unfolding best_of tabulate
best_more xs i w = rw add-one (best_append xs (up_to i) (i ∷ []) w)

-- ---- the first largest of the places below n, element by element
module _ (xs : List Float) (n : ℕ) (v : Float) (p : ℕ) (h : FirstLargest xs (up_to n) v p) where
  abbrev a : List ℕ
  a = h.earlier

  lengths : length a + suc (length h.later) ≡ n
  lengths = sym (length-append a (p ∷ h.later)) ∙ ap length (sym h.split) ∙ tabulate_length (λ k. k) n

  -- place q stands at q
  at : (q : ℕ) → q < n → get_or (a ++ p ∷ h.later) q 0 ≡ q
  at q l = ap (λ (ps : List ℕ). get_or ps q 0) (sym h.split) ∙ tabulate_get (λ k. k) 0 n q l

  stands : length a ≡ p
  stands = sym (at (length a) (omega (arith, lengths))) ∙ get_or_at a p h.later 0 (length a) refl

  pub place_below : p < n
  place_below = omega (arith, lengths, stands)

  pub earlier_below : (q : ℕ) → q < p → T (lt (read xs q) v)
  earlier_below q l =
      let k : q < length a = omega (arith, stands) in
      let e : get_or a q 0 ≡ q = sym (get_or-append a (p ∷ h.later) 0 q k) ∙ at q (omega (arith, lengths)) in
      subst (λ (r : ℕ). T (lt (read xs r) v)) e (all_get (λ r. T (lt (read xs r) v)) a h.above_earlier q k)

  later_most : (q : ℕ) → p < q → q < n → T (le (read xs q) v)
  later_most q l m =
      let j = q - suc p in
      let s : length a + suc j ≡ q = omega (arith, stands) in
      let e : get_or h.later j 0 ≡ q = sym (get_or-append-add a (p ∷ h.later) (suc j) 0) ∙ ap (λ (r : ℕ). get_or (a ++ p ∷ h.later) r 0) s ∙ at q m in
      subst (λ (r : ℕ). T (le (read xs r) v)) e (all_get (λ r. T (le (read xs r) v)) h.later h.above_later j (omega (arith, lengths, stands)))

  pub all_most : NotNan v → (q : ℕ) → q < n → T (le (read xs q) v)
  all_most t q l = go (dec_lt q p) (dec_lt p q)
    where
      go : Dec (q < p) → Dec (p < q) → T (le (read xs q) v)
      go (yes k) d = le_of_lt (read xs q) v (earlier_below q k)
      go (no k) (yes m) = later_most q m l
      go (no k) (no m) =
          let e : q ≡ p = omega arith in
          subst (λ (u : Float). T (le u v)) (h.value ∙ ap (read xs) (sym e)) (le_refl v t)

-- ---- the peak of a plane of good elements
module _ (plane : List Float) (width : ℕ) (good : element_check plane ≡ good) (some : 0 < width) where
  number : (q : ℕ) → q < length plane → NotNan (read plane q)
  number q l = element_number (read plane q) (all_good plane good q l)

  numbers : (n : ℕ) → n ≤ length plane → All (λ q. NotNan (read plane q)) (up_to n)
  unfolding tabulate
  numbers zero l = tt
  numbers (suc n) l = all_append (λ q. NotNan (read plane q)) (up_to n) (n ∷ []) (numbers n (omega arith)) (number n l, tt)

  holds_best : HoldsBest plane (up_to (length plane)) (best_of plane (up_to (length plane)) Empty)
  holds_best = first_largest plane (up_to (length plane)) (numbers (length plane) (omega arith))

  of_window : (w : Window) (k : Peak) → HoldsBest plane (up_to (length plane)) w → peak_at width w ≡ Ok k → LargestOfPlane plane width k
  of_window Empty k h e = absurd (false≢true cc)
  of_window (Best v p) k h e =
      let is : record { value = v; row = p / width; column = p % width } ≡ k = cc in
      let inside = place_below plane (length plane) v p h in
      let same : p ≡ p / width * width + p % width = sym (div-add-mod' p width) in
      subst (LargestOfPlane plane width) is
      (record {
        column = mod-lt p some;
        within = subst (λ (r : ℕ). r < length plane) same inside;
        value = h.value ∙ ap (read plane) same;
        largest = all_most plane (length plane) v p h (subst NotNan (sym h.value) (number p inside));
        first = subst (λ (r : ℕ). (q : ℕ) → q < r → T (lt (read plane q) v)) same (earlier_below plane (length plane) v p h);
      })

  -- a plane that has an element has a peak
  some_element : (w : Window) → HoldsBest plane (up_to (length plane)) w → 0 < length plane → (k : Peak) × (peak_at width w ≡ Ok k)
  some_element Empty h l = absurd (omega (arith, sym (tabulate_length (λ k. k) (length plane)) ∙ ap length h))
  some_element (Best v p) h l = (_, refl)

-- ---- the peak of any plane
of_check : (plane : List Float) (width : ℕ) (f : Result ⊤ BadElements) (k : Peak) → element_check plane ≡ f → 0 < width → checked_peak plane width f ≡ Ok k
    → LargestOfPlane plane width k
of_check plane width (Ok u) k q h e =
    of_window plane width q h (best_of plane (up_to (length plane)) Empty) k (holds_best plane width q h) e
of_check plane width (Err b) k q h e = absurd (false≢true cc)

right_length : (len width : ℕ) → wrong_length len width ≡ false → (0 < width) × (0 < len)
right_length len width e = go (eqb width 0) (eqb len 0) refl refl e
  where
    go : (a b : Bool) → eqb width 0 ≡ a → eqb len 0 ≡ b → (a || (b || not (eqb (len % width) 0))) ≡ false → (0 < width) × (0 < len)
    go true b p q e = absurd (false≢true cc)
    go false true p q e = absurd (false≢true cc)
    go false false p q e = (pos_of_ne-zero (eqb-false width 0 p), pos_of_ne-zero (eqb-false len 0 q))

-- a peak that is found is the first largest element
pub peak_largest : (plane : List Float) (width : ℕ) (k : Peak) → peak_of plane width ≡ Ok k → LargestOfPlane plane width k
peak_largest plane width k e = go (wrong_length (length plane) width) refl e
  where
    go : (b : Bool) → wrong_length (length plane) width ≡ b → cond b (Err SliceLength) (checked_peak plane width (element_check plane)) ≡ Ok k
        → LargestOfPlane plane width k
    go true q e = absurd (false≢true cc)
    go false q e = of_check plane width (element_check plane) k refl (right_length (length plane) width q).0 e

-- and one is found wherever neither 8 nor 9 has its reason
pub peak_found_lem : (plane : List Float) (width : ℕ) → wrong_length (length plane) width ≡ false → element_check plane ≡ good → (k : Peak) × (peak_of plane width ≡ Ok k)
peak_found_lem plane width e g =
    let h = right_length (length plane) width e in
    rw (e, g) (some_element plane width g h.0 (best_of plane (up_to (length plane)) Empty) (holds_best plane width g h.0) h.1)
