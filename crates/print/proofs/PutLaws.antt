-- Laws of writing: one write after another, and the steps of the code.
use Prim.Native.Nat.{ℕ, zero, suc, ◌+◌, ◌-◌, ◌≤◌, ◌<◌, min}
use mathlib.Core.Path.{◌≡◌, refl, sym, ap, ◌∙◌}
use mathlib.Core.Logic.{⊎_elim}
use mathlib.Core.List.{List, [], ◌∷◌, ◌++◌}
use native.Mathlib.Numerals.{add-one, sub-one}
use native.Mathlib.Nat.{add-zero}
use native.Mathlib.Omega.{arith}
use lib.ListN.{length, length-append, set, take, get_or}
use lib.Seq.{sets, length-sets, set_out, take-suc}
use Rattle.text.specs.Numbers.{decimal}
use Rattle.text.specs.Lists.{shown, show_numbers, later_items}
use Rattle.print.specs.Put.{Put}
use Rattle.text.specs.declared.Items.{Items}
use Rattle.text.proofs.NumberLaws.{lt_or_le}

sets_append : (l : List ℕ) (i : ℕ) (a b : List ℕ) → sets l i (a ++ b) ≡ sets (sets l i a) (i + length a) b
sets_append l i [] b = rw add-zero
sets_append l i (x ∷ a) b = sets_append (set l i x) (suc i) a b ∙ ap (λ (k : ℕ). sets (sets (set l i x) (suc i) a) k b) (omega arith)

-- past the end nothing is stored
sets_out : (l : List ℕ) (i : ℕ) (xs : List ℕ) → length l ≤ i → sets l i xs ≡ l
sets_out l i [] h = refl
sets_out l i (x ∷ xs) h = rw (set_out l i x h) (sets_out l (suc i) xs (omega arith))

-- the place after a write is the one where the next starts, or both are past the end
sets_after : (l : List ℕ) (k : ℕ) (xs : List ℕ) → length l < 9223372036854775808 → sets l (min k 18446744073709551615) xs ≡ sets l k xs
sets_after l k xs h =
    ⊎_elim
    (λ (s : k < 18446744073709551615). let e : min k 18446744073709551615 ≡ k = omega arith in rw e)
    (λ (s : 18446744073709551615 ≤ k). sets_out l (min k 18446744073709551615) xs (omega arith) ∙ sym (sets_out l k xs (omega arith)))
    (lt_or_le k 18446744073709551615)

module _ {l m : List ℕ} {at k : ℕ} {a : List ℕ} where
  pub put_length : Put l at a k m → length m ≡ length l
  put_length p = ap length p.left_is ∙ length-sets l at a

  -- one write after another
  pub put_then : {e b : List ℕ} {r : ℕ} → Put l at a k m → Put m k b r e → Put l at (a ++ b) r e
  put_then {e} {b} {r} p q =
      record {
        next_is = q.next_is ∙ omega (arith, p.next_is, length-append a b);
        left_is =
            q.left_is
            ∙ rw (p.left_is, p.next_is)
            (sets_after (sets l at a) (at + length a) b (rw (length-sets l at a) p.room) ∙ sym (sets_append l at a b));
        room = p.room;
      }

-- ---- the steps of put_text and put_shown
pub put_none : (l : List ℕ) (at : ℕ) → at ≤ 18446744073709551615 → length l < 9223372036854775808 → Put l at [] at l
put_none l at f h = record { next_is = omega arith; left_is = refl; room = h }

pub text_step : (l m e s : List ℕ) (at k i r : ℕ) → Put l at (take i s) k m → i < length s → Put m k (get_or s i 0 ∷ []) r e
    → Put l at (take (i + 1) s) r e
text_step l m e s at k i r p h q = rw (add-one, take-suc s i 0 h) (put_then p q)

pub show_more : (n : ℕ) (items : Items) → (n ≡ 0 → ⊥) → (n ≡ 1 → ⊥)
    → shown n items ≡ decimal items.a ++ (44 ∷ shown (n - 1) (later_items items))
unfolding shown
show_more zero items p q = absurd (p refl)
show_more (suc zero) items p q = absurd (q refl)
show_more (suc (suc k)) items p q = rw (sub-one (suc (suc k)))

pub show_1 : (items : Items) → show_numbers 1 items ≡ decimal items.a
unfolding shown show_numbers
show_1 items = refl
