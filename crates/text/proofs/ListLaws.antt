-- Laws of lists of numbers: the steps of the code, and the two inverse laws.
use Prim.Native.Nat.{ℕ, zero, suc, ◌+◌, ◌-◌, ◌*◌, ◌≤◌, ◌<◌, min}
use mathlib.Core.Path.{◌≡◌, refl, sym, ap, ◌∙◌}
use mathlib.Core.List.{List, ◌∷◌, ◌++◌}
use mathlib.Core.Bool.{Bool, true, false, cond, false≢true}
use Rattle.std.specs.Prelude.{Option, Some, None}
use native.Mathlib.Numerals.{add-one, sub-one}
use native.Mathlib.Omega.{arith}
use lib.Dec.{leb, ltb}
use lib.ListN.{length, drop, take, length-append}
use lib.Seq.{take-append_seam, drop-append-add}
use borrow.Author.Tests.{lt-ltb, le-leb, leb-true, ltb-true}
use Rattle.text.specs.Texts.{place}
use Rattle.text.specs.Numbers.{number, decimal}
use Rattle.text.specs.Inverse.{Inverse}
use Rattle.text.specs.Lists.{one_item, more_item, later_items, last_number, one_more, spelled, numbers, shown, show_numbers}
use Rattle.text.specs.declared.Items.{Items}
use Rattle.text.proofs.TextLaws.{tail_part, absent_append, place_first, place_split}
use Rattle.text.proofs.NumberLaws.{number_decimal, decimal_number, decimal_absent, decimal_10}

-- a list of more than one number, as the code reads it; comma is the first comma's place
pub numbers_more : (t : List ℕ) (n comma : ℕ) → (n ≡ 0 → ⊥) → (n ≡ 1 → ⊥) → comma ≡ place 44 t
    → spelled n t
    ≡ cond (ltb comma (length t)) (one_more (number (take comma t)) (spelled (n - 1) (take (length t - (comma + 1)) (drop (comma + 1) t)))) None
unfolding spelled
numbers_more t zero comma p q e = absurd (p refl)
numbers_more t (suc zero) comma p q e = absurd (q refl)
numbers_more t (suc (suc k)) comma p q e = rw (e, tail_part t (place 44 t + 1), add-one (place 44 t), sub-one (suc (suc k)))

-- ---- the inverse laws

-- the first k numbers, and 0 for the others
abbrev pub keep : ℕ → Items → Items
keep zero items = one_item 0
keep (suc zero) items = one_item items.a
keep (suc (suc k)) items = more_item items.a (keep (suc k) (later_items items))

pub record InRange (items : Items) : Type 0 where
  pub a : items.a ≤ 4294967295
  pub b : items.b ≤ 4294967295
  pub c : items.c ≤ 4294967295
  pub d : items.d ≤ 4294967295
  pub e : items.e ≤ 4294967295
  pub f : items.f ≤ 4294967295

later_range : (items : Items) → InRange items → InRange (later_items items)
later_range items r = record { a = r.b; b = r.c; c = r.d; d = r.e; e = r.f; f = omega arith }

-- reading what was written
pub numbers_show : (k : ℕ) (items : Items) → InRange items → spelled (suc k) (shown (suc k) items) ≡ Some (keep (suc k) items)
unfolding spelled shown last_number one_more
numbers_show zero items r = rw (number_decimal items.a r.a)
numbers_show (suc k) items r =
    let u = decimal items.a in
    let v = shown (suc k) (later_items items) in
    let p : place 44 (u ++ (44 ∷ v)) ≡ length u =
    absent_append 44 u (44 ∷ v) (decimal_absent 44 (omega arith) items.a) ∙ rw (place_first 44 v) (omega arith) in
    let l : length u < length (u ++ (44 ∷ v)) = omega (arith, length-append u (44 ∷ v)) in
    let d : drop (suc (length u)) (u ++ (44 ∷ v)) ≡ v = rw (← add-one (length u)) (drop-append-add u (44 ∷ v) 1) in
    rw (p, lt-ltb (length u) (length (u ++ (44 ∷ v))) l, take-append_seam u (44 ∷ v), d, number_decimal items.a r.a, numbers_show k (later_items items) (later_range items r))

pub some_last : (o : Option ℕ) (items : Items) → last_number o ≡ Some items → (x : ℕ) × (o ≡ Some x) × (items ≡ one_item x)
unfolding last_number
some_last None items e = absurd (false≢true cc)
some_last (Some x) items e = (x, refl, cc)

some_more : (o : Option ℕ) (r : Option Items) (items : Items) → one_more o r ≡ Some items → (x : ℕ) × (g : Items) × (o ≡ Some x) × (r ≡ Some g) × (items ≡ more_item x g)
unfolding one_more
some_more None r items e = absurd (false≢true cc)
some_more (Some x) None items e = absurd (false≢true cc)
some_more (Some x) (Some g) items e = (x, g, refl, refl, cc)

-- the numbers that are read are in range, and the others are 0
pub more_range : (x : ℕ) (g : Items) → x ≤ 4294967295 → InRange g → InRange (more_item x g)
more_range x g h r = record { a = h; b = r.a; c = r.b; d = r.c; e = r.d; f = r.e }

-- only the first k numbers are written
show_more : (k x : ℕ) (g : Items) → k < 5 → shown (suc k) g ≡ shown (suc k) (later_items (more_item x g))
unfolding shown
show_more zero x g h = refl
show_more (suc zero) x g h = refl
show_more (suc (suc zero)) x g h = refl
show_more (suc (suc (suc zero))) x g h = refl
show_more (suc (suc (suc (suc zero)))) x g h = refl
show_more (suc (suc (suc (suc (suc k))))) x g h = absurd (omega (arith, h))

-- writing what was read
pub numbers_back : (k : ℕ) (t : List ℕ) (items : Items) → k < 6 → spelled (suc k) t ≡ Some items → (shown (suc k) items ≡ t) × InRange items
unfolding spelled shown
numbers_back zero t items m e =
    let h = some_last (number t) items e in
    let d = decimal_number t h.0 h.1 in
    (rw h.2 d.0, rw h.2 (record { a = d.1; b = omega arith; c = omega arith; d = omega arith; e = omega arith; f = omega arith }))
numbers_back (suc k) t items m e = go (ltb (place 44 t) (length t)) refl e
    (λ (g : Items) (q : spelled (suc k) (drop (suc (place 44 t)) t) ≡ Some g). numbers_back k (drop (suc (place 44 t)) t) g (omega arith) q)
  where
    go : (b : Bool) → ltb (place 44 t) (length t) ≡ b
        → cond b (one_more (number (take (place 44 t) t)) (spelled (suc k) (drop (suc (place 44 t)) t))) None ≡ Some items
        → ((g : Items) → spelled (suc k) (drop (suc (place 44 t)) t) ≡ Some g → (shown (suc k) g ≡ drop (suc (place 44 t)) t) × InRange g)
        → (decimal items.a ++ (44 ∷ shown (suc k) (later_items items)) ≡ t) × InRange items
    go false p q ih = absurd (false≢true cc)
    go true p q ih =
        let h = some_more (number (take (place 44 t) t)) (spelled (suc k) (drop (suc (place 44 t)) t)) items q in
        let d = decimal_number (take (place 44 t) t) h.0 h.2 in
        let i = ih h.1 h.3 in (
          rw (h.4, d.0, ← show_more k h.0 h.1 (omega arith), i.0) (sym (place_split 44 t (ltb-true (place 44 t) (length t) p))),
          rw h.4 (more_range h.0 h.1 d.1 i.1),
        )

-- no end of line stands in a list
pub numbers_absent : (k : ℕ) (items : Items) → place 10 (shown (suc k) items) ≡ length (shown (suc k) items)
unfolding shown place
numbers_absent zero items = decimal_absent 10 (omega arith) items.a
numbers_absent (suc k) items =
    absent_append 10 (decimal items.a) (44 ∷ shown (suc k) (later_items items)) (decimal_absent 10 (omega arith) items.a)
    ∙ rw (numbers_absent k (later_items items)) (sym (length-append (decimal items.a) (44 ∷ shown (suc k) (later_items items))))

-- ---- so many numbers, up to six
spelled_back : (n : ℕ) (t : List ℕ) (items : Items) → n ≤ 6 → spelled n t ≡ Some items → shown n items ≡ t
unfolding spelled
spelled_back zero t items h e = absurd (false≢true cc)
spelled_back (suc k) t items h e = (numbers_back k t items (omega arith) e).0

shown_flat : (n : ℕ) (items : Items) → place 10 (shown n items) ≡ length (shown n items)
unfolding shown place
shown_flat zero items = refl
shown_flat (suc k) items = numbers_absent k items

pub numbers_inverse : (count : ℕ) → Inverse (numbers count) (show_numbers count)
unfolding numbers show_numbers
numbers_inverse count = record { shown_read = λ t items e. back t items (leb count 6) refl e; one_line = λ items. shown_flat (min count 6) items }
  where
    back : (t : List ℕ) (items : Items) (b : Bool) → leb count 6 ≡ b → cond b (spelled count t) None ≡ Some items → shown (min count 6) items ≡ t
    back t items true q e =
        let h = leb-true count 6 q in
        let least : min count 6 ≡ count = omega arith in
        rw least (spelled_back count t items h e)
    back t items false q e = absurd (false≢true cc)

-- numbers in range are read again where those that are not shown are 0, and not else
module _ (k : ℕ) (items : Items) (h : k < 6) where
  six : leb (suc k) 6 ≡ true
  six = le-leb (suc k) 6 (omega arith)

  least : min (suc k) 6 ≡ suc k
  least = omega arith

  pub numbers_shown : InRange items → keep (suc k) items ≡ items → numbers (suc k) (show_numbers (suc k) items) ≡ Some items
  unfolding numbers show_numbers
  numbers_shown r e = rw (six, least) (numbers_show k items r ∙ ap {B = Option Items} Some e)

  pub numbers_read_lem : numbers (suc k) (show_numbers (suc k) items) ≡ Some items → keep (suc k) items ≡ items
  unfolding numbers show_numbers
  numbers_read_lem e =
      let q = rw (six, least) at e in
      let z : ◌≡◌ {A = Option Items} (Some (keep (suc k) items)) (Some items) =
      sym (numbers_show k items (numbers_back k (shown (suc k) items) items h q).1) ∙ q in
      cc

-- ---- how long a list is: ten digits and a comma for each number
shown_length : (k : ℕ) (items : Items) → InRange items → length (shown k items) ≤ 11 * k
unfolding shown
shown_length zero items r = omega arith
shown_length (suc zero) items r = omega (arith, decimal_10 items.a r.a)
shown_length (suc (suc k)) items r =
    rw (length-append (decimal items.a) (44 ∷ shown (suc k) (later_items items)))
    (omega (arith, decimal_10 items.a r.a, shown_length (suc k) (later_items items) (later_range items r)))

pub numbers_length : (k : ℕ) (items : Items) → InRange items → length (show_numbers k items) ≤ 11 * k
unfolding show_numbers
numbers_length k items r = omega (arith, shown_length (min k 6) items r)
