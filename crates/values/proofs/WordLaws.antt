-- Laws of tables of words: the steps of the code, and what is read and shown.
use Prim.Native.Nat.{ℕ, zero, suc, ◌+◌, ◌-◌, ◌≤◌, ◌<◌}
use mathlib.Core.Path.{◌≡◌, refl, sym, ◌∙◌}
use mathlib.Core.List.{List, [], ◌∷◌, ◌++◌}
use mathlib.Core.Bool.{Bool, true, false, cond, false≢true}
use Rattle.std.specs.Prelude.{Some, None}
use native.Mathlib.Numerals.{add-one}
use native.Mathlib.Omega.{arith}
use lib.Dec.{eqb, eqb-suc-zero}
use lib.ListN.{length, drop, take, take-append-drop}
use Rattle.text.specs.Texts.{place, same}
use Rattle.text.specs.Lists.{one_item, last_number}
use Rattle.text.specs.Inverse.{Inverse}
use Rattle.text.specs.declared.Items.{Items}
use Rattle.text.proofs.TextLaws.{same_text}
use Rattle.text.proofs.ListLaws.{some_last}
use Rattle.values.specs.Words.{later_words, word_at, word_from, word_place}

-- ---- the steps of word_at and word_place
pub word_later : (k i : ℕ) (table : List ℕ) → i < k → word_at (k - (i + 1)) (later_words table) ≡ word_at (k - i) table
unfolding word_at
word_later k i table h = let n : k - i ≡ suc (k - (i + 1)) = omega arith in rw n

pub word_none : (k : ℕ) (table : List ℕ) → true ≡ eqb (length table) 0 → table ≡ word_at k table
unfolding word_at place
word_none zero [] h = refl
word_none (suc k) [] h = word_none k [] refl
word_none k (b ∷ table) h = absurd (false≢true (sym (h ∙ eqb-suc-zero (length table))))

module _ (count k : ℕ) (table t : List ℕ) where
  module _ (w : List ℕ) (h : k < count) (e : w ≡ word_at k table) where
    word_step : word_from (count - k) k table t ≡ cond (same w t) (Some k) (word_from (count - (k + 1)) (k + 1) table t)
    unfolding word_from
    word_step = let n : count - k ≡ suc (count - (k + 1)) = omega arith in rw (n, add-one k, e)

    pub word_here : true ≡ same w t → word_from (count - k) k table t ≡ Some k
    word_here s = word_step ∙ rw (sym s)

    pub word_next : false ≡ same w t → word_from (count - k) k table t ≡ word_from (count - (k + 1)) (k + 1) table t
    word_next s = word_step ∙ rw (sym s)

  pub word_end : count ≤ k → word_from (count - k) k table t ≡ None
  unfolding word_from
  word_end h = let n : count - k ≡ 0 = omega arith in rw n

-- ---- a word that was read

-- P holds of so many places from k on
abbrev pub Each : (ℕ → Type 0) → ℕ → ℕ → Type 0
Each P zero k = Unit {0}
Each P (suc left) k = P k × Each P left (suc k)

any_place : (left k : ℕ) → Each (λ (n : ℕ). Unit {0}) left k
any_place zero k = tt
any_place (suc left) k = (tt, any_place left (suc k))

word_found : (P : ℕ → Type 0) (left k : ℕ) (table t : List ℕ) (n : ℕ) → Each P left k → word_from left k table t ≡ Some n → (t ≡ word_at n table) × P n
unfolding word_from
word_found P zero k table t n each e = absurd (false≢true cc)
word_found P (suc left) k table t n each e = go (same (word_at k table) t) refl e (word_found P left (suc k) table t n each.1)
  where
    go : (b : Bool) → same (word_at k table) t ≡ b → cond b (Some k) (word_from left (suc k) table t) ≡ Some n
        → (word_from left (suc k) table t ≡ Some n → (t ≡ word_at n table) × P n) → (t ≡ word_at n table) × P n
    go true p q ih = let z : k ≡ n = cc in rw (← z) (same_text (word_at k table) t p, each.0)
    go false p q ih = ih q

-- what holds of each place of the table holds of a word that was read
pub word_each : (count : ℕ) (table : List ℕ) (P : Items → Type 0) → Each (λ (k : ℕ). P (one_item k)) count 0
    → (t : List ℕ) (v : Items) → last_number (word_place count table t) ≡ Some v → P v
word_each count table P each t v e =
    let s = some_last (word_place count table t) v e in
    rw s.2 (word_found (λ (k : ℕ). P (one_item k)) count 0 table t s.0 each s.1).1

-- f gives back the numbers of a word where it gives back each place of the table
pub word_back : (count : ℕ) (table : List ℕ) (f : Items → Items) → Each (λ (k : ℕ). f (one_item k) ≡ one_item k) count 0
    → (t : List ℕ) (v : Items) → last_number (word_place count table t) ≡ Some v → f v ≡ v
word_back count table f each t v e = word_each count table (λ items. f items ≡ items) each t v e

-- ---- a byte that a text does not have stands in no part of it
absent_parts : (b : ℕ) (u v : List ℕ) → place b (u ++ v) ≡ length (u ++ v) → (place b u ≡ length u) × (place b v ≡ length v)
unfolding place
absent_parts b [] v h = (refl, h)
absent_parts b (x ∷ u) v h = go (eqb x b) h (λ k. absent_parts b u v k)
  where
    go : (f : Bool) → cond f zero (suc (place b (u ++ v))) ≡ suc (length (u ++ v))
        → (place b (u ++ v) ≡ length (u ++ v) → (place b u ≡ length u) × (place b v ≡ length v))
        → (cond f zero (suc (place b u)) ≡ suc (length u)) × (place b v ≡ length v)
    go true p q = absurd (omega (arith, p))
    go false p q = let i = q (omega (arith, p)) in (omega arith, i.1)

absent_part : (b n : ℕ) (t : List ℕ) → place b t ≡ length t → (place b (take n t) ≡ length (take n t)) × (place b (drop n t) ≡ length (drop n t))
absent_part b n t h = absent_parts b (take n t) (drop n t) (rw (take-append-drop n t) h)

word_absent : (b k : ℕ) (table : List ℕ) → place b table ≡ length table → place b (word_at k table) ≡ length (word_at k table)
unfolding word_at
word_absent b zero table h = (absent_part b (place 44 table) table h).0
word_absent b (suc k) table h = word_absent b k (drop (suc (place 44 table)) table) (absent_part b (suc (place 44 table)) table h).1

-- the words of a table with no line end
pub word_inverse : (count : ℕ) (table : List ℕ) → place 10 table ≡ length table
    → Inverse (λ (t : List ℕ). last_number (word_place count table t)) (λ (items : Items). word_at items.a table)
word_inverse count table h = record { shown_read = back; one_line = λ v. word_absent 10 v.a table h }
  where
    back : (t : List ℕ) (v : Items) → last_number (word_place count table t) ≡ Some v → word_at v.a table ≡ t
    back t v e =
        let s = some_last (word_place count table t) v e in
        rw s.2 (sym (word_found (λ (n : ℕ). Unit {0}) count 0 table t s.0 (any_place count 0) s.1).0)
