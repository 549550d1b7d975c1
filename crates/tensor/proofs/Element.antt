-- Laws of the element check: what a good element is, what `Good` and `Bad` tell of a tensor, and one turn of each loop: the one that finds the first bad
-- element and the one that counts.
use mathlib.Core.Path.{◌≡◌, refl, sym, ap, ◌∙◌}
use mathlib.Core.Bool.{Bool, true, false, not, ◌&&◌, cond, false≢true}
use mathlib.Core.List.{List, [], ◌∷◌}
use mathlib.Core.Logic.{◌↔◌}
use Prim.Native.Nat.{ℕ, zero, suc, ◌+◌, ◌*◌, ◌^◌, ◌≤◌, ◌<◌, zero-le, suc-le-suc}
use native.Mathlib.Nat.{add-zero, zero-add, zero-lt-suc, not-suc-le-zero, le_of_suc-le-suc, mul-one, pos_of_ne-zero}
use native.Mathlib.Omega.{arith}
use lib.IntN.{ℤ, pos}
use lib.Dec.{T, eqb, leb, ltb, leb→le, le→leb, ltb→lt, nltb→le, not_T}
use borrow.Author.Tests.{eqb-true, eqb-false, ltb-true, ltb-false}
use lib.ListN.{length}
use Rattle.std.specs.Prelude.{None, Some, Result, Ok, Err, ⊤, fold, count_by, position}
use Rattle.std.specs.List.{position_or_len}
use Rattle.std.specs.Prelude.{nat_lt}
use lib.Ieee.{Float, nan, inf, fin, up, down, lt, eq, le, is_nan, binary32, of_bits}
use lib.Ieee.Fits.{and_i, and_l, and_r}
use lib.Ieee.Bits.{is_true}
use Rattle.tensor.specs.Table.{read}
use Rattle.tensor.specs.Element.{element_ok, first_bad, bad_count, good, bad_from, element_check}
use Rattle.tensor.specs.declared.BadElements.{BadElements as BadPlaces}
use Rattle.tensor.proofs.Order.{NotNan, test_same, le_of_not_lt, not_lt_of_le}

-- ---- one element

-- x is finite and of magnitude at most B
abbrev pub AtMost : Float → ℕ → Type 0
AtMost nan B = ⊥
AtMost (inf s) B = ⊥
AtMost (fin s m e) B = m * up e ≤ B * down e

pub element_at_most : (x : Float) → T (element_ok x) → AtMost x (2 ^ 40)
unfolding element_ok
element_at_most nan t = t
element_at_most (inf s) t = t
element_at_most (fin s m e) t = leb→le (m * up e) (2 ^ 40 * down e) t

pub element_number : (x : Float) → T (element_ok x) → NotNan x
unfolding element_ok is_nan
element_number nan t = absurd t
element_number (inf s) t = tt
element_number (fin s m e) t = tt

-- 2^40 and -2^40
abbrev pub upper_limit : Float
upper_limit = fin false 1 (pos 40)

abbrev pub lower_limit : Float
lower_limit = fin true 1 (pos 40)

bound : (m : ℕ) (e : ℤ) → T (leb (m * up e) (2 ^ 40 * down e)) → T (not (ltb (2 ^ 40 * down e) (m * up e * 1)))
bound m e t =
    not_T (ltb (2 ^ 40 * down e) (m * up e * 1)) (λ l. omega (arith, leb→le (m * up e) (2 ^ 40 * down e) t, ltb→lt (2 ^ 40 * down e) (m * up e * 1) l))

bound_back : (m : ℕ) (e : ℤ) → T (not (ltb (2 ^ 40 * down e) (m * up e * 1))) → T (leb (m * up e) (2 ^ 40 * down e))
bound_back m e t = le→leb _ _ (rw mul-one at (nltb→le (2 ^ 40 * down e) (m * up e * 1) t))

pub element_high : (x : Float) → T (element_ok x) → T (le x upper_limit)
unfolding lt element_ok is_nan
element_high nan t = absurd t
element_high (inf s) t = absurd t
element_high (fin true m e) t = le_of_not_lt (fin true m e) upper_limit tt tt tt
element_high (fin false m e) t = le_of_not_lt (fin false m e) upper_limit tt tt (bound m e t)

pub element_low : (x : Float) → T (element_ok x) → T (le lower_limit x)
unfolding lt element_ok is_nan
element_low nan t = absurd t
element_low (inf s) t = absurd t
element_low (fin true m e) t = le_of_not_lt lower_limit (fin true m e) tt tt (bound m e t)
element_low (fin false m e) t = le_of_not_lt lower_limit (fin false m e) tt tt tt

between : (x : Float) → T (le x upper_limit) → T (le lower_limit x) → T (element_ok x)
unfolding lt eq le element_ok
between nan p q = p
between (inf true) p q = q
between (inf false) p q = p
between (fin true m e) p q = bound_back m e (not_lt_of_le lower_limit (fin true m e) q)
between (fin false m e) p q = bound_back m e (not_lt_of_le (fin false m e) upper_limit p)

-- the good elements are those from -2^40 to 2^40, by the <= of f32
pub element_between : (x : Float) → element_ok x ≡ (le x upper_limit && le lower_limit x)
element_between x =
    test_same (element_ok x) (le x upper_limit && le lower_limit x) (λ t. and_i (le x upper_limit) (le lower_limit x) (element_high x t) (element_low x t))
    (λ t. between x (and_l (le x upper_limit) (le lower_limit x) t) (and_r (le x upper_limit) (le lower_limit x) t))

-- ---- the edges, by their f32 bit patterns: a sign, an exponent field and digits
abbrev pattern : ℕ → ℕ → ℕ → Float
pattern sign field digits = of_bits binary32 (sign * 2 ^ 31 + field * 2 ^ 23 + digits)

-- 2^40 and -2^40, with exponent field 40 + 127 and no digits
pub limits_good : (element_ok (pattern 0 167 0) ≡ true) × (element_ok (pattern 1 167 0) ≡ true)
unfolding of_bits element_ok
limits_good = (refl, refl)

-- their neighbours farther from 0
pub neighbours_bad : (element_ok (pattern 0 167 1) ≡ false) × (element_ok (pattern 1 167 1) ≡ false)
unfolding of_bits element_ok
neighbours_bad = (refl, refl)

-- both infinities, and a NaN
pub infinities_bad : (element_ok (pattern 0 255 0) ≡ false) × (element_ok (pattern 1 255 0) ≡ false)
unfolding of_bits element_ok
infinities_bad = (refl, refl)

pub nan_bad : element_ok (pattern 0 255 1) ≡ false
unfolding of_bits element_ok
nan_bad = refl

-- ---- the number of bad elements, and the first

-- all of them stand from the first on
pub bad_within : (xs : List Float) → first_bad xs + bad_count xs ≤ length xs
unfolding first_bad bad_count
bad_within [] = zero-le
bad_within (x ∷ xs) = go (element_ok x) (bad_within xs)
  where
    go : (b : Bool) → first_bad xs + bad_count xs ≤ length xs → cond b (suc (first_bad xs)) 0 + cond b (bad_count xs) (suc (bad_count xs)) ≤ suc (length xs)
    go true h = omega arith
    go false h = omega arith

neither : (b : Bool) (n : ℕ) → cond b n (suc n) ≡ 0 → T b × (n ≡ 0)
neither true n e = (tt, e)
neither false n e = absurd (omega arith)

-- none is bad exactly if each element is good
none_bad : (xs : List Float) → bad_count xs ≡ 0 → (k : ℕ) → k < length xs → T (element_ok (read xs k))
unfolding bad_count
none_bad [] e k h = absurd (not-suc-le-zero h)
none_bad (x ∷ xs) e zero h = (neither (element_ok x) (bad_count xs) e).0
none_bad (x ∷ xs) e (suc k) h = none_bad xs (neither (element_ok x) (bad_count xs) e).1 k (le_of_suc-le-suc h)

bad_none : (xs : List Float) → ((k : ℕ) → k < length xs → T (element_ok (read xs k))) → bad_count xs ≡ 0
unfolding bad_count
bad_none [] h = refl
bad_none (x ∷ xs) h = rw (is_true (element_ok x) (h 0 (zero-lt-suc (length xs)))) (bad_none xs (λ k l. h (suc k) (suc-le-suc l)))

-- the first bad element, of a tensor that has one
record First (xs : List Float) (place : ℕ) : Type 0 where
  bad : element_ok (read xs place) ≡ false
  earlier : (k : ℕ) → k < place → T (element_ok (read xs k))

first : (xs : List Float) → 1 ≤ bad_count xs → First xs (first_bad xs)
unfolding first_bad bad_count
first [] h = absurd (not-suc-le-zero h)
first (x ∷ xs) h = go (element_ok x) refl h (λ l. first xs l)
  where
    before : T (element_ok x) → First xs (first_bad xs) → (k : ℕ) → k < suc (first_bad xs) → T (element_ok (read (x ∷ xs) k))
    before t f zero l = t
    before t f (suc k) l = f.earlier k (le_of_suc-le-suc l)

    go : (b : Bool) → element_ok x ≡ b → 1 ≤ cond b (bad_count xs) (suc (bad_count xs)) → (1 ≤ bad_count xs → First xs (first_bad xs))
        → First (x ∷ xs) (cond b (suc (first_bad xs)) 0)
    go true t h f = record { bad = (f h).bad; earlier = before (rw t tt) (f h) }
    go false t h f = record { bad = t; earlier = λ k l. absurd (not-suc-le-zero l) }

-- ---- what the element check tells of a tensor

-- the number is 0 exactly for a good tensor
pub good_count : (xs : List Float) → (element_check xs ≡ good) ↔ (bad_count xs ≡ 0)
unfolding element_check
good_count xs = go (eqb (bad_count xs) 0) refl
  where
    go : (b : Bool) → eqb (bad_count xs) 0 ≡ b → (cond b good (bad_from (first_bad xs) (bad_count xs)) ≡ good) ↔ (bad_count xs ≡ 0)
    go true t = (λ e. eqb-true _ _ t, λ e. refl)
    go false t = (λ e. absurd (false≢true cc), λ e. absurd (eqb-false _ _ t e))

pub all_good : (xs : List Float) → element_check xs ≡ good → (k : ℕ) → k < length xs → T (element_ok (read xs k))
all_good xs e = none_bad xs ((good_count xs).0 e)

pub good_all : (xs : List Float) → ((k : ℕ) → k < length xs → T (element_ok (read xs k))) → element_check xs ≡ good
good_all xs h = (good_count xs).1 (bad_none xs h)

-- The element at the place is bad and none before it is; the number is that of the bad elements, at least 1, and all of them stand from the place on.
pub record BadElements (xs : List Float) (place count : ℕ) : Type 0 where
  pub first : place ≡ first_bad xs
  pub bad : element_ok (read xs place) ≡ false
  pub earlier : (k : ℕ) → k < place → T (element_ok (read xs k))
  pub counted : count ≡ bad_count xs
  pub some : 1 ≤ count
  pub within : place + count ≤ length xs

abbrev told : Result ⊤ BadPlaces → BadPlaces
told (Ok u) = record { place = 0; bad = 0 }
told (Err b) = b

pub bad_elements : (xs : List Float) (place count : ℕ) → element_check xs ≡ bad_from place count → BadElements xs place count
unfolding element_check
bad_elements xs place count e = go (eqb (bad_count xs) 0) refl e
  where
    go : (b : Bool) → eqb (bad_count xs) 0 ≡ b → cond b good (bad_from (first_bad xs) (bad_count xs)) ≡ bad_from place count → BadElements xs place count
    go true t e = absurd (false≢true cc)
    go false t e =
        let p : first_bad xs ≡ place = ap (λ (r : Result ⊤ BadPlaces). (told r).place) e in
        let q : bad_count xs ≡ count = ap (λ (r : Result ⊤ BadPlaces). (told r).bad) e in
        let one = pos_of_ne-zero (eqb-false _ _ t) in
        let f = first xs one in
        record { first = sym p; bad = rw p at f.bad; earlier = rw p at f.earlier; counted = sym q; some = rw q at one; within = omega (arith, bad_within xs) }

-- ---- the library's count and position

-- an element that does not pass
abbrev pub is_bad : Float → Bool
is_bad x = not (element_ok x)

count_from : (n : ℕ) (xs : List Float) → fold (λ a x. a + cond (is_bad x) 1 0) n xs ≡ n + bad_count xs
unfolding bad_count
count_from n [] = sym (add-zero n)
count_from n (x ∷ xs) = count_from (n + cond (is_bad x) 1 0) xs ∙ go (element_ok x)
  where
    go : (b : Bool) → n + cond (not b) 1 0 + bad_count xs ≡ n + cond b (bad_count xs) (suc (bad_count xs))
    go true = omega arith
    go false = omega arith

-- the bad elements are counted
pub count_is : (xs : List Float) → count_by is_bad xs ≡ bad_count xs
count_is xs = count_from 0 xs ∙ zero-add _

first_len : (xs : List Float) → position_or_len is_bad xs ≡ first_bad xs
unfolding first_bad
first_len [] = refl
first_len (x ∷ xs) = go (element_ok x) (first_len xs)
  where
    go : (b : Bool) → position_or_len is_bad xs ≡ first_bad xs → cond (not (not b)) (1 + position_or_len is_bad xs) 0 ≡ cond b (suc (first_bad xs)) 0
    go true h = omega (arith, h)
    go false h = refl

-- a tensor with no bad element has its first one at its end
first_none : (xs : List Float) → bad_count xs ≡ 0 → first_bad xs ≡ length xs
unfolding first_bad bad_count
first_none [] h = refl
first_none (x ∷ xs) h = go (element_ok x) (λ e. first_none xs e) h
  where
    go : (b : Bool) → (bad_count xs ≡ 0 → first_bad xs ≡ length xs) → cond b (bad_count xs) (suc (bad_count xs)) ≡ 0 → cond b (suc (first_bad xs)) 0 ≡ suc (length xs)
    go true f h = omega (arith, f h)
    go false f h = absurd (omega arith)

-- the position of the first bad element, where there is one
position_at : (xs : List Float) → position is_bad xs ≡ cond (nat_lt (first_bad xs) (length xs)) (Some (first_bad xs)) None
position_at xs = rw (first_len xs)

-- what the check finds, by that position
pub found_none : (xs : List Float) → position is_bad xs ≡ None → good ≡ element_check xs
unfolding element_check
found_none xs e = go (eqb (bad_count xs) 0) (nat_lt (first_bad xs) (length xs)) refl refl (sym (position_at xs) ∙ e)
  where
    go : (b c : Bool) → eqb (bad_count xs) 0 ≡ b → nat_lt (first_bad xs) (length xs) ≡ c → cond c (Some (first_bad xs)) None ≡ None
        → good ≡ cond b good (bad_from (first_bad xs) (bad_count xs))
    go true c t u h = refl
    go false true t u h = absurd (false≢true cc)
    go false false t u h = absurd (omega (arith, bad_within xs, eqb-false (bad_count xs) 0 t, ltb-false (first_bad xs) (length xs) u))

pub found_bad : (xs : List Float) (place : ℕ) → position is_bad xs ≡ Some place → bad_from place (bad_count xs) ≡ element_check xs
unfolding element_check
found_bad xs place e = go (eqb (bad_count xs) 0) (nat_lt (first_bad xs) (length xs)) refl refl (sym (position_at xs) ∙ e)
  where
    go : (b c : Bool) → eqb (bad_count xs) 0 ≡ b → nat_lt (first_bad xs) (length xs) ≡ c → cond c (Some (first_bad xs)) None ≡ Some place
        → bad_from place (bad_count xs) ≡ cond b good (bad_from (first_bad xs) (bad_count xs))
    go b false t u h = absurd (false≢true cc)
    go true true t u h = absurd (omega (arith, first_none xs (eqb-true (bad_count xs) 0 t), ltb-true (first_bad xs) (length xs) u))
    go false true t u h = cc
