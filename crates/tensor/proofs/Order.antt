-- The order of f32 numbers, `lt` and `le`: transitive, irreflexive, and total where neither is NaN. No law asks that a number fits the format.
use mathlib.Core.Path.{◌≡◌, refl, sym, ◌∙◌, subst}
use mathlib.Core.Bool.{Bool, true, false, not, ◌&&◌, ◌||◌}
use mathlib.Core.Logic.{inl, inr}
use Prim.Native.Nat.{ℕ, ◌+◌, ◌*◌, ◌≤◌, ◌<◌}
use native.Mathlib.Nat.{mul-pos, mul_comm, mul_assoc, add-mul, mul-lt-mul_of_pos_right, lt_of_mul-lt-mul_right, eq-or-lt_of_le, eq-zero-or-pos}
use native.Mathlib.Nat.{lt_irrefl as lt-irreflℕ}
use native.Mathlib.Omega.{arith}
use lib.Dec.{T, ltb, eqb, ltb→lt, lt→ltb, nltb→le, eqb→eq, not_T, T_not}
use lib.Ieee.{Float, nan, inf, fin, up, down, lt, eq, le, below, level, is_nan}
use lib.Ieee.Fits.{down_pos, and_i, and_l, and_r, eq→eqb}
use lib.Ieee.Positive.{first_pos}
use mir.Facts.{or_yes, T_not-not}

-- ---- tests

-- two tests that pass together
pub test_same : (a b : Bool) → (T a → T b) → (T b → T a) → a ≡ b
test_same true true f g = refl
test_same true false f g = absurd (f tt)
test_same false true f g = absurd (g tt)
test_same false false f g = refl

not_below : (a : ℕ) → T (not (ltb a a))
not_below a = not_T (ltb a a) (λ t. lt-irreflℕ a (ltb→lt a a t))

or_r : (a b : Bool) → T b → T (a || b)
or_r true b t = tt
or_r false b t = t

or_l : (a b : Bool) → T a → T (a || b)
or_l true b t = tt
or_l false b t = absurd t

zeros : (a b : ℕ) → b + a ≤ 0 → T (eqb a b && (false || eqb a 0))
zeros a b h =
    let e : a ≡ b = omega arith in
    let z : a ≡ 0 = omega arith in
    and_i (eqb a b) _ (eq→eqb e) (eq→eqb z)

-- ---- signed magnitudes: ±a and ±b

-- where b is not below a, a is below b or level with it
level_or : (s t : Bool) (a b : ℕ) → T (not (below t b s a)) → T (below s a t b || level s a t b)
level_or false false a b h =
    elim (eq-or-lt_of_le (nltb→le b a h)) [
      | inl e ↦ or_r (ltb a b) _ (and_i (eqb a b) _ (eq→eqb e) tt)
      | inr l ↦ or_l (ltb a b) _ (lt→ltb a b l)
    ]
level_or false true a b h = zeros a b (nltb→le 0 (b + a) h)
level_or true false a b h =
    elim (eq-zero-or-pos (a + b)) [
      | inl e ↦ or_r (ltb 0 (a + b)) _ (zeros a b (omega arith))
      | inr l ↦ or_l (ltb 0 (a + b)) _ (lt→ltb 0 (a + b) l)
    ]
level_or true true a b h =
    elim (eq-or-lt_of_le (nltb→le a b h)) [
      | inl e ↦ or_r (ltb b a) _ (and_i (eqb a b) _ (eq→eqb (sym e)) tt)
      | inr l ↦ or_l (ltb b a) _ (lt→ltb b a l)
    ]

-- and the way back
level_not : (s t : Bool) (a b : ℕ) → T (below s a t b || level s a t b) → T (not (below t b s a))
level_not false false a b h =
    elim (or_yes (ltb a b) _ h) [
      | inl l ↦ not_T (ltb b a) (λ k. omega (arith, ltb→lt a b l, ltb→lt b a k))
      | inr e ↦ not_T (ltb b a) (λ k. omega (arith, eqb→eq a b (and_l (eqb a b) _ e), ltb→lt b a k))
    ]
level_not false true a b h =
    not_T (ltb 0 (b + a)) (λ k. omega (arith, eqb→eq a b (and_l (eqb a b) _ h), eqb→eq a 0 (and_r (eqb a b) _ h), ltb→lt 0 (b + a) k))
level_not true false a b h = tt
level_not true true a b h =
    elim (or_yes (ltb b a) _ h) [
      | inl l ↦ not_T (ltb a b) (λ k. omega (arith, ltb→lt b a l, ltb→lt a b k))
      | inr e ↦ not_T (ltb a b) (λ k. omega (arith, eqb→eq a b (and_l (eqb a b) _ e), ltb→lt a b k))
    ]

-- where a is below b and not below c, c is below b
below_split : (s t u : Bool) (a b c : ℕ) → T (below s a t b) → T (not (below s a u c)) → T (below u c t b)
below_split false false false a b c p q = omega (arith, ltb→lt, lt→ltb, nltb→le)
below_split false false true a b c p q = omega (arith, ltb→lt, lt→ltb, nltb→le)
below_split false true u a b c p q = absurd p
below_split true false false a b c p q = omega (arith, ltb→lt, lt→ltb, nltb→le)
below_split true false true a b c p q = omega (arith, ltb→lt, lt→ltb, nltb→le)
below_split true true false a b c p q = omega (arith, ltb→lt, lt→ltb, nltb→le)
below_split true true true a b c p q = omega (arith, ltb→lt, lt→ltb, nltb→le)

-- the order of two magnitudes is that of both times k, which is above 0
below_scale : (s t : Bool) (a b k : ℕ) → 0 < k → below s (a * k) t (b * k) ≡ below s a t b
below_scale false false a b k h =
    test_same _ _ (λ p. lt→ltb a b (lt_of_mul-lt-mul_right k (ltb→lt (a * k) (b * k) p)))
    (λ p. lt→ltb (a * k) (b * k) (mul-lt-mul_of_pos_right (ltb→lt a b p) h))
below_scale false true a b k h = refl
below_scale true false a b k h =
    test_same _ _ (λ p. lt→ltb 0 (a + b) (first_pos (a + b) k (rw (← (add-mul a b k)) at (ltb→lt 0 (a * k + b * k) p))))
    (λ p. lt→ltb 0 (a * k + b * k) (rw (add-mul a b k) at (mul-pos (ltb→lt 0 (a + b) p) h)))
below_scale true true a b k h =
    test_same _ _ (λ p. lt→ltb b a (lt_of_mul-lt-mul_right k (ltb→lt (b * k) (a * k) p)))
    (λ p. lt→ltb (b * k) (a * k) (mul-lt-mul_of_pos_right (ltb→lt b a p) h))

-- ---- fractions: x / p, y / q and z / r, at one denominator
at_one : (s t : Bool) (x y p q r : ℕ) → 0 < r → below s (x * q) t (y * p) ≡ below s (x * (q * r)) t (y * (p * r))
at_one s t x y p q r h = sym (below_scale s t (x * q) (y * p) r h) ∙ rw (mul_assoc x q r, mul_assoc y p r)

module _ (s t u : Bool) (x y z p q r : ℕ) (P : 0 < p) (Q : 0 < q) (R : 0 < r) where
  xy : below s (x * q) t (y * p) ≡ below s (x * (q * r)) t (y * (p * r))
  xy = at_one s t x y p q r R

  xz : below s (x * r) u (z * p) ≡ below s (x * (q * r)) u (z * (p * q))
  xz = at_one s u x z p r q Q ∙ rw (mul_comm r q)

  zy : below u (z * q) t (y * r) ≡ below u (z * (p * q)) t (y * (p * r))
  zy = at_one u t z y r q p P ∙ rw (mul_comm r p, mul_comm q p)

  fractions_split : T (below s (x * q) t (y * p)) → T (not (below s (x * r) u (z * p))) → T (below u (z * q) t (y * r))
  fractions_split h k =
      subst T (sym zy)
      (below_split s t u (x * (q * r)) (y * (p * r)) (z * (p * q)) (subst T xy h) (subst (λ (b : Bool). T (not b)) xz k))

-- ---- f32 numbers
abbrev pub NotNan : Float → Type 0
NotNan x = T (not (is_nan x))

-- of three, where x is below y and not below z, z is below y
pub lt_split : (x y z : Float) → NotNan z → T (lt x y) → T (not (lt x z)) → T (lt z y)
unfolding lt is_nan
lt_split nan y z nz p q = absurd p
lt_split (inf s) nan z nz p q = absurd p
lt_split (inf true) (inf true) z nz p q = absurd p
lt_split (inf true) (inf false) nan nz p q = absurd nz
lt_split (inf true) (inf false) (inf true) nz p q = tt
lt_split (inf true) (inf false) (inf false) nz p q = absurd q
lt_split (inf true) (inf false) (fin u k g) nz p q = tt
lt_split (inf true) (fin t n d) nan nz p q = absurd nz
lt_split (inf true) (fin t n d) (inf true) nz p q = tt
lt_split (inf true) (fin t n d) (inf false) nz p q = absurd q
lt_split (inf true) (fin t n d) (fin u k g) nz p q = absurd q
lt_split (inf false) (inf t) z nz p q = absurd p
lt_split (inf false) (fin t n d) z nz p q = absurd p
lt_split (fin s m e) nan z nz p q = absurd p
lt_split (fin s m e) (inf true) z nz p q = absurd p
lt_split (fin s m e) (inf false) nan nz p q = absurd nz
lt_split (fin s m e) (inf false) (inf true) nz p q = tt
lt_split (fin s m e) (inf false) (inf false) nz p q = absurd q
lt_split (fin s m e) (inf false) (fin u k g) nz p q = tt
lt_split (fin s m e) (fin t n d) nan nz p q = absurd nz
lt_split (fin s m e) (fin t n d) (inf true) nz p q = tt
lt_split (fin s m e) (fin t n d) (inf false) nz p q = absurd q
lt_split (fin s m e) (fin t n d) (fin u k g) nz p q =
    fractions_split s t u (m * up e) (n * up d) (k * up g) (down e) (down d) (down g) (down_pos e) (down_pos d) (down_pos g) p q

pub lt_irrefl : (x : Float) → T (not (lt x x))
unfolding lt
lt_irrefl nan = tt
lt_irrefl (inf true) = tt
lt_irrefl (inf false) = tt
lt_irrefl (fin true m e) = not_below (m * up e * down e)
lt_irrefl (fin false m e) = not_below (m * up e * down e)

-- `le` is `lt` or `eq`; of two that are not NaN it is that the second is not below the first
pub le_of_not_lt : (x y : Float) → NotNan x → NotNan y → T (not (lt y x)) → T (le x y)
unfolding le lt eq is_nan
le_of_not_lt nan y nx ny h = absurd nx
le_of_not_lt (inf s) nan nx ny h = absurd ny
le_of_not_lt (inf true) (inf true) nx ny h = tt
le_of_not_lt (inf true) (inf false) nx ny h = tt
le_of_not_lt (inf false) (inf true) nx ny h = absurd h
le_of_not_lt (inf false) (inf false) nx ny h = tt
le_of_not_lt (inf true) (fin t n d) nx ny h = tt
le_of_not_lt (inf false) (fin t n d) nx ny h = absurd h
le_of_not_lt (fin s m e) nan nx ny h = absurd ny
le_of_not_lt (fin s m e) (inf true) nx ny h = absurd h
le_of_not_lt (fin s m e) (inf false) nx ny h = tt
le_of_not_lt (fin s m e) (fin t n d) nx ny h = level_or s t (m * up e * down d) (n * up d * down e) h

-- and the way back, for any two
pub not_lt_of_le : (x y : Float) → T (le x y) → T (not (lt y x))
unfolding le lt eq
not_lt_of_le nan y h = absurd h
not_lt_of_le (inf true) nan h = absurd h
not_lt_of_le (inf true) (inf true) h = tt
not_lt_of_le (inf true) (inf false) h = tt
not_lt_of_le (inf true) (fin t n d) h = tt
not_lt_of_le (inf false) nan h = absurd h
not_lt_of_le (inf false) (inf true) h = absurd h
not_lt_of_le (inf false) (inf false) h = tt
not_lt_of_le (inf false) (fin t n d) h = absurd h
not_lt_of_le (fin s m e) nan h = absurd h
not_lt_of_le (fin s m e) (inf true) h = absurd h
not_lt_of_le (fin s m e) (inf false) h = tt
not_lt_of_le (fin s m e) (fin t n d) h = level_not s t (m * up e * down d) (n * up d * down e) h

pub le_of_lt : (x y : Float) → T (lt x y) → T (le x y)
unfolding le
le_of_lt x y h = or_l (lt x y) (eq x y) h

pub le_refl : (x : Float) → NotNan x → T (le x x)
le_refl x h = le_of_not_lt x x h h (lt_irrefl x)

pub lt_asym : (x y : Float) → T (lt x y) → T (not (lt y x))
lt_asym x y h = not_lt_of_le x y (le_of_lt x y h)

-- what a number is below is a number
above_number : (x y : Float) → T (lt x y) → NotNan y
unfolding lt is_nan
above_number nan nan h = h
above_number (inf s) nan h = h
above_number (fin s m e) nan h = h
above_number x (inf t) h = tt
above_number x (fin t n d) h = tt

pub lt_trans : (x y z : Float) → T (lt x y) → T (lt y z) → T (lt x z)
lt_trans x y z h k =
    T_not-not (lt x z) (not_T (not (lt x z)) (λ n. T_not (lt z y) (lt_asym y z k) (lt_split x y z (above_number y z k) h n)))
