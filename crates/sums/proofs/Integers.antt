-- Integers by their positive and negative parts, so that `omega` can reason about sums, magnitudes and distances.
use mathlib.Core.Path.{◌≡◌, refl, ap}
use Prim.Native.Nat.{ℕ, zero, suc, ◌+◌, ◌-◌, ◌*◌, ◌≤◌, ◌<◌}
use native.Mathlib.Nat.{mul-zero, zero-mul}
use native.Mathlib.Omega.{arith}
use mathlib.Core.Bool.{Bool, true, false, not, cond}
use lib.Dec.{T, ltb, ltb→lt, nltb→le}
use lib.IntN.{ℤ, pos, negsuc, neg_ℤ, nat_abs, sub_ℕ, ◌+ℤ◌, ◌-ℤ◌, ◌*ℤ◌}
use lib.Ieee.{unlike}
use Rattle.sums.specs.Whole.{distance}

-- the positive part and the negative part: z is P z - N z
abbrev pub P : ℤ → ℕ
P (pos n) = n
P (negsuc n) = 0

abbrev pub N : ℤ → ℕ
N (pos n) = 0
N (negsuc n) = suc n

-- ---- the parts of a sum and of a negation
sub_parts : (a b : ℕ) → P (sub_ℕ a b) + b ≡ a + N (sub_ℕ a b)
sub_parts a b = go (ltb a b) (ltb→lt a b) (nltb→le a b)
  where
    go : (t : Bool) → (T t → a < b) → (T (not t) → b ≤ a) → P (cond t (negsuc (b - suc a)) (pos (a - b))) + b ≡ a + N (cond t (negsuc (b - suc a)) (pos (a - b)))
    go true h k = let l : a < b = h tt in omega arith
    go false h k = let l : b ≤ a = k tt in omega arith

pub plus_parts : (a b : ℤ) → P (a +ℤ b) + (N a + N b) ≡ P a + P b + N (a +ℤ b)
plus_parts (pos a) (pos b) = omega arith
plus_parts (pos a) (negsuc b) = omega (arith, sub_parts a (suc b))
plus_parts (negsuc a) (pos b) = omega (arith, sub_parts b (suc a))
plus_parts (negsuc a) (negsuc b) = omega arith

neg_parts : (z : ℤ) → (P (neg_ℤ z) ≡ N z) × (N (neg_ℤ z) ≡ P z)
neg_parts (pos zero) = (refl, refl)
neg_parts (pos (suc n)) = (refl, refl)
neg_parts (negsuc n) = (refl, refl)

-- ---- equality and magnitude by the parts
pub same_parts : (x y : ℤ) → P x + N y ≡ P y + N x → x ≡ y
same_parts (pos a) (pos b) e = ap pos (omega arith)
same_parts (pos a) (negsuc b) e = absurd (omega arith)
same_parts (negsuc a) (pos b) e = absurd (omega arith)
same_parts (negsuc a) (negsuc b) e = ap negsuc (omega arith)

abs_of : (z : ℤ) (x y : ℕ) → P z + y ≡ x + N z → nat_abs z ≡ x - y + (y - x)
abs_of (pos a) x y e = omega arith
abs_of (negsuc a) x y e = omega arith

abs_is : (z : ℤ) → nat_abs z ≡ P z - N z + (N z - P z)
abs_is z = abs_of z (P z) (N z) refl

abs_sum : (a b : ℤ) → nat_abs (a +ℤ b) ≡ P a + P b - (N a + N b) + (N a + N b - (P a + P b))
abs_sum a b = abs_of (a +ℤ b) (P a + P b) (N a + N b) (plus_parts a b)

distance_is : (a b : ℤ) → distance a b ≡ P a + N b - (P b + N a) + (P b + N a - (P a + N b))
distance_is a b = let n = neg_parts b in abs_of (a -ℤ b) (P a + N b) (P b + N a) (omega (arith, plus_parts a (neg_ℤ b)))

-- ---- what the proofs use
pub abs_plus : (a b : ℤ) → nat_abs (a +ℤ b) ≤ nat_abs a + nat_abs b
abs_plus a b = omega (arith, abs_sum a b, abs_is a, abs_is b)

pub distance_plus : (a b c d : ℤ) → distance (a +ℤ c) (b +ℤ d) ≤ distance a b + distance c d
distance_plus a b c d = omega (arith, distance_is (a +ℤ c) (b +ℤ d), distance_is a b, distance_is c d, plus_parts a c, plus_parts b d)

pub distance_trans : (a b c : ℤ) → distance a c ≤ distance a b + distance b c
distance_trans a b c = omega (arith, distance_is a b, distance_is b c, distance_is a c)

pub abs_near : (a b : ℤ) → nat_abs a ≤ distance a b + nat_abs b
abs_near a b = omega (arith, distance_is a b, abs_is a, abs_is b)

pub distance_self : (a : ℤ) → distance a a ≡ 0
distance_self a = omega (arith, distance_is a a)

-- ---- a sign and a magnitude
abbrev pub signed : Bool → ℕ → ℤ
signed s n = cond s (neg_ℤ (pos n)) (pos n)

pub abs_signed : (s : Bool) (n : ℕ) → nat_abs (signed s n) ≡ n
abs_signed false n = refl
abs_signed true zero = refl
abs_signed true (suc n) = refl

pub distance_signed : (s : Bool) (a b : ℕ) → distance (signed s a) (signed s b) ≡ a - b + (b - a)
distance_signed false a b = omega (arith, distance_is (pos a) (pos b))
distance_signed true a b = omega (arith, distance_is (neg_ℤ (pos a)) (neg_ℤ (pos b)), neg_parts (pos a), neg_parts (pos b))

pub minus_parts : (n : ℕ) → (P (signed true n) ≡ 0) × (N (signed true n) ≡ n)
minus_parts n = neg_parts (pos n)

pub signed_times : (s t : Bool) (a b : ℕ) → signed (unlike s t) (a * b) ≡ signed s a *ℤ signed t b
signed_times false false a b = refl
signed_times false true a zero = rw mul-zero
signed_times false true a (suc b) = refl
signed_times true false zero b = rw zero-mul
signed_times true false (suc a) b = refl
signed_times true true zero zero = refl
signed_times true true zero (suc b) = rw zero-mul
signed_times true true (suc a) zero = rw mul-zero
signed_times true true (suc a) (suc b) = refl

-- ---- the magnitude of a product
pub abs_times : (a b : ℤ) → nat_abs (a *ℤ b) ≡ nat_abs a * nat_abs b
abs_times (pos a) (pos b) = refl
abs_times (pos a) (negsuc b) = abs_signed true (a * suc b)
abs_times (negsuc a) (pos b) = abs_signed true (suc a * b)
abs_times (negsuc a) (negsuc b) = refl
