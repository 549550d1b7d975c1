-- Zeros: a sum is -0 only where both its terms are; a product with +0 is a zero; adding a zero to what is not -0 changes no bit.
use mathlib.Core.Path.{◌≡◌, refl, sym, ap, ◌∙◌, subst}
use Prim.Native.Nat.{ℕ, zero, suc, ◌+◌, ◌-◌, ◌*◌, ◌/◌, ◌%◌, ◌^◌, ◌≤◌, ◌<◌, compare}
use native.Mathlib.Nat.{mul-one, one-mul, zero-mul, mul_assoc, mul_right_comm, mul-pos, add-mul, zero-lt-suc, lt_irrefl, le_trans, le_of_eq, mul-le-mul_right, mul-lt-mul_of_pos_right, lt_of_mul-lt-mul_right, le-div_iff_mul-le, div-div-eq-div-mul}
use native.Mathlib.Omega.{arith}
use mathlib.Core.Bool.{Bool, true, false, not, ◌&&◌, beq, cond, true≢false}
use lib.Dec.{T, ltb, eqb, ltb→lt, nltb→le, eqb→eq}
use lib.Pow.{pow_pos}
use lib.IntN.{ℤ, pos}
use lib.Ieee.{Float, nan, inf, fin, Format, unlike, prec, emax, low, up, down, size, odd, units, round, sum, add, mul, fits}
use lib.Ieee.Digits.{size_reaches}
use lib.Ieee.Fits.{round-fits, two, round_is, down_pos, up_pos}
use lib.Ieee.Exact.{HasValue, odd_sign, round_exact}
use lib.Ieee.Nearest.{closest, nearest-ge}
use lib.Ieee.Scale.{finite}
use Rattle.tensor.specs.Table.{plus_zero}
use Rattle.sums.proofs.Values.{multiple, unique, round_self}
use Rattle.sums.specs.Zero.{is_minus_zero}
use Rattle.sums.proofs.Round.{size_gt, Plus, round_plus, sub_times}

-- ---- a value that is not 0 is not -0
not_zero : (s : Bool) (m : ℕ) → 0 < m → T (not (s && eqb m 0))
not_zero false m h = tt
not_zero true m h = go (eqb m 0) (eqb→eq m 0)
  where
    go : (b : Bool) → (T b → m ≡ 0) → T (not b)
    go false e = tt
    go true e = let z : m ≡ 0 = e tt in absurd (omega arith)

some : (m u : ℕ) → 0 < m * u → 0 < m
some zero u h = absurd (lt_irrefl 0 (subst (λ (x : ℕ). 0 < x) (zero-mul u) h))
some (suc m) u h = zero-lt-suc m

value_not : (x : Float) (s : Bool) (a c : ℕ) → HasValue x s a c → 0 < a → T (not (is_minus_zero x))
unfolding is_minus_zero
value_not nan s a c h p = tt
value_not (inf t) s a c h p = tt
value_not (fin t m e) s a c h p = not_zero t m (some m (up e) (some (m * up e) c (rw h.1 (mul-pos p (down_pos e)))))

-- ---- what `round` makes
plus_not : (x : Float) → Plus x → T (not (is_minus_zero x))
unfolding is_minus_zero
plus_not nan h = tt
plus_not (inf s) h = tt
plus_not (fin true m e) h = absurd (true≢false h)
plus_not (fin false m e) h = tt

positive : (f : Format) (n c : ℕ) → T (not (is_minus_zero (round f false n c)))
positive f n c = plus_not (round f false n c) (round_plus f n c)

cond_not : (b : Bool) (x : Float) (s : Bool) → T (not (is_minus_zero x)) → T (not (is_minus_zero (cond b x (inf s))))
unfolding is_minus_zero
cond_not true x s h = h
cond_not false x s h = tt

units_some : (f : Format) (s : Bool) (q k : ℕ) → 0 < q → T (not (is_minus_zero (units f s q k)))
unfolding units
units_some f s q k h = cond_not (ltb (q * 2 ^ k) (2 ^ (low f + suc (emax f)))) (odd (suc (prec f)) s q k (low f)) s (value_not (odd (suc (prec f)) s q k (low f)) s (q * 2 ^ k) (2 ^ low f) (odd_sign (suc (prec f)) s q k (low f)) (mul-pos h (pow_pos k)))

fewer : (z p : ℕ) → 2 ≤ p → 0 < z → z - p < z
fewer z p h k = omega arith

-- at least one of the format's smallest values
round_some : (f : Format) (s : Bool) (n c : ℕ) → 0 < c → c ≤ n * 2 ^ low f → T (not (is_minus_zero (round f s n c)))
round_some f s n c C h =
    let w = n * 2 ^ low f / c in
    let k = size w - prec f in
    let a : 1 ≤ w = (le-div_iff_mul-le C).1 (le_trans (le_of_eq (one-mul c)) h) in
    let b : 2 ^ k ≤ w = size_reaches w k (fewer (size w) (prec f) (two f) (size_gt w 0 a)) in
    let d : 1 ≤ n * 2 ^ low f / (c * 2 ^ k) = subst (λ (x : ℕ). 1 ≤ x) (div-div-eq-div-mul (n * 2 ^ low f) c (2 ^ k)) ((le-div_iff_mul-le (pow_pos k)).1 (le_trans (le_of_eq (one-mul (2 ^ k))) b)) in
    rw (round_is f s n c) (units_some f s (closest (n * 2 ^ low f) (c * 2 ^ k)) k (le_trans d (nearest-ge (n * 2 ^ low f / (c * 2 ^ k)) (compare (n * 2 ^ low f % (c * 2 ^ k) * 2) (c * 2 ^ k)))))

-- ---- the sum of a / c and b / c, which are A and B of the smallest values
times_ge : (n c : ℕ) → 0 < n → c ≤ n * c
times_ge n c h = le_trans (le_of_eq (sym (one-mul c))) (mul-le-mul_right c h)

plus_some : (f : Format) (s : Bool) (a b c A B : ℕ) → 0 < c → a * 2 ^ low f ≡ A * c → b * 2 ^ low f ≡ B * c → 0 < A + B → T (not (is_minus_zero (round f s (a + b) c)))
plus_some f s a b c A B C p q h = round_some f s (a + b) c C (rw (add-mul, p, q, ← add-mul) (times_ge (A + B) c h))

minus_some : (f : Format) (s : Bool) (a b c A B : ℕ) → 0 < c → a * 2 ^ low f ≡ A * c → b * 2 ^ low f ≡ B * c → a < b → T (not (is_minus_zero (round f s (b - a) c)))
minus_some f s a b c A B C p q h =
    let l : A < B = lt_of_mul-lt-mul_right c (rw (← p, ← q) (mul-lt-mul_of_pos_right h (pow_pos (low f)))) in
    round_some f s (b - a) c C (rw (sub_times, p, q, ← sub_times A B c) (times_ge (B - A) c (omega arith)))

sum_not : (f : Format) (s t : Bool) (a b c A B : ℕ) → 0 < c → a * 2 ^ low f ≡ A * c → b * 2 ^ low f ≡ B * c → (T s → T t → 0 < A + B) → T (not (is_minus_zero (sum f s a t b c)))
unfolding sum
sum_not f s t a b c A B C p q = go s t (ltb a b) (ltb b a) (ltb→lt a b) (ltb→lt b a)
  where
    go : (s t u v : Bool) → (T u → a < b) → (T v → b < a) → (T s → T t → 0 < A + B)
        → T (not (is_minus_zero (cond (beq s t) (round f s (a + b) c) (cond u (round f t (b - a) c) (round f (s && v) (a - b) c)))))
    go false false u v h k z = positive f (a + b) c
    go true true u v h k z = plus_some f true a b c A B C p q (z tt tt)
    go false true true v h k z = minus_some f true a b c A B C p q (h tt)
    go false true false v h k z = positive f (a - b) c
    go true false true v h k z = positive f (b - a) c
    go true false false true h k z = minus_some f true b a c B A C q p (k tt)
    go true false false false h k z = positive f (a - b) c

-- ---- a sum is -0 only where both terms are
above : (m u l A d : ℕ) → m * u * l ≡ A * d → 0 < u → 0 < l → 0 < m → 0 < A
above m u l A d e U L M = some A d (rw (← e) (mul-pos (mul-pos M U) L))

inf_or_nan : (b s : Bool) → T (not (is_minus_zero (cond b (inf s) nan)))
unfolding is_minus_zero
inf_or_nan true s = tt
inf_or_nan false s = tt

one_is : (s t : Bool) (m n A B : ℕ) → T (not ((s && eqb m 0) && (t && eqb n 0))) → (0 < m → 0 < A) → (0 < n → 0 < B) → T s → T t → 0 < A + B
one_is true true zero zero A B z h k _ _ = absurd z
one_is true true zero (suc n) A B z h k _ _ = let l : 0 < B = k (zero-lt-suc n) in omega arith
one_is true true (suc m) n A B z h k _ _ = let l : 0 < A = h (zero-lt-suc m) in omega arith
one_is true false m n A B z h k _ w = absurd w
one_is false t m n A B z h k w _ = absurd w

pub add_not : (f : Format) (x y : Float) → T (fits f x) → T (fits f y) → T (not (is_minus_zero x && is_minus_zero y)) → T (not (is_minus_zero (add f x y)))
unfolding add is_minus_zero
add_not f nan y h k z = tt
add_not f (inf s) nan h k z = tt
add_not f (inf s) (inf t) h k z = inf_or_nan (beq s t) s
add_not f (inf s) (fin t n d) h k z = tt
add_not f (fin s m e) nan h k z = tt
add_not f (fin s m e) (inf t) h k z = tt
add_not f (fin s m e) (fin t n d) h k z =
    let A = multiple f s m e h in
    let B = multiple f t n d k in
    let c = down e * down d in
    let p : m * up e * down d * 2 ^ low f ≡ A.0 * c = mul_right_comm (m * up e) (down d) (2 ^ low f) ∙ ap (λ (x : ℕ). x * down d) A.1 ∙ mul_assoc A.0 (down e) (down d) in
    let q : n * up d * down e * 2 ^ low f ≡ B.0 * c = mul_right_comm (n * up d) (down e) (2 ^ low f) ∙ ap (λ (x : ℕ). x * down e) B.1 ∙ mul_right_comm B.0 (down d) (down e) ∙ mul_assoc B.0 (down e) (down d) in
    sum_not f s t (m * up e * down d) (n * up d * down e) c A.0 B.0 (mul-pos (down_pos e) (down_pos d)) p q
    (one_is s t m n A.0 B.0 z (above m (up e) (2 ^ low f) A.0 (down e) A.1 (up_pos e) (pow_pos (low f))) (above n (up d) (2 ^ low f) B.0 (down d) B.1 (up_pos d) (pow_pos (low f))))

-- ---- a product with a zero is a zero, and adding a zero to what is not -0 changes nothing

-- a / c and a zero: s is not negative where a is 0
sum_zero : (f : Format) (s t : Bool) (a c : ℕ) → (T s → 0 < a) → sum f s a t 0 c ≡ round f s a c
unfolding sum
sum_zero f s t a c = go s t (ltb a 0) (ltb 0 a) (ltb→lt a 0) (nltb→le 0 a)
  where
    go : (s t u v : Bool) → (T u → a < 0) → (T (not v) → a ≤ 0) → (T s → 0 < a) → cond (beq s t) (round f s (a + 0) c) (cond u (round f t (0 - a) c) (round f (s && v) (a - 0) c)) ≡ round f s a c
    go false false u v h k z = ap (λ (x : ℕ). round f false x c) (omega arith)
    go true true u v h k z = ap (λ (x : ℕ). round f true x c) (omega arith)
    go false true true v h k z = let l : a < 0 = h tt in absurd (omega arith)
    go true false true v h k z = let l : a < 0 = h tt in absurd (omega arith)
    go false true false v h k z = ap (λ (x : ℕ). round f false x c) (omega arith)
    go true false false true h k z = ap (λ (x : ℕ). round f true x c) (omega arith)
    go true false false false h k z = let l : a ≤ 0 = k tt in let g : 0 < a = z tt in absurd (omega arith)

some_size : (s : Bool) (m : ℕ) → T (not (s && eqb m 0)) → T s → 0 < m
some_size true zero h k = absurd h
some_size true (suc m) h k = zero-lt-suc m
some_size false m h k = absurd k

add_fin : (f : Format) (s : Bool) (m : ℕ) (e : ℤ) (t : Bool) (n : ℕ) (d : ℤ) → add f (fin s m e) (fin t n d) ≡ sum f s (m * up e * down d) t (n * up d * down e) (down e * down d)
unfolding add
add_fin f s m e t n d = refl

add_zero_fin : (f : Format) (s : Bool) (m : ℕ) (e : ℤ) (t : Bool) → T (fits f (fin s m e)) → T (not (s && eqb m 0)) → add f (fin s m e) (fin t 0 (pos 0)) ≡ fin s m e
add_zero_fin f s m e t h z =
    add_fin f s m e t 0 (pos 0)
    ∙ rw (mul-one (m * up e), zero-mul (down e), mul-one (down e)) (sum_zero f s t (m * up e) (down e) (λ k. mul-pos (some_size s m z k) (up_pos e)) ∙ round_self f s m e h)

pub add_zero_same : (f : Format) (x : Float) (t : Bool) → T (fits f x) → T (not (is_minus_zero x)) → add f x (fin t 0 (pos 0)) ≡ x
unfolding add is_minus_zero
add_zero_same f nan t h z = refl
add_zero_same f (inf s) t h z = refl
add_zero_same f (fin s m e) t h z = add_zero_fin f s m e t h z

-- ---- a product with +0
zero_fit : (f : Format) (s : Bool) → T (fits f (fin s 0 (pos 0)))
unfolding fits
zero_fit f s = tt

round_zero : (f : Format) (s : Bool) (c : ℕ) → 0 < c → round f s 0 c ≡ fin s 0 (pos 0)
round_zero f s c C = unique f (round f s 0 c) (fin s 0 (pos 0)) s 0 c C (round-fits f s 0 c) (zero_fit f s)
    (round_exact f s 0 c 0 0 C (pow_pos (prec f)) (pow_pos (low f + suc (emax f))) (rw (zero-mul (2 ^ low f), zero-mul c))) (refl, zero-mul c)

pub zero_times : (f : Format) (w : Float) → T (finite w) → (s : Bool) × (mul f plus_zero w ≡ fin s 0 (pos 0))
unfolding mul
zero_times f nan h = absurd h
zero_times f (inf t) h = absurd h
zero_times f (fin t n d) h = (unlike false t, ap (λ (x : ℕ). round f (unlike false t) x (1 * down d)) (zero-mul (n * up d)) ∙ round_zero f (unlike false t) (1 * down d) (mul-pos (zero-lt-suc 0) (down_pos d)))
