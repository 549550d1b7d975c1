-- Rounding. A whole number rounds to a whole number that is within one part in 2 ^ prec of it, and is it up to 2 ^ prec. The sign is kept.
use mathlib.Core.Path.{◌≡◌, refl, sym, ap, ◌∙◌, subst}
use Prim.Native.Nat.{ℕ, zero, suc, ◌+◌, ◌-◌, ◌*◌, ◌/◌, ◌%◌, ◌^◌, ◌≤◌, ◌<◌, compare, Ordering}
use native.Mathlib.Nat.{div-add-mod', mod-lt, add-mul, suc-mul, one-mul, mul-one, mul_assoc, mul_comm, mul_right_comm, div-one, le_trans, le_of_eq, lt_of_lt_of_le, lt_of_le_of_lt, lt_of_not-le, not-le_of_lt, le_of_mul-le-mul_right, mul-le-mul_right, le-mul_of_pos_right, mul-pos, mul-sub, mul-lt-mul_of_pos_right, eq_of_mul-eq-mul_right, pow-suc, zero-lt-suc}
use native.Mathlib.Decide.{dec_le}
use native.Mathlib.Omega.{arith}
use mathlib.Core.Bool.{Bool, true, false, not, cond}
use lib.Dec.{T, ltb, is_le, compare_is_eq, eqb, leb→le, nleb→lt, eqb→eq, eqb_refl}
use lib.Arith.{lt_of_le-ne}
use lib.Pow.{pow-add, pow_pos, pow_mono}
use lib.Ieee.{Float, nan, inf, fin, Format, prec, emax, low, up, down, nearest, size, odd, units, round}
use lib.Ieee.Digits.{size-lt, size_reaches}
use lib.Ieee.Fits.{core, round_is}
use lib.Ieee.Nearest.{closest, closest_same}
use lib.Ieee.Exact.{HasValue, units_val}
use lib.Ieee.Back.{round_whole}

-- ---- what `compare` says
abbrev Cmp : Ordering → ℕ → ℕ → Type 0
Cmp Ordering.lt a b = a < b
Cmp Ordering.eq a b = a ≡ b
Cmp Ordering.gt a b = b < a

cmp : (a b : ℕ) → Cmp (compare a b) a b
cmp a b = go (compare a b) (leb→le a b) (nleb→lt a b) (eqb→eq a b) (λ (e : a ≡ b). subst (λ (x : ℕ). T (eqb a x)) e (eqb_refl a))
  where
    go : (o : Ordering) → (T (is_le o) → a ≤ b) → (T (not (is_le o)) → b < a) → (T (compare_is_eq o) → a ≡ b) → (a ≡ b → T (compare_is_eq o)) → Cmp o a b
    go Ordering.lt h k e n = lt_of_le-ne (h tt) n
    go Ordering.eq h k e n = e tt
    go Ordering.gt h k e n = k tt

-- ---- `closest a b` is within a half of a / b
-- c * b is within half of b of a
abbrev Half : ℕ → ℕ → ℕ → Type 0
Half c a b = (c * b * 2 ≤ a * 2 + b) × (a * 2 ≤ c * b * 2 + b)

tie : (q b a r d : ℕ) → q * b + r ≡ a → r * 2 ≡ b → d < 2 → Half (q + d) a b
tie q b a r zero e h l = let z : (q + 0) * b ≡ q * b = ap (λ (x : ℕ). x * b) (omega arith) in omega arith
tie q b a r (suc zero) e h l = let z : (q + 1) * b ≡ q * b + b = ap (λ (x : ℕ). x * b) (omega arith) ∙ suc-mul q b in omega arith
tie q b a r (suc (suc d)) e h l = absurd (omega arith)

nearest_half : (q b a r : ℕ) (o : Ordering) → q * b + r ≡ a → r < b → Cmp o (r * 2) b → Half (nearest q o) a b
nearest_half q b a r Ordering.lt e l h = omega arith
nearest_half q b a r Ordering.eq e l h = tie q b a r (q % 2) e h (mod-lt q (zero-lt-suc 1))
nearest_half q b a r Ordering.gt e l h = let z : suc q * b ≡ q * b + b = suc-mul q b in omega arith

closest_half : (a b : ℕ) → 0 < b → Half (closest a b) a b
closest_half a b B = nearest_half (a / b) b a (a % b) (compare (a % b * 2) b) (div-add-mod' a b) (mod-lt a B) (cmp (a % b * 2) b)

-- ---- a whole number above 2 ^ prec
pub size_gt : (n j : ℕ) → 2 ^ j ≤ n → j < size n
size_gt n j h = lt_of_not-le (λ (g : size n ≤ j). not-le_of_lt (lt_of_lt_of_le (size-lt n) (pow_mono g)) h)

-- from the fraction w * l / l to the whole number w
unscale : (x : Float) (s : Bool) (w l : ℕ) → 0 < l → HasValue x s (w * l) l → HasValue x s w 1
unscale nan s w l p v = v
unscale (inf t) s w l p v = v
unscale (fin t m e) s w l p v =
    (v.0, mul-one (m * up e) ∙ eq_of_mul-eq-mul_right l p (m * up e) (w * down e) (v.1 ∙ mul_right_comm w l (down e)))

-- w is n rounded to p digits
pub record Rounds (p n w : ℕ) : Type 0 where
  pub above : w * 2 ^ p ≤ n * 2 ^ p + n
  pub below : n * 2 ^ p ≤ w * 2 ^ p + n
  pub same : n ≤ 2 ^ p → w ≡ n

exact : (p n : ℕ) → Rounds p n n
exact p n = record { above = omega arith; below = omega arith; same = λ _. refl }

scaled_le : (w n v P : ℕ) → w ≤ n + v → v * P ≤ n → w * P ≤ n * P + n
scaled_le w n v P h k = let a : w * P ≤ n * P + v * P = le_trans (mul-le-mul_right P h) (le_of_eq (add-mul n v P)) in omega arith

-- with one unit's digits j + 1 to drop: v is 2 ^ j
near : (p n q v u : ℕ) → u ≡ v * 2 → Half q n u → v * 2 ^ p ≤ n → 2 ^ p < n → Rounds p n (q * u)
near p n q v u e h k g =
    let a : q * u ≤ n + v = omega arith in
    let b : n ≤ q * u + v = omega arith in
    record { above = scaled_le (q * u) n v (2 ^ p) a k; below = le_trans (mul-le-mul_right (2 ^ p) b) (le_trans (le_of_eq (add-mul (q * u) v (2 ^ p))) (omega arith)); same = λ l. absurd (omega arith) }

drops : (z p l : ℕ) → p + l < z → z - p ≡ l + suc (z - p - l - 1)
drops z p l h = omega arith

reaches : (z p l : ℕ) → p + l < z → z - p - l - 1 + p + l < z
reaches z p l h = omega arith

twice : (p n w : ℕ) → Rounds p n w → w ≤ n + n
twice p n w r = le_of_mul-le-mul_right (le_trans r.above (le_trans (omega (arith, le-mul_of_pos_right n (pow_pos p))) (le_of_eq (sym (add-mul n n (2 ^ p)))))) (pow_pos p)

large : (f : Format) (s : Bool) (n : ℕ) → 2 ^ prec f < n → n + n < 2 ^ suc (emax f) → (w : ℕ) × HasValue (round f s n 1) s w 1 × Rounds (prec f) n w
large f s n g o =
    let p = prec f in
    let l = low f in
    let N = n * 2 ^ l in
    let z = size (N / 1) in
    let j = z - p - l - 1 in
    let u = 2 ^ suc j in
    let q = closest n u in
    let w = q * u in
    let h : p + l < z = size_gt (N / 1) (p + l) (le_trans (le_of_eq (pow-add 2 p l)) (le_trans (mul-le-mul_right (2 ^ l) (omega arith)) (le_of_eq (sym (div-one N))))) in
    let e : closest N (1 * 2 ^ (l + suc j)) ≡ q = closest_same N (1 * 2 ^ (l + suc j)) n u (mul-pos (zero-lt-suc 0) (pow_pos (l + suc j))) (pow_pos (suc j)) (simp (mul_assoc, one-mul, pow-add)) in
    let r : round f s n 1 ≡ units f s q (l + suc j) =
    round_is f s n 1 ∙ ap (λ (k : ℕ). core f s N 1 k) (drops z p l h) ∙ ap (λ (x : ℕ). units f s x (l + suc j)) e in
    let v : 2 ^ j * 2 ^ p ≤ n = le_of_mul-le-mul_right (le_trans (le_of_eq (sym (pow-add 2 (j + p) l ∙ ap (λ (x : ℕ). x * 2 ^ l) (pow-add 2 j p)))) (le_trans (size_reaches (N / 1) (j + p + l) (reaches z p l h)) (le_of_eq (div-one N)))) (pow_pos l) in
    let c : Rounds p n w = near p n q (2 ^ j) u (pow-suc 2 j) (closest_half n u (pow_pos (suc j))) v g in
    let x : q * 2 ^ (l + suc j) ≡ w * 2 ^ l = simp (pow-add, mul_assoc, mul_comm (2 ^ l) u) in
    let m : w < 2 ^ suc (emax f) = lt_of_le_of_lt (twice p n w c) o in
    let y : q * 2 ^ (l + suc j) < 2 ^ (l + suc (emax f)) = rw (x, pow-add 2 l (suc (emax f)), mul_comm (2 ^ l) (2 ^ suc (emax f))) (mul-lt-mul_of_pos_right m (pow_pos l)) in
    let d : HasValue (units f s q (l + suc j)) s (w * 2 ^ l) (2 ^ l) = subst (λ (t : ℕ). HasValue (units f s q (l + suc j)) s t (2 ^ l)) x (units_val f s q (l + suc j) y) in
    (w, subst (λ (t : Float). HasValue t s w 1) (sym r) (unscale (units f s q (l + suc j)) s w (2 ^ l) (pow_pos l) d), c)

-- ---- any whole number that does not overflow
pub round_near : (f : Format) (s : Bool) (n : ℕ) → n + n < 2 ^ suc (emax f) → (w : ℕ) × HasValue (round f s n 1) s w 1 × Rounds (prec f) n w
round_near f s n o = go (dec_le n (2 ^ prec f))
  where
    go : Dec (n ≤ 2 ^ prec f) → (w : ℕ) × HasValue (round f s n 1) s w 1 × Rounds (prec f) n w
    go (yes h) = (n, round_whole f s n h, exact (prec f) n)
    go (no h) = large f s n (lt_of_not-le h) o

-- ---- rounding keeps the sign: x is a number or an infinity, and its sign is +
abbrev pub Plus : Float → Type 0
Plus nan = ⊥
Plus (inf s) = s ≡ false
Plus (fin s m e) = s ≡ false

odd_plus : (d q k l : ℕ) → Plus (odd d false q k l)
unfolding odd
odd_plus d zero k l = refl
odd_plus d (suc q) k l = refl

units_plus : (f : Format) (q k : ℕ) → Plus (units f false q k)
unfolding units
units_plus f q k = go (ltb (q * 2 ^ k) (2 ^ (low f + suc (emax f))))
  where
    go : (b : Bool) → Plus (cond b (odd (suc (prec f)) false q k (low f)) (inf false))
    go true = odd_plus (suc (prec f)) q k (low f)
    go false = refl

pub round_plus : (f : Format) (n c : ℕ) → Plus (round f false n c)
round_plus f n c = subst Plus (sym (round_is f false n c)) (units_plus f (closest (n * 2 ^ low f) (c * 2 ^ (size (n * 2 ^ low f / c) - prec f))) (size (n * 2 ^ low f / c) - prec f))

-- ---- a difference of two products
pub sub_times : (a b c : ℕ) → (b - a) * c ≡ b * c - a * c
sub_times a b c = mul_comm (b - a) c ∙ mul-sub c b a ∙ ap (λ (x : ℕ). x - c * a) (mul_comm c b) ∙ ap (λ (x : ℕ). b * c - x) (mul_comm c a)
