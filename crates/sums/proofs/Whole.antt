-- Products and sums of whole numbers in a format: exact products, and sums that round a whole number once.
use mathlib.Core.Path.{◌≡◌, refl, sym, ap, ◌∙◌, subst}
use Prim.Native.Nat.{ℕ, suc, ◌+◌, ◌-◌, ◌*◌, ◌/◌, ◌%◌, ◌^◌, ◌≤◌, ◌<◌}
use native.Mathlib.Nat.{mul-one, mul_assoc, mul_right_comm, mul-pos, mul-mul-mul_comm, le_of_lt, le_of_mul-le-mul_right, add-mul, mul-div_cancel, mul-mod_left, zero-lt-suc, div-add-mod', add-zero}
use native.Mathlib.Omega.{arith}
use mathlib.Core.Bool.{Bool, true, false, not, ◌&&◌, beq, cond}
use lib.Dec.{T, ltb, ltb→lt, nltb→le, eqb→eq}
use lib.IntN.{ℤ, nat_abs, ◌+ℤ◌, ◌*ℤ◌}
use lib.Ieee.{Float, nan, inf, fin, Format, prec, emax, unlike, up, down, round, sum, add, mul}
use lib.Ieee.Fits.{down_pos, eq→eqb}
use lib.Ieee.Exact.{HasValue}
use lib.Ieee.Back.{round_whole}
use lib.Ieee.Scale.{round_same}
use Rattle.sums.specs.Whole.{is_whole, value, distance}
use Rattle.sums.proofs.Integers.{distance_signed, abs_signed, signed, signed_times, same_parts, plus_parts, minus_parts}
use Rattle.sums.proofs.Round.{round_near, sub_times}

-- ---- a whole number is a sign and a magnitude
whole_of : (x : Float) (s : Bool) (a : ℕ) → HasValue x s a 1 → T (is_whole x) × (value x ≡ signed s a)
unfolding is_whole value
whole_of nan s a h = absurd h
whole_of (inf t) s a h = absurd h
whole_of (fin t m e) s a h =
    let q : m * up e ≡ a * down e = sym (mul-one (m * up e)) ∙ h.1 in
    let d : m * up e / down e ≡ a = ap (λ (x : ℕ). x / down e) q ∙ mul-div_cancel a (down_pos e) in
    (eq→eqb (ap (λ (x : ℕ). x % down e) q ∙ mul-mod_left a (down e)), rw (d, h.0))

of_whole : (x : Float) → T (is_whole x) → (s : Bool) × (a : ℕ) × HasValue x s a 1
unfolding is_whole
of_whole nan h = absurd h
of_whole (inf t) h = absurd h
of_whole (fin t m e) h =
    (t, m * up e / down e, (refl, mul-one (m * up e) ∙ sym (div-add-mod' (m * up e) (down e)) ∙ ap (λ (x : ℕ). m * up e / down e * down e + x) (eqb→eq (m * up e % down e) 0 h) ∙ add-zero (m * up e / down e * down e)))

-- ---- the product
mul_is : (f : Format) (x y : Float) (s t : Bool) (a b : ℕ) → HasValue x s a 1 → HasValue y t b 1 → mul f x y ≡ round f (unlike s t) (a * b) 1
unfolding mul
mul_is f nan y s t a b h k = absurd h
mul_is f (inf u) y s t a b h k = absurd h
mul_is f (fin u m e) nan s t a b h k = absurd k
mul_is f (fin u m e) (inf v) s t a b h k = absurd k
mul_is f (fin u m e) (fin v n d) s t a b h k =
    let p : m * up e ≡ a * down e = sym (mul-one (m * up e)) ∙ h.1 in
    let q : n * up d ≡ b * down d = sym (mul-one (n * up d)) ∙ k.1 in
    rw (h.0, k.0) (round_same f (unlike s t) (m * up e * (n * up d)) (down e * down d) (a * b) 1 (mul-pos (down_pos e) (down_pos d)) (zero-lt-suc 0)
    (rw (mul-one, p, q) (mul-mul-mul_comm a (down e) b (down d))))

-- ---- the sum of two signed magnitudes
signed_same : (s : Bool) (a b : ℕ) → signed s a +ℤ signed s b ≡ signed s (a + b)
signed_same false a b = refl
signed_same true a b = same_parts _ _ (omega (arith, plus_parts (signed true a) (signed true b), minus_parts a, minus_parts b, minus_parts (a + b)))

signed_less : (s : Bool) (a b : ℕ) → a ≤ b → signed s a +ℤ signed (not s) b ≡ signed (not s) (b - a)
signed_less false a b h = same_parts _ _ (omega (arith, plus_parts (signed false a) (signed true b), minus_parts b, minus_parts (b - a)))
signed_less true a b h = same_parts _ _ (omega (arith, plus_parts (signed true a) (signed false b), minus_parts a))

signed_more : (s : Bool) (a b : ℕ) → b ≤ a → signed s a +ℤ signed (not s) b ≡ signed s (a - b)
signed_more false a b h = same_parts _ _ (omega (arith, plus_parts (signed false a) (signed true b), minus_parts b))
signed_more true a b h = same_parts _ _ (omega (arith, plus_parts (signed true a) (signed false b), minus_parts a, minus_parts (a - b)))

-- a sum of two fractions over c is the rounding of the whole number that it is
abbrev Sums : Format → Bool → ℕ → Bool → ℕ → ℕ → Type 0
Sums f s a t b c = (u : Bool) × (n : ℕ) × (sum f s (a * c) t (b * c) c ≡ round f u n 1) × (signed s a +ℤ signed t b ≡ signed u n)

scaled_sub : (a b c : ℕ) → (b * c - a * c) * 1 ≡ (b - a) * c
scaled_sub a b c = mul-one (b * c - a * c) ∙ sym (sub_times a b c)

sum_unlike : (f : Format) (s : Bool) (a b c : ℕ) → 0 < c → Sums f s a (not s) b c
unfolding sum
sum_unlike f s a b c C = go s (ltb (a * c) (b * c)) (ltb (b * c) (a * c)) (ltb→lt (a * c) (b * c)) (nltb→le (a * c) (b * c)) (nltb→le (b * c) (a * c))
  where
    go : (s p q : Bool) → (T p → a * c < b * c) → (T (not p) → b * c ≤ a * c) → (T (not q) → a * c ≤ b * c)
        → (u : Bool) × (n : ℕ) × (cond (beq s (not s)) (round f s (a * c + b * c) c) (cond p (round f (not s) (b * c - a * c) c) (round f (s && q) (a * c - b * c) c)) ≡ round f u n 1) × (signed s a +ℤ signed (not s) b ≡ signed u n)
    go false true q h k l = (true, b - a, round_same f true (b * c - a * c) c (b - a) 1 C (zero-lt-suc 0) (scaled_sub a b c), signed_less false a b (le_of_mul-le-mul_right (le_of_lt (h tt)) C))
    go true true q h k l = (false, b - a, round_same f false (b * c - a * c) c (b - a) 1 C (zero-lt-suc 0) (scaled_sub a b c), signed_less true a b (le_of_mul-le-mul_right (le_of_lt (h tt)) C))
    go false false q h k l = (false, a - b, round_same f false (a * c - b * c) c (a - b) 1 C (zero-lt-suc 0) (scaled_sub b a c), signed_more false a b (le_of_mul-le-mul_right (k tt) C))
    go true false true h k l = (true, a - b, round_same f true (a * c - b * c) c (a - b) 1 C (zero-lt-suc 0) (scaled_sub b a c), signed_more true a b (le_of_mul-le-mul_right (k tt) C))
    go true false false h k l =
        let e : a ≤ b = le_of_mul-le-mul_right (l tt) C in
        let g : b ≤ a = le_of_mul-le-mul_right (k tt) C in
        (false, a - b, round_same f false (a * c - b * c) c (a - b) 1 C (zero-lt-suc 0) (scaled_sub b a c), signed_less true a b e ∙ ap (signed false) (omega arith))

sum_like : (f : Format) (s : Bool) (a b c : ℕ) → 0 < c → Sums f s a s b c
unfolding sum
sum_like f false a b c C = (false, a + b, round_same f false (a * c + b * c) c (a + b) 1 C (zero-lt-suc 0) (mul-one (a * c + b * c) ∙ sym (add-mul a b c)), signed_same false a b)
sum_like f true a b c C = (true, a + b, round_same f true (a * c + b * c) c (a + b) 1 C (zero-lt-suc 0) (mul-one (a * c + b * c) ∙ sym (add-mul a b c)), signed_same true a b)

sum_is : (f : Format) (s t : Bool) (a b c : ℕ) → 0 < c → Sums f s a t b c
sum_is f false false a b c C = sum_like f false a b c C
sum_is f false true a b c C = sum_unlike f false a b c C
sum_is f true false a b c C = sum_unlike f true a b c C
sum_is f true true a b c C = sum_like f true a b c C

add_is : (f : Format) (x y : Float) (s t : Bool) (a b : ℕ) → HasValue x s a 1 → HasValue y t b 1 → (u : Bool) × (n : ℕ) × (add f x y ≡ round f u n 1) × (signed s a +ℤ signed t b ≡ signed u n)
unfolding add
add_is f nan y s t a b h k = absurd h
add_is f (inf u) y s t a b h k = absurd h
add_is f (fin u m e) nan s t a b h k = absurd k
add_is f (fin u m e) (inf v) s t a b h k = absurd k
add_is f (fin u m e) (fin v n d) s t a b h k =
    let p : m * up e * down d ≡ a * (down e * down d) = ap (λ (x : ℕ). x * down d) (sym (mul-one (m * up e)) ∙ h.1) ∙ mul_assoc a (down e) (down d) in
    let q : n * up d * down e ≡ b * (down e * down d) = ap (λ (x : ℕ). x * down e) (sym (mul-one (n * up d)) ∙ k.1) ∙ mul_right_comm b (down d) (down e) ∙ mul_assoc b (down e) (down d) in
    let r = sum_is f s t a b (down e * down d) (mul-pos (down_pos e) (down_pos d)) in
    (r.0, r.1, rw (h.0, k.0, p, q) r.2, r.3)

-- ---- the two operations on whole numbers
pub times : (f : Format) (x y : Float) → T (is_whole x) → T (is_whole y) → nat_abs (value x *ℤ value y) ≤ 2 ^ prec f → T (is_whole (mul f x y)) × (value (mul f x y) ≡ value x *ℤ value y)
times f x y h k l =
    let p = of_whole x h in
    let q = of_whole y k in
    let e : signed (unlike p.0 q.0) (p.1 * q.1) ≡ value x *ℤ value y = signed_times p.0 q.0 p.1 q.1 ∙ cc ((whole_of x p.0 p.1 p.2).1, (whole_of y q.0 q.1 q.2).1) in
    let m = p.1 * q.1 in
    let b : m ≤ 2 ^ prec f = subst (λ (n : ℕ). n ≤ 2 ^ prec f) (ap nat_abs (sym e) ∙ abs_signed (unlike p.0 q.0) m) l in
    let r = whole_of (round f (unlike p.0 q.0) m 1) (unlike p.0 q.0) m (round_whole f (unlike p.0 q.0) m b) in
    rw (mul_is f x y p.0 q.0 p.1 q.1 p.2 q.2) (r.0, r.1 ∙ e)

-- w is v rounded to p digits
pub record RoundsTo (p : ℕ) (v w : ℤ) : Type 0 where
  pub near : distance w v * 2 ^ p ≤ nat_abs v
  pub same : nat_abs v ≤ 2 ^ p → w ≡ v

apart : (n w c : ℕ) → w * c ≤ n * c + n → n * c ≤ w * c + n → (w - n + (n - w)) * c ≤ n
apart n w c h k = rw (add-mul, sub_times n w c, sub_times w n c) (omega arith)

round_to : (f : Format) (u : Bool) (n : ℕ) → n + n < 2 ^ suc (emax f) → T (is_whole (round f u n 1)) × RoundsTo (prec f) (signed u n) (value (round f u n 1))
round_to f u n o =
    let c = round_near f u n o in
    let w = c.0 in
    let r = whole_of (round f u n 1) u w c.1 in
    (r.0, rw r.1 (record { near = rw (distance_signed u w n, abs_signed u n) (apart n w (2 ^ prec f) c.2.above c.2.below); same = λ l. ap (signed u) (c.2.same (rw (abs_signed u n) at l)) }))

pub plus : (f : Format) (x y : Float) → T (is_whole x) → T (is_whole y) → nat_abs (value x +ℤ value y) + nat_abs (value x +ℤ value y) < 2 ^ suc (emax f) → T (is_whole (add f x y)) × RoundsTo (prec f) (value x +ℤ value y) (value (add f x y))
plus f x y h k l =
    let p = of_whole x h in
    let q = of_whole y k in
    let r = add_is f x y p.0 q.0 p.1 q.1 p.2 q.2 in
    let e : value x +ℤ value y ≡ signed r.0 r.1 = cc ((whole_of x p.0 p.1 p.2).1, (whole_of y q.0 q.1 q.2).1, r.3) in
    let g : nat_abs (value x +ℤ value y) ≡ r.1 = ap nat_abs e ∙ abs_signed r.0 r.1 in
    rw (r.2, e) (round_to f r.0 r.1 (omega arith))
