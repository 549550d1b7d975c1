-- The values that a format holds: each is a multiple of the smallest value, is given by its sign and size, and rounds to itself.
use mathlib.Core.Path.{◌≡◌, refl, sym, ap, ◌∙◌}
use Prim.Native.Nat.{ℕ, zero, suc, ◌+◌, ◌-◌, ◌*◌, ◌/◌, ◌%◌, ◌^◌, ◌≤◌, ◌<◌}
use native.Mathlib.Nat.{mul-one, zero-mul, mul_assoc, mul_comm, mul_right_comm, zero-lt-suc, lt_of_lt_of_le, lt_of_not-le, not-le_of_lt, le_of_suc-le-suc, mul-lt-mul_of_pos_right}
use native.Mathlib.Omega.{arith}
use mathlib.Core.Bool.{Bool, ◌&&◌, cond}
use lib.Dec.{T, ltb, leb, eqb, ltb→lt, leb→le}
use lib.Pow.{pow-add, pow_pos, pow_mono, pow-lt, shl_lt}
use lib.IntN.{ℤ, pos, negsuc}
use lib.Ieee.{Float, nan, inf, fin, Format, prec, emax, low, up, down, size, round, fits, top, hid, to_bits, of_bits}
use lib.Ieee.Bits.{of_bits-to_bits}
use lib.Ieee.Digits.{back}
use lib.Ieee.Fits.{round-fits, reach, and_l, and_r, down_pos}
use lib.Ieee.Exact.{HasValue, round_exact}
use lib.Ieee.Nearest.{div_same}

-- ---- a value that fits is a multiple of the smallest value
less : (a b : ℕ) → 2 ^ a ≤ 2 ^ b → a ≤ b
less a b h = le_of_suc-le-suc (lt_of_not-le (λ (g : suc b ≤ a). not-le_of_lt (pow-lt g) h))

four : (a b c d : Bool) → T (a && b && c && d) → T a × T b × T c × T d
four a b c d h = (and_l a b (and_l (a && b) c (and_l (a && b && c) d h)), and_r a b (and_l (a && b) c (and_l (a && b && c) d h)), and_r (a && b) c (and_l (a && b && c) d h), and_r (a && b && c) d h)

-- what `fits` says of a value that is not zero
fits_says : (f : Format) (s : Bool) (m : ℕ) (e : ℤ) → T (fits f (fin s (suc m) e)) → (suc m < 2 ^ prec f) × (down e ≤ 2 ^ low f) × (suc m * up e < 2 ^ suc (emax f) * down e)
unfolding fits
fits_says f s m e h =
    let q = four (eqb (suc m % 2) 1) (ltb (suc m) (2 ^ prec f)) (leb (down e) (2 ^ low f)) (ltb (suc m * up e) (2 ^ suc (emax f) * down e)) h in
    (ltb→lt (suc m) (2 ^ prec f) q.1, leb→le (down e) (2 ^ low f) q.2, ltb→lt (suc m * up e) (2 ^ suc (emax f) * down e) q.3)

shift_down : (m k l : ℕ) → k ≤ l → m * 1 * 2 ^ l ≡ m * 2 ^ (l - k) * 2 ^ k
shift_down m k l h = ap (λ (x : ℕ). x * 2 ^ l) (mul-one m) ∙ ap (λ (x : ℕ). m * 2 ^ x) (sym (back l k h)) ∙ ap (λ (x : ℕ). m * x) (pow-add 2 (l - k) k) ∙ sym (mul_assoc m (2 ^ (l - k)) (2 ^ k))

pub multiple : (f : Format) (s : Bool) (m : ℕ) (e : ℤ) → T (fits f (fin s m e)) → (a : ℕ) × (m * up e * 2 ^ low f ≡ a * down e)
multiple f s zero e h = (0, ap (λ (x : ℕ). x * 2 ^ low f) (zero-mul (up e)) ∙ zero-mul (2 ^ low f) ∙ sym (zero-mul (down e)))
multiple f s (suc m) (pos k) h = (suc m * 2 ^ k * 2 ^ low f, sym (mul-one (suc m * 2 ^ k * 2 ^ low f)))
multiple f s (suc m) (negsuc k) h =
    let l : suc k ≤ low f = less (suc k) (low f) (fits_says f s m (negsuc k) h).1 in
    (suc m * 2 ^ (low f - suc k), shift_down (suc m) (suc k) (low f) l)

-- ---- two values that fit are the same where they have the same sign and size
bits : Format → Bool → ℕ → ℕ
bits f s n = cond s (top f) 0 + (size n - prec f) * hid f + n / 2 ^ (size n - prec f)

bits_of : (f : Format) (x : Float) (s : Bool) (a c : ℕ) → 0 < c → HasValue x s a c → to_bits f x ≡ bits f s (a * 2 ^ low f / c)
unfolding to_bits bits
bits_of f nan s a c C h = absurd h
bits_of f (inf t) s a c C h = absurd h
bits_of f (fin t m e) s a c C h =
    let q : m * up e * 2 ^ low f / down e ≡ a * 2 ^ low f / c =
    div_same (m * up e * 2 ^ low f) (down e) (a * 2 ^ low f) c (down_pos e) C (mul_right_comm (m * up e) (2 ^ low f) c ∙ ap (λ (x : ℕ). x * 2 ^ low f) h.1 ∙ mul_right_comm a (down e) (2 ^ low f)) in
    rw (q, h.0)

pub unique : (f : Format) (x y : Float) (s : Bool) (a c : ℕ) → 0 < c → T (fits f x) → T (fits f y) → HasValue x s a c → HasValue y s a c → x ≡ y
unique f x y s a c C p q h k = sym (of_bits-to_bits f x p) ∙ ap (of_bits f) (bits_of f x s a c C h ∙ sym (bits_of f y s a c C k)) ∙ of_bits-to_bits f y q

-- ---- a value that fits rounds to itself
fine : (f : Format) (m j : ℕ) → m < 2 ^ prec f → j ≤ low f → m * 2 ^ j < 2 ^ (low f + suc (emax f))
fine f m j h l = lt_of_lt_of_le (shl_lt (prec f) j h) (pow_mono (fit (prec f) j (low f) (suc (emax f)) l (reach f)))
  where
    fit : (p j l e : ℕ) → j ≤ l → p ≤ e → p + j ≤ l + e
    fit p j l e a b = omega arith

self_value : (f : Format) (s : Bool) (m : ℕ) (e : ℤ) → T (fits f (fin s m e)) → HasValue (round f s (m * up e) (down e)) s (m * up e) (down e)
self_value f s zero e h = round_exact f s (0 * up e) (down e) 0 0 (down_pos e) (pow_pos (prec f)) (pow_pos (low f + suc (emax f))) (rw (zero-mul (up e), zero-mul (2 ^ low f), zero-mul (down e)))
self_value f s (suc m) (pos k) h =
    let q = fits_says f s m (pos k) h in
    let e : suc m * 2 ^ (k + low f) ≡ suc m * 2 ^ k * 2 ^ low f = rw (pow-add 2 k (low f), mul_assoc) in
    round_exact f s (suc m * 2 ^ k) 1 (suc m) (k + low f) (zero-lt-suc 0) q.0
    (rw (e, pow-add 2 (low f) (suc (emax f)), mul_comm (2 ^ low f) (2 ^ suc (emax f))) (mul-lt-mul_of_pos_right (rw mul-one at q.2) (pow_pos (low f))))
    (sym e ∙ sym (mul-one (suc m * 2 ^ (k + low f))))
self_value f s (suc m) (negsuc k) h =
    let q = fits_says f s m (negsuc k) h in
    let l : suc k ≤ low f = less (suc k) (low f) q.1 in
    round_exact f s (suc m * 1) (2 ^ suc k) (suc m) (low f - suc k) (pow_pos (suc k)) q.0 (fine f (suc m) (low f - suc k) q.0 (omega arith)) (shift_down (suc m) (suc k) (low f) l)

pub round_self : (f : Format) (s : Bool) (m : ℕ) (e : ℤ) → T (fits f (fin s m e)) → round f s (m * up e) (down e) ≡ fin s m e
round_self f s m e h = unique f (round f s (m * up e) (down e)) (fin s m e) s (m * up e) (down e) (down_pos e) (round-fits f s (m * up e) (down e)) h (self_value f s m e h) (refl, refl)
