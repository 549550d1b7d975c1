-- Laws of row-major numbers: place b of part a, of n parts of m places each, is number a·m + b.
use mathlib.Core.Path.{◌≡◌, ap, ◌∙◌}
use Prim.Native.Nat.{ℕ, zero, suc, ◌+◌, ◌*◌, ◌/◌, ◌%◌, ◌≤◌, ◌<◌}
use native.Mathlib.Nat.{zero-lt-suc, not-suc-le-zero, add-zero, mul-zero, suc-mul, mul-le-mul_right}
use native.Mathlib.Nat.{mul-add-div_right, mul-add-mod_self_right, div-eq_of_lt, mod-eq_of_lt, mod-lt, div-lt_iff_lt-mul}
use native.Mathlib.Omega.{arith}

-- the whole of part a is below n parts
pub part_within : {a n : ℕ} (m : ℕ) → a < n → a * m + m ≤ n * m
part_within {a} {n} m h = rw suc-mul at (mul-le-mul_right m h)

pub place_within : {a n b m : ℕ} → a < n → b < m → a * m + b < n * m
place_within {a} {n} {b} {m} h k = omega (arith, part_within m h)

pub place_div : (a : ℕ) {b m : ℕ} → b < m → (a * m + b) / m ≡ a
place_div a {b} {m} h = mul-add-div_right (omega arith) a b ∙ ap (λ q. a + q) (div-eq_of_lt h) ∙ add-zero a

pub place_mod : (a : ℕ) {b m : ℕ} → b < m → (a * m + b) % m ≡ b
place_mod a {b} {m} h = mul-add-mod_self_right a m b ∙ mod-eq_of_lt h

-- ---- a number below n parts of m places

size_pos : (n m : ℕ) {p : ℕ} → p < n * m → 0 < m
size_pos n zero h = absurd (not-suc-le-zero (rw mul-zero at h))
size_pos n (suc m) h = zero-lt-suc m

pub div_within : (n m : ℕ) {p : ℕ} → p < n * m → p / m < n
div_within n m h = (div-lt_iff_lt-mul (size_pos n m h)).1 h

pub mod_within : (n m : ℕ) {p : ℕ} → p < n * m → p % m < m
mod_within n m {p} h = mod-lt p (size_pos n m h)
