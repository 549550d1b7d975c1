-- The rounding errors of a sum of n taps add up to at most (n - 1) * (n + 2) / 2: an addition that makes a sum of j taps adds at most j, and the first tap adds
-- none. By induction on n.
use mathlib.Core.Path.{◌≡◌, refl, sym, ap, ◌∙◌}
use Prim.Native.Nat.{ℕ, zero, suc, ◌+◌, ◌-◌, ◌*◌, ◌/◌, ◌≤◌}
use native.Mathlib.Nat.{mul-add, suc-mul, mul-div_cancel, zero-lt-suc}
use native.Mathlib.Omega.{arith}

unfoldable pub errors : ℕ → ℕ
errors zero = 0
errors (suc zero) = 0
errors (suc (suc n)) = errors (suc n) + suc (suc n)

two_errors : (a b n : ℕ) → n ≡ a + b → errors (suc a) + errors (suc b) + (a + b + 2) ≤ errors (suc (suc n))
unfolding errors
two_errors a zero n e = let f : errors (suc n) ≡ errors (suc a) = ap (λ (x : ℕ). errors (suc x)) {x = n} {y = a} (omega arith) in omega arith
two_errors a (suc b) zero e = absurd (omega arith)
two_errors a (suc b) (suc n) e = omega (arith, two_errors a b n (omega arith))

-- an addition that makes a sum of n taps from sums of a and b taps moves it by d, at most n; after no tap it does not round
pub errors_plus : (a b n d : ℕ) → n ≡ a + b → 1 ≤ b → (a ≡ 0 → d ≡ 0) → d ≤ n → d + (errors a + errors b) ≤ errors n
unfolding errors
errors_plus zero b n d e s z h =
    let o : d ≡ 0 = z refl in
    let f : errors n ≡ errors b = ap errors {x = n} {y = b} (omega arith) in
    omega arith
errors_plus (suc a) zero n d e s z h = absurd (omega arith)
errors_plus (suc a) (suc b) zero d e s z h = absurd (omega arith)
errors_plus (suc a) (suc b) (suc zero) d e s z h = absurd (omega arith)
errors_plus (suc a) (suc b) (suc (suc n)) d e s z h = omega (arith, two_errors a b n (omega arith))

pub errors_le : (n : ℕ) → 1 ≤ n → n ≤ 4096 → errors n + 4096 ≤ n * 4096
unfolding errors
errors_le zero s h = absurd (omega arith)
errors_le (suc zero) s h = omega arith
errors_le (suc (suc n)) s h = omega (arith, errors_le (suc n) (omega arith) (omega arith))

equal_times : (a b c d : ℕ) → a ≡ b → c ≡ d → a * c ≡ b * d
equal_times a b c d p q = cc

errors_twice : (n : ℕ) → errors n * 2 ≡ (n - 1) * (n + 2)
unfolding errors
errors_twice zero = omega arith
errors_twice (suc zero) = omega arith
errors_twice (suc (suc n)) =
    let a : (suc n - 1) * (suc n + 2) ≡ n * (n + 3) = equal_times (suc n - 1) n (suc n + 2) (n + 3) (omega arith) (omega arith) in
    let b : (suc (suc n) - 1) * (suc (suc n) + 2) ≡ suc n * (n + 4) = equal_times (suc (suc n) - 1) (suc n) (suc (suc n) + 2) (n + 4) (omega arith) (omega arith) in
    omega (arith, errors_twice (suc n), mul-add n n 3, mul-add n n 4, suc-mul n (n + 4))

pub errors_is : (n : ℕ) → errors n ≡ (n - 1) * (n + 2) / 2
errors_is n = sym (ap (λ (x : ℕ). x / 2) (sym (errors_twice n)) ∙ mul-div_cancel (errors n) (zero-lt-suc 1))
