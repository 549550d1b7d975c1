-- Laws of "some number below n".
use Prim.Native.Nat.{ℕ, zero, suc, ◌+◌, ◌*◌, ◌/◌, ◌%◌, ◌≤◌, ◌<◌}
use native.Mathlib.Nat.{add-zero, add-suc, zero-mul, suc-mul}
use native.Mathlib.Omega.{arith}
use native.Mathlib.Decide.{dec_lt}
use mathlib.Core.Path.{◌≡◌, refl, sym, ap, ap₂, ◌∙◌, fun_ext}
use mathlib.Core.Bool.{Bool, true, false, ◌&&◌, ◌||◌}
use Rattle.layer.proofs.Tests.{or_true, or_false, or_assoc, and_true, and_false}
use Rattle.layer.proofs.Places.{place_div, place_mod}
use Rattle.taps.specs.Taps.{any_below}

pub any_none : (n : ℕ) (f : ℕ → Bool) → ((i : ℕ) → i < n → f i ≡ false) → any_below n f ≡ false
unfolding any_below
any_none zero f h = refl
any_none (suc n) f h = rw (any_none n f (λ i p. h i (omega arith)), h n (omega arith))

pub any_some : (n : ℕ) (f : ℕ → Bool) (i : ℕ) → i < n → f i ≡ true → any_below n f ≡ true
unfolding any_below
any_some zero f i p h = absurd (omega arith)
any_some (suc n) f i p h = go (λ q. any_some n f i q h) (dec_lt i n)
  where
    go : (i < n → any_below n f ≡ true) → Dec (i < n) → any_below n f || f n ≡ true
    go ih (yes q) = rw (ih q)
    go ih (no q) = let e : n ≡ i = omega arith in rw (e, h) (or_true (any_below i f))

pub any_ext : (n : ℕ) (f g : ℕ → Bool) → ((i : ℕ) → f i ≡ g i) → any_below n f ≡ any_below n g
any_ext n f g h = ap (any_below n) (fun_ext h)

-- so for tests that agree below n
pub any_below_ext : (n : ℕ) (f g : ℕ → Bool) → ((i : ℕ) → i < n → f i ≡ g i) → any_below n f ≡ any_below n g
unfolding any_below
any_below_ext zero f g h = refl
any_below_ext (suc n) f g h = ap₂ (λ (a b : Bool). a || b) (any_below_ext n f g (λ i p. h i (omega arith))) (h n (omega arith))

-- a test that does not depend on the number comes out
pub any_and_l : (n : ℕ) (g : ℕ → Bool) (b : Bool) → any_below n (λ j. b && g j) ≡ b && any_below n g
any_and_l n g true = refl
any_and_l n g false = any_none n (λ j. false) (λ i p. refl)

pub any_and_r : (m : ℕ) (f : ℕ → Bool) (b : Bool) → any_below m (λ i. f i && b) ≡ any_below m f && b
any_and_r m f true = any_ext m (λ i. f i && true) f (λ i. and_true (f i)) ∙ sym (and_true (any_below m f))
any_and_r m f false = any_none m (λ i. f i && false) (λ i p. and_false (f i)) ∙ sym (and_false (any_below m f))

pub any_or_l : (n : ℕ) (g : ℕ → Bool) (b : Bool) → 1 ≤ n → any_below n (λ j. b || g j) ≡ b || any_below n g
any_or_l n g true h = any_some n (λ j. true) 0 h refl
any_or_l n g false h = refl

pub any_or_r : (m : ℕ) (f : ℕ → Bool) (b : Bool) → 1 ≤ m → any_below m (λ i. f i || b) ≡ any_below m f || b
any_or_r m f true h = any_some m (λ i. f i || true) 0 h (or_true (f 0)) ∙ sym (or_true (any_below m f))
any_or_r m f false h = any_ext m (λ i. f i || false) f (λ i. or_false (f i)) ∙ sym (or_false (any_below m f))

-- ---- numbers below n·m are pairs of numbers below n and below m, "Row-major, last axis fastest."
any_append : (n m : ℕ) (f : ℕ → Bool) → any_below (n + m) f ≡ any_below n f || any_below m (λ j. f (n + j))
unfolding any_below
any_append n zero f = rw add-zero (sym (or_false (any_below n f)))
any_append n (suc m) f = rw (add-suc, any_append n m f) (or_assoc (any_below n f) (any_below m (λ j. f (n + j))) (f (n + m)))

pub any_grid : (n m : ℕ) (f : ℕ → ℕ → Bool) → any_below (n * m) (λ p. f (p / m) (p % m)) ≡ any_below n (λ i. any_below m (f i))
unfolding any_below
any_grid zero m f = rw (zero-mul m)
any_grid (suc n) m f =
    rw (suc-mul n m)
    (any_append (n * m) m (λ p. f (p / m) (p % m))
    ∙ ap₂ (λ (a b : Bool). a || b) (any_grid n m f)
    (any_below_ext m _ (f n) (λ j h. ap₂ f (place_div n h) (place_mod n h))))
