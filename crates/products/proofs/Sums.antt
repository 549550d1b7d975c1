-- Laws of a sum of numbers, by induction on how many there are: terms that agree, two sums in either order, and a sum of products over a row-major number.
use mathlib.Core.Path.{◌≡◌, refl, sym, ap, ap₂, ◌∙◌}
use Prim.Native.Nat.{ℕ, zero, suc, ◌+◌, ◌*◌, ◌/◌, ◌%◌, ◌≤◌, ◌<◌}
use native.Mathlib.Nat.{add-zero, add-suc, zero-mul, suc-mul, mul-zero, mul-add, add-mul}
use native.Mathlib.Omega.{arith}
use Rattle.layer.proofs.Places.{place_div, place_mod}
use Rattle.products.specs.Pairs.{sum_below}

pub sum_none : (f : ℕ → ℕ) → sum_below 0 f ≡ 0
unfolding sum_below
sum_none f = refl

pub sum_more : (n : ℕ) (f : ℕ → ℕ) → sum_below (suc n) f ≡ sum_below n f + f n
unfolding sum_below
sum_more n f = refl

-- terms that agree below n
pub sum_same : (n : ℕ) (f g : ℕ → ℕ) → ((i : ℕ) → i < n → f i ≡ g i) → sum_below n f ≡ sum_below n g
unfolding sum_below
sum_same zero f g h = refl
sum_same (suc n) f g h = ap₂ (λ (a b : ℕ). a + b) (sum_same n f g (λ i l. h i (omega arith))) (h n (omega arith))

-- terms of at most c, and of c each
pub sum_most : (n c : ℕ) (f : ℕ → ℕ) → ((i : ℕ) → i < n → f i ≤ c) → sum_below n f ≤ n * c
unfolding sum_below
sum_most zero c f h = omega arith
sum_most (suc n) c f h = omega (arith, sum_most n c f (λ i l. h i (omega arith)), h n (omega arith), suc-mul n c)

pub sum_each : (n c : ℕ) → sum_below n (λ i. c) ≡ n * c
unfolding sum_below
sum_each zero c = sym (zero-mul c)
sum_each (suc n) c = ap (λ (a : ℕ). a + c) (sum_each n c) ∙ sym (suc-mul n c)

-- a factor of every term comes out
pub sum_times : (n c : ℕ) (f : ℕ → ℕ) → sum_below n (λ i. c * f i) ≡ c * sum_below n f
unfolding sum_below
sum_times zero c f = sym (mul-zero c)
sum_times (suc n) c f = ap (λ (a : ℕ). a + c * f n) (sum_times n c f) ∙ sym (mul-add c (sum_below n f) (f n))

-- ---- two sums in either order
sum_add : (n : ℕ) (f g : ℕ → ℕ) → sum_below n (λ i. f i + g i) ≡ sum_below n f + sum_below n g
unfolding sum_below
sum_add zero f g = refl
sum_add (suc n) f g = omega (arith, sum_add n f g)

pub sum_swap : (n m : ℕ) (f : ℕ → ℕ → ℕ) → sum_below n (λ i. sum_below m (f i)) ≡ sum_below m (λ j. sum_below n (λ i. f i j))
unfolding sum_below
sum_swap zero m f = sym (sum_each m 0 ∙ mul-zero m)
sum_swap (suc n) m f = ap (λ (a : ℕ). a + sum_below m (f n)) (sum_swap n m f) ∙ sym (sum_add m (λ j. sum_below n (λ i. f i j)) (f n))

-- ---- a sum of products: number p below n·m is the pair (p / m, p % m), "Row-major, last axis fastest."
sum_append : (n m : ℕ) (f : ℕ → ℕ) → sum_below (n + m) f ≡ sum_below n f + sum_below m (λ j. f (n + j))
unfolding sum_below
sum_append n zero f = rw (add-zero n, add-zero (sum_below n f))
sum_append n (suc m) f = rw (add-suc n m) (omega (arith, sum_append n m f))

pub sum_product : (n m : ℕ) (f g : ℕ → ℕ) → sum_below (n * m) (λ p. f (p / m) * g (p % m)) ≡ sum_below n f * sum_below m g
sum_product zero m f g = rw (zero-mul m, sum_none f) (sum_none _ ∙ sym (zero-mul (sum_below m g)))
sum_product (suc n) m f g =
    rw (suc-mul n m)
    (sum_append (n * m) m (λ p. f (p / m) * g (p % m))
    ∙ ap₂ (λ (a b : ℕ). a + b) (sum_product n m f g)
    (sum_same m _ (λ j. f n * g j) (λ j h. ap₂ (λ (a b : ℕ). f a * g b) (place_div n h) (place_mod n h)) ∙ sum_times m (f n) g)
    ∙ sym (ap (λ (a : ℕ). a * sum_below m g) (sum_more n f) ∙ add-mul (sum_below n f) (f n) (sum_below m g)))
