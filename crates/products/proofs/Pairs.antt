-- Laws of pairs that pass a test: at most all of them, in either order, over a range of taps, and two axes as one: the pairs of both are those of each multiplied.
use mathlib.Core.Path.{◌≡◌, refl, sym, ap, ◌∙◌}
use mathlib.Core.Bool.{Bool, true, false, ◌&&◌}
use Prim.Native.Nat.{ℕ, zero, suc, ◌+◌, ◌-◌, ◌*◌, ◌/◌, ◌%◌, ◌≤◌, ◌<◌, min}
use native.Mathlib.Nat.{mul-one, zero-mul}
use native.Mathlib.Decide.{dec_lt, dec_le}
use native.Mathlib.Omega.{arith}
use Rattle.taps.specs.Taps.{Exactly}
use Rattle.taps.proofs.Exact.{exactly_in, exactly_end, exactly_before, exactly_behind}
use Rattle.products.specs.Pairs.{one, count_below, pairs_below}
use Rattle.products.proofs.Sums.{sum_none, sum_more, sum_same, sum_most, sum_each, sum_swap, sum_product}

one_most : (b : Bool) → one b ≤ 1
one_most true = omega arith
one_most false = omega arith

one_both : (a b : Bool) → one (a && b) ≡ one a * one b
one_both true true = refl
one_both true false = refl
one_both false b = sym (zero-mul (one b))

-- ---- at most all
pub count_most : (n : ℕ) (test : ℕ → Bool) → count_below n test ≤ n
count_most n test = rw mul-one at (sum_most n 1 (λ i. one (test i)) (λ i l. one_most (test i)))

pub pairs_most : (n k : ℕ) (test : ℕ → ℕ → Bool) → pairs_below n k test ≤ n * k
pairs_most n k test = sum_most n k _ (λ j l. count_most k (test j))

-- all, where every pair passes
pub pairs_all : (n k : ℕ) (test : ℕ → ℕ → Bool) → ((j t : ℕ) → j < n → t < k → test j t ≡ true) → pairs_below n k test ≡ n * k
pairs_all n k test h =
    sum_same n _ (λ j. k) (λ j l. sum_same k _ (λ t. 1) (λ t m. ap one (h j t l m)) ∙ sum_each k 1 ∙ mul-one k) ∙ sum_each n k

-- tests that agree
pub pairs_same : (n k : ℕ) (f g : ℕ → ℕ → Bool) → ((j t : ℕ) → j < n → t < k → f j t ≡ g j t) → pairs_below n k f ≡ pairs_below n k g
pairs_same n k f g h = sum_same n _ _ (λ j l. sum_same k _ _ (λ t m. ap one (h j t l m)))

-- ---- either number first
pub pairs_turned : (n k : ℕ) (test : ℕ → ℕ → Bool) → pairs_below n k test ≡ pairs_below k n (λ t j. test j t)
pairs_turned n k test = sum_swap n k (λ j t. one (test j t))

-- ---- two axes as one, n positions and k taps of the outer, m positions and l taps of the inner
pub pairs_grid : (n k m l : ℕ) (f g : ℕ → ℕ → Bool)
    → pairs_below (n * m) (k * l) (λ p t. f (p / m) (t / l) && g (p % m) (t % l)) ≡ pairs_below n k f * pairs_below m l g
pairs_grid n k m l f g =
    sum_same (n * m) _ (λ p. count_below k (f (p / m)) * count_below l (g (p % m))) (λ p h.
    sum_same (k * l) _ _ (λ t u. one_both (f (p / m) (t / l)) (g (p % m) (t % l)))
    ∙ sum_product k l (λ t. one (f (p / m) t)) (λ t. one (g (p % m) t)))
    ∙ sum_product n m (λ j. count_below k (f j)) (λ j. count_below l (g j))

-- ---- a range of taps: as many pass the test as it has
module _ {n : ℕ} {test : ℕ → Bool} {first count : ℕ} (e : Exactly n test first count) where
  -- of the first m
  range_below : (m : ℕ) → m ≤ n → count_below m test ≡ min m (first + count) - first
  range_below zero h = sum_none _ ∙ (omega arith)
  range_below (suc m) h = sum_more m _ ∙ go (range_below m (omega arith)) (dec_lt m first) (dec_lt m (first + count))
    where
      go : count_below m test ≡ min m (first + count) - first → Dec (m < first) → Dec (m < first + count) → count_below m test + one (test m) ≡ min (suc m) (first + count) - first
      go ih (yes a) b = rw (exactly_before e {k = m} (omega arith) a) (omega arith)
      go ih (no a) (yes b) = rw (exactly_in e {k = m} (omega arith) b).1 (omega arith)
      go ih (no a) (no b) = rw (exactly_behind e {k = m} (omega arith) (omega arith)) (omega arith)

  pub exactly_count : count_below n test ≡ count
  exactly_count = range_below n (omega arith) ∙ go (dec_le 1 count)
    where
      go : Dec (1 ≤ count) → min n (first + count) - first ≡ count
      go (yes h) = omega (arith, exactly_end e h)
      go (no h) = omega arith
