-- How many pairs of numbers pass a test.
use Rattle.std.specs.Prelude.{ℕ, zero, suc, ◌+◌, Bool, cond}

-- f 0 + f 1 + .. + f (n - 1)
unfoldable pub sum_below : ℕ → (ℕ → ℕ) → ℕ
sum_below zero f = 0
sum_below (suc n) f = sum_below n f + f n

-- how many numbers below n pass a test: the sum of 1 for each that does and 0 for each other
abbrev pub one : Bool → ℕ
one b = cond b 1 0

abbrev pub count_below : ℕ → (ℕ → Bool) → ℕ
count_below n test = sum_below n (λ i. one (test i))

-- how many pairs (j, t), j below n and t below k, pass a test
abbrev pub pairs_below : ℕ → ℕ → (ℕ → ℕ → Bool) → ℕ
pairs_below n k test = sum_below n (λ j. count_below k (test j))
