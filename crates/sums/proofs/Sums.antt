-- Laws of running sums: one tap more, a sum that goes on where another ended, equal taps, rows, taps that take no part.
use mathlib.Core.Path.{◌≡◌, refl, sym, ap, ◌∙◌}
use Prim.Native.Nat.{ℕ, zero, suc, ◌+◌, ◌*◌, ◌<◌}
use native.Mathlib.Nat.{add-zero, add-suc, suc-mul, zero-mul}
use native.Mathlib.Numerals.{add-one}
use native.Mathlib.Omega.{arith}
use lib.Ieee.{Float, binary32, of_bits}
use Rattle.tensor.specs.Table.{plus_zero}
use Rattle.sums.specs.Taps.{Factors, none, add_tap, sum_from}

-- the code's 0.0
pub zero_is : of_bits binary32 0 ≡ plus_zero
unfolding of_bits
zero_is = refl

-- no tap yet
pub sum_start : (start : Float) (taps : ℕ → Factors) → sum_from start taps 0 ≡ start
unfolding sum_from
sum_start start taps = refl

-- one tap more, at the code's n + 1
pub sum_more : (start : Float) (taps : ℕ → Factors) (n : ℕ) → sum_from start taps (n + 1) ≡ add_tap (sum_from start taps n) (taps n)
unfolding sum_from
sum_more start taps n = rw add-one

-- a sum goes on where another ended
pub sum_append : (start : Float) (taps : ℕ → Factors) (n m : ℕ) → sum_from start taps (n + m) ≡ sum_from (sum_from start taps n) (λ t. taps (n + t)) m
unfolding sum_from
sum_append start taps n zero = rw add-zero
sum_append start taps n (suc m) = rw add-suc (ap (λ (x : Float). add_tap x (taps (n + m))) (sum_append start taps n m))

-- sums of equal taps are equal
pub sum_same : (start : Float) (taps others : ℕ → Factors) (n : ℕ) → ((t : ℕ) → t < n → taps t ≡ others t) → sum_from start taps n ≡ sum_from start others n
unfolding sum_from
sum_same start taps others zero h = refl
sum_same start taps others (suc n) h = cc (sum_same start taps others n (λ t l. h t (omega arith)), h n (omega arith))

-- a run of taps that take no part changes nothing
pub sum_none : (start : Float) (taps : ℕ → Factors) (n : ℕ) → ((t : ℕ) → t < n → taps t ≡ none) → sum_from start taps n ≡ start
unfolding sum_from add_tap
sum_none start taps zero h = refl
sum_none start taps (suc n) h = rw (h n (omega arith)) (sum_none start taps n (λ t l. h t (omega arith)))

-- ---- rows of m taps: row r has the taps from r * m on

-- one row more
pub sum_row : (start sum : Float) (taps : ℕ → Factors) (r m : ℕ) → sum ≡ sum_from start taps (r * m) → sum_from sum (λ t. taps (r * m + t)) m ≡ sum_from start taps ((r + 1) * m)
sum_row start sum taps r m e = rw (e, add-one r, suc-mul r m) (sym (sum_append start taps (r * m) m))

-- row by row equals in one go: `after r` is the sum after r rows
pub sum_rows : (after : ℕ → Float) (taps : ℕ → Factors) (m rows : ℕ) → ((r : ℕ) → r < rows → after (r + 1) ≡ sum_from (after r) (λ t. taps (r * m + t)) m)
    → after rows ≡ sum_from (after 0) taps (rows * m)
sum_rows after taps m zero h = sym (rw zero-mul (sum_start (after 0) taps))
sum_rows after taps m (suc rows) h =
    let e = sum_rows after taps m rows (λ r l. h r (omega arith)) in
    ap after (sym (add-one rows)) ∙ h rows (omega arith) ∙ sum_row (after 0) (after rows) taps rows m e ∙ ap (λ (r : ℕ). sum_from (after 0) taps (r * m)) (add-one rows)
