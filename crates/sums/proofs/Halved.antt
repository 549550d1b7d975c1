-- Laws of halved sums: a single tap, one cut, equal taps, and what holds of every halved sum because each cut keeps it (`by_cuts`). Each is an induction over the
-- bound on the cuts, which a run of n taps never reaches where it is at least n.
use mathlib.Core.Path.{◌≡◌, refl}
use Prim.Native.Nat.{ℕ, zero, suc, ◌+◌, ◌≤◌, ◌<◌}
use native.Mathlib.Omega.{arith}
use lib.Ieee.{Float, binary32, add}
use Rattle.tensor.specs.Table.{plus_zero}
use Rattle.sums.specs.Taps.{Factors, add_tap, first_part, second_part, halved_within, halved}

-- equal taps have equal halved sums, and the bound on the cuts does not matter
pub within_same : (c d : ℕ) (taps others : ℕ → Factors) (first n : ℕ) → n ≤ c → n ≤ d → ((t : ℕ) → first ≤ t → t < first + n → taps t ≡ others t) → halved_within c taps first n ≡ halved_within d others first n
unfolding halved_within
within_same zero zero taps others first n h k e = refl
within_same zero (suc d) taps others first zero h k e = refl
within_same zero (suc d) taps others first (suc n) h k e = absurd (omega arith)
within_same (suc c) zero taps others first zero h k e = refl
within_same (suc c) zero taps others first (suc n) h k e = absurd (omega arith)
within_same (suc c) (suc d) taps others first zero h k e = refl
within_same (suc c) (suc d) taps others first (suc zero) h k e = rw (e first (omega arith) (omega arith))
within_same (suc c) (suc d) taps others first (suc (suc n)) h k e =
    let a = first_part (suc (suc n)) in
    let b = second_part (suc (suc n)) in
    cc (within_same c d taps others first a (omega arith) (omega arith) (λ t l g. e t l (omega arith)), within_same c d taps others (first + a) b (omega arith) (omega arith) (λ t l g. e t (omega arith) (omega arith)))

pub halved_one : (taps : ℕ → Factors) (first : ℕ) → halved taps first 1 ≡ add_tap plus_zero (taps first)
unfolding halved_within
halved_one taps first = refl

pub halved_cut : (taps : ℕ → Factors) (first n : ℕ) → 2 ≤ n → halved taps first n ≡ add binary32 (halved taps first (first_part n)) (halved taps (first + first_part n) (second_part n))
unfolding halved_within
halved_cut taps first zero h = absurd (omega arith)
halved_cut taps first (suc zero) h = absurd (omega arith)
halved_cut taps first (suc (suc n)) h =
    let a = first_part (suc (suc n)) in
    let b = second_part (suc (suc n)) in
    cc (within_same (suc n) a taps taps first a (omega arith) (omega arith) (λ t l g. refl), within_same (suc n) b taps taps (first + a) b (omega arith) (omega arith) (λ t l g. refl))

pub halved_same : (taps others : ℕ → Factors) (first n : ℕ) → ((t : ℕ) → first ≤ t → t < first + n → taps t ≡ others t) → halved taps first n ≡ halved others first n
halved_same taps others first n e = within_same n n taps others first n (omega arith) (omega arith) e

-- what holds of no tap and of a single one, and of a run if it holds of its parts, holds of every run
module _ (taps : ℕ → Factors) (Q : ℕ → ℕ → Float → Type 0) (none : (first : ℕ) → Q first 0 plus_zero) (one : (first : ℕ) → Q first 1 (add_tap plus_zero (taps first)))
    (both : (first n : ℕ) (x y : Float) → 2 ≤ n → Q first (first_part n) x → Q (first + first_part n) (second_part n) y → Q first n (add binary32 x y)) where
  within_cuts : (c first n : ℕ) → n ≤ c → Q first n (halved_within c taps first n)
  unfolding halved_within
  within_cuts zero first zero h = none first
  within_cuts zero first (suc n) h = absurd (omega arith)
  within_cuts (suc c) first zero h = none first
  within_cuts (suc c) first (suc zero) h = one first
  within_cuts (suc c) first (suc (suc n)) h =
      let a = first_part (suc (suc n)) in
      let b = second_part (suc (suc n)) in
      both first (suc (suc n)) (halved_within c taps first a) (halved_within c taps (first + a) b) (omega arith) (within_cuts c first a (omega arith)) (within_cuts c (first + a) b (omega arith))

  pub by_cuts : (first n : ℕ) → Q first n (halved taps first n)
  by_cuts first n = within_cuts n first n (omega arith)
