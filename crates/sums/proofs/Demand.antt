-- Demand 3: sums of products of small whole numbers. `whole_sum` for a running sum, by induction over its taps (`tap_close`); `all_whole` for every output of a call,
-- by either profile.
use mathlib.Core.Path.{◌≡◌, refl}
use mathlib.Core.Bool.{false}
use mathlib.Core.List.{List}
use Prim.Native.Nat.{ℕ, zero, suc, ◌≤◌, ◌<◌}
use native.Mathlib.Omega.{arith}
use lib.Dec.{T}
use lib.IntN.{pos}
use lib.ListN.{length}
use lib.Ieee.{Float, fin, add, mul}
use lib.Ieee.Fits.{and_i}
use Rattle.tensor.specs.Table.{read, plus_zero, tabulate}
use Rattle.sums.specs.Taps.{Place, missing, outside, at, Factors, pair, tap_at, add_tap, sum_from, inside_only, taps_of, inside_taps_of, output_of, InRange, AllInRange}
use Rattle.sums.specs.Whole.{is_whole, value, product, total, exact_sum, magnitudes, small, WholeSum, AllSmall, AllWhole}
use Rattle.sums.specs.declared.Profile.{Profile}
use Rattle.sums.specs.declared.Profile.TheVariants.{Running, Halved}
use Rattle.sums.proofs.Errors.{errors_is}
use Rattle.sums.proofs.Close.{small_tap, SmallTaps, Close, close_zero, tap_close}
use Rattle.sums.proofs.HalvedDemand.{whole_same, whole_halved}
use Rattle.sums.proofs.Outputs.{outputs_read, inside_product, inside_in_range}

-- ---- the running sum
running : (taps : ℕ → Factors) (n : ℕ) → n ≤ 4096 → SmallTaps taps n → Close n (sum_from plus_zero taps n) (exact_sum taps n) (magnitudes taps n)
unfolding sum_from total magnitudes
running taps zero l h = close_zero
running taps (suc n) l h = tap_close n (sum_from plus_zero taps n) (taps n) (exact_sum taps n) (magnitudes taps n) l (h n (omega arith)) (running taps n (omega arith) (λ t d. h t (omega arith)))

pub not_halved : Running ≡ Halved → ⊥
not_halved e = let z : ◌≡◌ {A = ℕ} 0 1 = cc in absurd (omega arith)

pub whole_sum : (taps : ℕ → Factors) (k : ℕ) → k ≤ 4096 → SmallTaps taps k → WholeSum Running taps k (sum_from plus_zero taps k)
whole_sum taps k l h =
    let g = running taps k l h in
    record { whole = g.whole; near = omega (arith, g.near, errors_is k); nearer = λ e. absurd (not_halved e); same = λ m. g.same (omega (arith, m)) }

-- ---- every output of a call
small_tap_lem : (input kernel : List Float) (p : Place) → AllSmall input → AllSmall kernel → InRange (length input) (length kernel) p → T (small_tap (tap_at input kernel p))
unfolding tap_at small_tap is_whole value
small_tap_lem input kernel missing hi hk r = tt
small_tap_lem input kernel (outside b) hi hk r = and_i (small plus_zero) (small (read kernel b)) tt (hk b r)
small_tap_lem input kernel (at a b) hi hk r = and_i (small (read input a)) (small (read kernel b)) (hi a r.0) (hk b r.1)

output_whole : (profile : Profile) (place : ℕ → ℕ → Place) (k : ℕ) (input kernel : List Float) (j : ℕ) → k ≤ 4096 → ((t : ℕ) → t < k → InRange (length input) (length kernel) (place j t))
    → AllSmall input → AllSmall kernel → WholeSum profile (taps_of place input kernel j) k (output_of profile place k input kernel j)
unfolding output_of
output_whole Running place k input kernel j few r hi hk = whole_sum (taps_of place input kernel j) k few (λ t d. small_tap_lem input kernel (place j t) hi hk (r t d))
output_whole Halved place k input kernel j few r hi hk =
    whole_same Halved (inside_taps_of place input kernel j) (taps_of place input kernel j) k _ (λ t. inside_product input kernel (place j t))
    (whole_halved (inside_taps_of place input kernel j) k few (λ t d. small_tap_lem input kernel (inside_only (place j t)) hi hk (inside_in_range (length input) (length kernel) (place j t) (r t d))))

-- for any place function whose places lie in the tensors
pub all_whole : (profile : Profile) (place : ℕ → ℕ → Place) (k n : ℕ) (input kernel output : List Float) → k ≤ 4096 → AllInRange place k n (length input) (length kernel)
    → output ≡ tabulate (output_of profile place k input kernel) n → AllSmall input → AllSmall kernel → AllWhole profile (taps_of place input kernel) k n output
all_whole profile place k n input kernel output few r e hi hk j l =
    rw (e, outputs_read profile place k input kernel n j l) (output_whole profile place k input kernel j few (λ t d. r j t l d) hi hk)

-- ---- the exact case cannot be widened: 4096·4096 + 1·1 has magnitudes of 16,777,217 in all, and the sum is 16,777,216
pub limit_taps : ℕ → Factors
limit_taps zero = pair (fin false 1 (pos 12)) (fin false 1 (pos 12))
limit_taps (suc t) = pair (fin false 1 (pos 0)) (fin false 1 (pos 0))

pub record ExactCaseLimit : Type 0 where
  pub premise : SmallTaps limit_taps 2
  pub sum : sum_from plus_zero limit_taps 2 ≡ fin false 1 (pos 24)
  pub sum_value : value (fin false 1 (pos 24)) ≡ pos 16777216
  pub exact_sum_lem : exact_sum limit_taps 2 ≡ pos 16777217
  pub magnitudes_total : magnitudes limit_taps 2 ≡ 16777217

limit_small : (t : ℕ) → T (small_tap (limit_taps t))
unfolding limit_taps small_tap is_whole value
limit_small zero = tt
limit_small (suc t) = tt

pub exact_case_limit : ExactCaseLimit
unfolding limit_taps sum_from add_tap add mul value product total magnitudes
exact_case_limit = record { premise = λ t l. limit_small t; sum = refl; sum_value = refl; exact_sum_lem = refl; magnitudes_total = refl }
