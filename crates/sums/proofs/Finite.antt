-- "So no sum overflows and no output is NaN": after n taps with elements up to 2^40 a sum is at most n * 2^80 in magnitude, a running sum by its steps
-- and a halved sum by its cuts.
use mathlib.Core.Path.{◌≡◌, sym, ap, ◌∙◌}
use mathlib.Core.Bool.{false}
use mathlib.Core.List.{List}
use Prim.Native.Nat.{ℕ, zero, suc, ◌+◌, ◌*◌, ◌^◌, ◌≤◌, ◌<◌}
use native.Mathlib.Nat.{lt_of_le_of_lt, zero-lt-suc, mul-one, mul_assoc, mul-le-mul_right, suc-mul, add-mul}
use native.Mathlib.Omega.{arith}
use lib.Dec.{T, lit≤, lit<}
use lib.ListN.{length}
use lib.Ieee.{Float, binary32, add, mul}
use lib.Ieee.Exact.{round_exact}
use lib.Ieee.Scale.{finite}
use Rattle.tensor.specs.Table.{read, plus_zero, tabulate}
use Rattle.tensor.specs.Element.{element_ok}
use Rattle.tensor.proofs.Element.{AtMost, element_at_most}
use Rattle.sums.specs.Taps.{Place, missing, outside, at, Factors, none, pair, tap_at, add_tap, sum_from, first_part, second_part, halved, inside_only, taps_of, inside_taps_of, output_of, InRange, AllInRange}
use Rattle.sums.specs.declared.Profile.{Profile}
use Rattle.sums.specs.declared.Profile.TheVariants.{Running, Halved}
use Rattle.sums.specs.Finite.{AllOk, AllFinite}
use Rattle.sums.proofs.Bounded.{Holds, at_most_finite, mul_at_most, add_at_most, wider}
use Rattle.sums.proofs.Outputs.{outputs_length, outputs_read, inside_in_range}
use Rattle.sums.proofs.Halved.{by_cuts}

-- ---- one element
pub element_finite : (x : Float) → T (element_ok x) → T (finite x)
element_finite x h = at_most_finite x (2 ^ 40) (element_at_most x h)

-- ---- a running sum
abbrev pub BoundedTap : Factors → Type 0
BoundedTap none = Unit {0}
BoundedTap (pair x w) = AtMost x (2 ^ 40) × AtMost w (2 ^ 40)

-- f32 holds n * 2^80
holds_n : (n : ℕ) → n ≤ 4096 → Holds binary32 (n * 2 ^ 80)
holds_n n h =
    record {
      self =
          round_exact binary32 false (n * 2 ^ 80) 1 n 229 (zero-lt-suc 0) (lt_of_le_of_lt h (lit< tt)) (lt_of_le_of_lt (mul-le-mul_right (2 ^ 229) h) (lit< tt))
          (mul_assoc n (2 ^ 80) (2 ^ 149) ∙ sym (mul-one (n * 2 ^ 229)));
    }

tap_at_most : (sum : Float) (tap : Factors) (n : ℕ) → n < 4096 → AtMost sum (n * 2 ^ 80) → BoundedTap tap → AtMost (add_tap sum tap) (suc n * 2 ^ 80)
unfolding add_tap
tap_at_most sum none n l h b = wider sum (n * 2 ^ 80) (suc n * 2 ^ 80) (omega arith) h
tap_at_most sum (pair x w) n l h b =
    let e = suc-mul n (2 ^ 80) in
    let p = mul_at_most binary32 x w (2 ^ 40) (2 ^ 40) b.0 b.1 (holds_n 1 (omega arith)) in
    rw e (add_at_most binary32 sum (mul binary32 x w) (n * 2 ^ 80) (2 ^ 80) h p (rw e at (holds_n (suc n) l)))

pub sum_at_most : (taps : ℕ → Factors) (n : ℕ) → n ≤ 4096 → ((t : ℕ) → t < n → BoundedTap (taps t)) → AtMost (sum_from plus_zero taps n) (n * 2 ^ 80)
unfolding sum_from
sum_at_most taps zero h b = lit≤ tt
sum_at_most taps (suc n) h b = tap_at_most (sum_from plus_zero taps n) (taps n) n h (sum_at_most taps n (omega arith) (λ t l. b t (omega arith))) (b n (omega arith))

-- no overflow and no NaN
pub sum_finite : (taps : ℕ → Factors) (n : ℕ) → n ≤ 4096 → ((t : ℕ) → t < n → BoundedTap (taps t)) → T (finite (sum_from plus_zero taps n))
sum_finite taps n h b = at_most_finite (sum_from plus_zero taps n) (n * 2 ^ 80) (sum_at_most taps n h b)

-- ---- a halved sum: its two parts are at most a * 2^80 and b * 2^80, where a + b is n
abbrev HalfAtMost : ℕ → ℕ → ℕ → Float → Type 0
HalfAtMost k first n sum = first + n ≤ k → AtMost sum (n * 2 ^ 80)

both_at_most : (x y : Float) (a b n : ℕ) → n ≡ a + b → n ≤ 4096 → AtMost x (a * 2 ^ 80) → AtMost y (b * 2 ^ 80) → AtMost (add binary32 x y) (n * 2 ^ 80)
both_at_most x y a b n z l h k =
    let e : n * 2 ^ 80 ≡ a * 2 ^ 80 + b * 2 ^ 80 = ap (λ (m : ℕ). m * 2 ^ 80) z ∙ add-mul a b (2 ^ 80) in
    rw e (add_at_most binary32 x y (a * 2 ^ 80) (b * 2 ^ 80) h k (rw e at (holds_n n l)))

pub halved_at_most : (taps : ℕ → Factors) (k : ℕ) → k ≤ 4096 → ((t : ℕ) → t < k → BoundedTap (taps t)) → AtMost (halved taps 0 k) (k * 2 ^ 80)
halved_at_most taps k h b =
    by_cuts taps (HalfAtMost k) (λ first l. lit≤ tt) (λ first l. tap_at_most plus_zero (taps first) 0 (omega arith) (lit≤ tt) (b first (omega arith)))
    (λ first n x y c f g l. both_at_most x y (first_part n) (second_part n) n (omega arith) (omega arith) (f (omega arith)) (g (omega arith)))
    0 k (omega arith)

pub halved_finite : (taps : ℕ → Factors) (k : ℕ) → k ≤ 4096 → ((t : ℕ) → t < k → BoundedTap (taps t)) → T (finite (halved taps 0 k))
halved_finite taps k h b = at_most_finite (halved taps 0 k) (k * 2 ^ 80) (halved_at_most taps k h b)

-- ---- every output of a call
pub bounded_tap : (input kernel : List Float) (p : Place) → AllOk input → AllOk kernel → InRange (length input) (length kernel) p → BoundedTap (tap_at input kernel p)
unfolding tap_at
bounded_tap input kernel missing hi hk r = tt
bounded_tap input kernel (outside b) hi hk r = (lit≤ tt, element_at_most (read kernel b) (hk b r))
bounded_tap input kernel (at a b) hi hk r = (element_at_most (read input a) (hi a r.0), element_at_most (read kernel b) (hk b r.1))

output_finite : (profile : Profile) (place : ℕ → ℕ → Place) (k : ℕ) (input kernel : List Float) (j : ℕ) → k ≤ 4096 → ((t : ℕ) → t < k → InRange (length input) (length kernel) (place j t))
    → AllOk input → AllOk kernel → T (finite (output_of profile place k input kernel j))
unfolding output_of
output_finite Running place k input kernel j few r hi hk = sum_finite (taps_of place input kernel j) k few (λ t c. bounded_tap input kernel (place j t) hi hk (r t c))
output_finite Halved place k input kernel j few r hi hk =
    halved_finite (inside_taps_of place input kernel j) k few (λ t c. bounded_tap input kernel (inside_only (place j t)) hi hk (inside_in_range (length input) (length kernel) (place j t) (r t c)))

-- for any place function whose places lie in the tensors
pub all_finite : (profile : Profile) (place : ℕ → ℕ → Place) (k n : ℕ) (input kernel output : List Float) → k ≤ 4096 → AllInRange place k n (length input) (length kernel)
    → output ≡ tabulate (output_of profile place k input kernel) n → AllOk input → AllOk kernel → AllFinite output
all_finite profile place k n input kernel output few r e hi hk j l =
    let d : j < n = rw (e, outputs_length profile place k input kernel n) at l in
    rw (e, outputs_read profile place k input kernel n j d) (output_finite profile place k input kernel j few (λ t c. r j t d c) hi hk)
