-- The outputs of a call one by one, by their definition.
use mathlib.Core.Path.{◌≡◌, refl, sym}
use mathlib.Core.List.{List}
use Prim.Native.Nat.{ℕ, ◌<◌}
use lib.IntN.{zero-*ℤ}
use native.Mathlib.Nat.{zero-add}
use native.Mathlib.Omega.{arith}
use lib.ListN.{length}
use lib.Ieee.{Float, nan}
use Rattle.tensor.specs.Table.{read, plus_zero, tabulate}
use Rattle.sums.specs.Taps.{Place, missing, outside, at, tap_at, sum_from, halved, inside_only, taps_of, inside_taps_of, output_of, InRange}
use Rattle.sums.specs.Whole.{value, product}
use Rattle.sums.specs.declared.Profile.{Profile}
use Rattle.sums.specs.declared.Profile.TheVariants.{Running, Halved}
use Rattle.tensor.proofs.Table.{tabulate_length, tabulate_get}
use Rattle.sums.proofs.Sums.{sum_same}
use Rattle.sums.proofs.Halved.{halved_same}

-- output j is the sum of its taps by the profile
pub output_running : (place : ℕ → ℕ → Place) (k : ℕ) (input kernel : List Float) (j : ℕ) → output_of Running place k input kernel j ≡ sum_from plus_zero (taps_of place input kernel j) k
unfolding output_of
output_running place k input kernel j = refl

pub output_halved : (place : ℕ → ℕ → Place) (k : ℕ) (input kernel : List Float) (j : ℕ) → output_of Halved place k input kernel j ≡ halved (inside_taps_of place input kernel j) 0 k
unfolding output_of
output_halved place k input kernel j = refl

pub outputs_length : (profile : Profile) (place : ℕ → ℕ → Place) (k : ℕ) (input kernel : List Float) (n : ℕ) → length (tabulate (output_of profile place k input kernel) n) ≡ n
outputs_length profile place k input kernel n = tabulate_length (output_of profile place k input kernel) n

pub outputs_read : (profile : Profile) (place : ℕ → ℕ → Place) (k : ℕ) (input kernel : List Float) (n j : ℕ) → j < n
    → read (tabulate (output_of profile place k input kernel) n) j ≡ output_of profile place k input kernel j
outputs_read profile place k input kernel n j l = tabulate_get (output_of profile place k input kernel) nan n j l

-- ---- the taps of a halved sum: one outside has the product 0 with its weight and without, and all lie where those of a running sum do
pub inside_product : (input kernel : List Float) (p : Place) → product (tap_at input kernel (inside_only p)) ≡ product (tap_at input kernel p)
unfolding tap_at inside_only product value
inside_product input kernel missing = refl
inside_product input kernel (outside b) = sym (zero-*ℤ (value (read kernel b)))
inside_product input kernel (at a b) = refl

pub inside_in_range : (inputs weights : ℕ) (p : Place) → InRange inputs weights p → InRange inputs weights (inside_only p)
unfolding inside_only
inside_in_range inputs weights missing r = tt
inside_in_range inputs weights (outside b) r = tt
inside_in_range inputs weights (at a b) r = r

-- outputs of equal taps are equal, by either profile
pub output_same : (profile : Profile) (place others : ℕ → ℕ → Place) (k : ℕ) (input other kernel : List Float) (j q : ℕ)
    → ((t : ℕ) → t < k → taps_of place input kernel j t ≡ taps_of others other kernel q t)
    → ((t : ℕ) → t < k → inside_taps_of place input kernel j t ≡ inside_taps_of others other kernel q t)
    → output_of profile place k input kernel j ≡ output_of profile others k other kernel q
unfolding output_of
output_same Running place others k input other kernel j q e i = sum_same plus_zero _ _ k e
output_same Halved place others k input other kernel j q e i = halved_same _ _ 0 k (λ t _ l. i t (omega (arith, zero-add k)))
