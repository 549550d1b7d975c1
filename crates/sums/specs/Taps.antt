-- The taps of an output: their places in the two tensors, their values there, the two f32 sums over them, running and halved, and the outputs of a call.
use Rattle.std.specs.Prelude.{List, Bool, true, false, ℕ, zero, suc, ◌+◌, ◌-◌, ◌/◌, ◌<◌, Float}
use Rattle.std.specs.Float.{binary32}
use Rattle.std.specs.Float.Ieee.{add, mul}
use Rattle.tensor.specs.Table.{read, plus_zero}
use Rattle.sums.specs.declared.Profile.{Profile}
use Rattle.sums.specs.declared.Profile.TheVariants.{Running, Halved}

-- Where a tap of an output finds its two factors, by flat places in the input and in the kernel.
-- `missing`: "for those taps where y + begin - ky·d = iy·s with iy inside the input, and likewise for z and x" (transposed); another tap takes no part.
-- `outside`: "A tap outside the input has the value +0 and takes part" (convolution); it has a weight alone.
-- `at`: "adds input·weight for each tap": the place of the input's element and the place of the weight.
pub data Place : Type 0 where
  missing : Place
  outside : ℕ → Place
  at : ℕ → ℕ → Place

-- The two factors of a tap, an input value and a weight; or none where it takes no part.
pub data Factors : Type 0 where
  none : Factors
  pair : Float → Float → Factors

-- the factors of the tap at a place, in given tensors
unfoldable pub tap_at : List Float → List Float → Place → Factors
tap_at input kernel missing = none
tap_at input kernel (outside weight) = pair plus_zero (read kernel weight)
tap_at input kernel (at place weight) = pair (read input place) (read kernel weight)

-- "Each product and each sum rounds once. Rounding is to the nearest f32, ties to even."
unfoldable pub add_tap : Float → Factors → Float
add_tap sum none = sum
add_tap sum (pair value weight) = add binary32 sum (mul binary32 value weight)

-- `start`, and then the first n taps added one after another by their numbers, "all rising"
unfoldable pub sum_from : Float → (ℕ → Factors) → ℕ → Float
sum_from start taps zero = start
sum_from start taps (suc n) = add_tap (sum_from start taps n) (taps n)

-- ---- the halved sum (C-17)

-- "a run of taps is cut in two, the first part having the larger half": the parts of a run of n taps
abbrev pub second_part : ℕ → ℕ
second_part n = n / 2

abbrev pub first_part : ℕ → ℕ
first_part n = n - second_part n

-- "each half is summed the same way, and the two results are added; a single tap is its product added to +0": the run of `count` taps from number `first` on. A
-- tap without factors is +0. The first argument only bounds how often a run is cut: each that is not below `count` gives the same sum (`within_same`), so that
-- `halved_one` and `halved_cut` say the sentence without it.
unfoldable pub halved_within : ℕ → (ℕ → Factors) → ℕ → ℕ → Float
halved_within zero taps first count = plus_zero
halved_within (suc cuts) taps first zero = plus_zero
halved_within (suc cuts) taps first (suc zero) = add_tap plus_zero (taps first)
halved_within (suc cuts) taps first (suc (suc n)) =
    let count = suc (suc n) in
    add binary32 (halved_within cuts taps first (first_part count)) (halved_within cuts taps (first + first_part count) (second_part count))

abbrev pub halved : (ℕ → Factors) → ℕ → ℕ → Float
halved taps first count = halved_within count taps first count

-- the place of a tap for a sum that forms no product for a tap outside the input
unfoldable pub inside_only : Place → Place
inside_only missing = missing
inside_only (outside weight) = missing
inside_only (at place weight) = at place weight

-- Whether a tap lies inside the input, by its place.
unfoldable pub is_inside : Place → Bool
is_inside missing = false
is_inside (outside weight) = false
is_inside (at place weight) = true

-- ---- the outputs of a call

-- The two convolutions differ in their place function alone: the place of tap number t of output number j.
-- The taps of output j:
abbrev pub taps_of : (ℕ → ℕ → Place) → List Float → List Float → ℕ → ℕ → Factors
taps_of place input kernel j t = tap_at input kernel (place j t)

-- "those outside the input included as +0 without a product": its taps in a halved sum
abbrev pub inside_taps_of : (ℕ → ℕ → Place) → List Float → List Float → ℕ → ℕ → Factors
inside_taps_of place input kernel j t = tap_at input kernel (inside_only (place j t))

-- Output j, of k taps. "The profile is named in the call; the order above remains for the other, running sums, and their bits may differ"
-- Running: "output (n, group g, o, z, y, x) starts at +0 and adds input·weight for each tap"; transposed: "output (n, g, o, z, y, x) starts at +0 and adds",
-- "Positions no tap reaches are +0."
-- Halved: "Halved sums: a second summing profile for convolution, over all K taps"
unfoldable pub output_of : Profile → (ℕ → ℕ → Place) → ℕ → List Float → List Float → ℕ → Float
output_of Running place k input kernel j = sum_from plus_zero (taps_of place input kernel j) k
output_of Halved place k input kernel j = halved (inside_taps_of place input kernel j) 0 k

-- ---- for proofs: a place that lies in an input of `inputs` elements and in a kernel of `weights` elements
abbrev pub InRange : ℕ → ℕ → Place → Type 0
InRange inputs weights missing = Unit {0}
InRange inputs weights (outside b) = b < weights
InRange inputs weights (at a b) = (a < inputs) × (b < weights)

-- so do all places of n outputs with k taps
abbrev pub AllInRange : (ℕ → ℕ → Place) → ℕ → ℕ → ℕ → ℕ → Type 0
AllInRange place k n inputs weights = (j t : ℕ) → j < n → t < k → InRange inputs weights (place j t)
