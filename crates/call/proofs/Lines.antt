-- Rows of outputs: row number `line` of all rows begins with output number line · OX.
use mathlib.Core.Path.{◌≡◌, refl, ap}
use mathlib.Core.List.{List}
use Prim.Native.Nat.{ℕ, ◌+◌, ◌*◌, ◌<◌}
use native.Mathlib.Omega.{arith}
use lib.Dec.{T}
use lib.ListN.{length}
use lib.Ieee.{Float}
use Rattle.shape.specs.declared.Shape.{Shape}
use Rattle.tensor.specs.Table.{read, plus_zero, tabulate}
use Rattle.tensor.proofs.Table.{tabulate_same}
use Rattle.sums.specs.declared.Profile.TheVariants.{Running}
use Rattle.sums.specs.Taps.{Place, Factors, pair, tap_at, add_tap, sum_from, output_of}
use lib.Ieee.Scale.{finite}
use Rattle.sums.proofs.Sums.{sum_same}
use Rattle.sums.proofs.Finite.{element_finite}
use Rattle.rows.specs.Rows.{Summed}
use Rattle.rows.proofs.Rows.{line_filled}
use Rattle.call.specs.Fitting.{Fitting}
use Rattle.call.proofs.Planes.{weights_pos}

-- the kernel has a first weight, and it is finite
pub kernel_pos : (s : Shape) (input kernel : List Float) → Fitting s input kernel → 0 < length kernel
kernel_pos s input kernel h = omega (arith, weights_pos s h.shape, h.kernel_length)

first_finite : (s : Shape) (input kernel : List Float) → Fitting s input kernel → T (finite (read kernel 0))
first_finite s input kernel h = element_finite (read kernel 0) (h.kernel_good 0 (kernel_pos s input kernel h))

-- the sums of a row, which start at +0
pub line_sums : (s : Shape) (input kernel : List Float) (taps : ℕ → ℕ → Factors) (k : ℕ) {l m : List Float} → Fitting s input kernel
    → l ≡ tabulate (λ x. add_tap plus_zero (pair plus_zero (read kernel 0))) s.x.out → Summed taps k s.x.out l m
    → m ≡ tabulate (λ x. sum_from plus_zero (taps x) k) s.x.out
line_sums s input kernel taps k h e i = line_filled _ taps k s.x.out (read kernel 0) (first_finite s input kernel h) e i (λ x p. refl)

-- are its outputs where the places of their taps are: `from` tells them by the output's number in the row
pub line_outputs : (s : Shape) (place from : ℕ → ℕ → Place) (input kernel : List Float) (line : ℕ) → ((x t : ℕ) → x < s.x.out → from x t ≡ place (line * s.x.out + x) t)
    → tabulate (λ x. sum_from plus_zero (λ t. tap_at input kernel (from x t)) s.taps) s.x.out ≡ tabulate (λ x. output_of Running place s.taps input kernel (line * s.x.out + x)) s.x.out
unfolding output_of
line_outputs s place from input kernel line e = tabulate_same _ _ s.x.out (λ x p. sum_same _ _ _ _ (λ t l. ap (tap_at input kernel) (e x t p)))
