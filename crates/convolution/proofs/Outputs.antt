-- The sums of a line over its taps inside the input are its outputs: over good elements the other taps change no bit (`sum_inside`).
use mathlib.Core.Path.{◌≡◌, sym, ap, ◌∙◌}
use mathlib.Core.List.{List}
use Prim.Native.Nat.{ℕ, ◌+◌, ◌*◌, ◌≤◌, ◌<◌}
use native.Mathlib.Nat.{zero-add}
use native.Mathlib.Omega.{arith}
use lib.Ieee.{Float}
use Rattle.shape.specs.declared.Shape.{Shape}
use Rattle.tensor.specs.Table.{read, plus_zero, tabulate}
use Rattle.tensor.proofs.Table.{tabulate_same}
use Rattle.sums.specs.declared.Profile.TheVariants.{Running}
use Rattle.sums.specs.Taps.{pair, add_tap, sum_from, output_of}
use Rattle.sums.proofs.Outputs.{output_running}
use Rattle.sums.proofs.Inside.{sum_inside}
use Rattle.rows.specs.Rows.{Summed}
use Rattle.call.specs.Fitting.{Fitting}
use Rattle.call.proofs.Lines.{line_sums}
use Rattle.places.specs.Places.{place_of}
use Rattle.places.specs.Taps.{inside_taps}
use Rattle.places.proofs.Places.{in_range_lem}
use Rattle.convolution.specs.Inside.{line_taps}

module _ (s : Shape) (input kernel : List Float) (h : Fitting s input kernel) where
  -- one output
  inside_output : {j : ℕ} → j < s.outputs → sum_from plus_zero (inside_taps s input kernel j) s.taps ≡ output_of Running (place_of s) s.taps input kernel j
  inside_output {j} l =
      sym (output_running (place_of s) s.taps input kernel j
      ∙ sum_inside input kernel h.kernel_good (place_of s j) s.taps (λ t q. rw (h.input_length, h.kernel_length) (in_range_lem s h.shape j t l q)))

  -- a line of them, which start at +0
  pub line_is : (line : ℕ) {number : ℕ} {l m : List Float} → number ≡ line → line * s.x.out + s.x.out ≤ s.outputs
      → l ≡ tabulate (λ x. add_tap plus_zero (pair plus_zero (read kernel 0))) s.x.out → Summed (line_taps s input kernel number 0) s.taps s.x.out l m
      → m ≡ tabulate (λ x. output_of Running (place_of s) s.taps input kernel (line * s.x.out + x)) s.x.out
  line_is line {number} e n z a =
      line_sums s input kernel (line_taps s input kernel number 0) s.taps h z a
      ∙ tabulate_same _ _ s.x.out (λ x p.
      let w : number * s.x.out + (0 + x) ≡ line * s.x.out + x = ap (λ (k : ℕ). k * s.x.out + (0 + x)) e ∙ ap (λ (k : ℕ). line * s.x.out + k) (zero-add x) in
      ap (λ (j : ℕ). sum_from plus_zero (inside_taps s input kernel j) s.taps) w ∙ inside_output (omega arith))
