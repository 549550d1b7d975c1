-- Transposed convolution in document 01's words: the places of its taps, for output (n, g, o, z, y, x) and tap (i, kz, ky, kx), each at its row-major number, and
-- the sum over them by four nested loops.
use Rattle.std.specs.Prelude.{Some}
use mathlib.Core.Path.{◌≡◌, ap, ◌∙◌}
use mathlib.Core.List.{List}
use Prim.Native.Nat.{ℕ, ◌+◌, ◌*◌, ◌≤◌, ◌<◌}
use borrow.Author.Tests.{eqb-true, eq-eqb}
use lib.Ieee.{Float}
use Rattle.layer.proofs.Places.{place_div, place_mod}
use Rattle.sizes.specs.declared.Span.{Span}
use Rattle.taps.specs.Joins.{joins, backward}
use Rattle.taps.proofs.Joins.{backward_finds, finds_at, at_finds}
use Rattle.shape.specs.declared.Shape.{Shape}
use Rattle.shape.specs.Facts.{Grouped}
use Rattle.shape.specs.Volumes.{kernel_rows}
use Rattle.tensor.specs.Table.{plus_zero}
use Rattle.sums.specs.declared.Profile.TheVariants.{Running}
use Rattle.sums.specs.Taps.{Place, missing, at, tap_at, add_tap, output_of}
use Rattle.transposed.specs.Transposed.{reached, place_of}
use Rattle.readings.proofs.Shared.{output_number, tap_number, input_number, flat_plane, on_axes, tap_parts, lies_inside, lies_outside, rising, nested_sum}

-- "those taps where y + begin - ky·d = iy·s with iy inside the input": p is y and q is iy, or likewise for z and x
pub record Reaches (s : Span) (p k q : ℕ) : Type 0 where
  pub position : q * s.stride + k * s.dilation ≡ p + s.begin
  pub inside : q < s.input

-- the definition's tap is that row
reaches_at : (s : Span) (p k q : ℕ) → 1 ≤ s.stride → Reaches s p k q → backward s p k ≡ Some q
reaches_at s p k q l h = finds_at s.input (λ r. joins s r k p) (backward s p k) q (backward_finds s p k l) h.inside (eq-eqb _ _ h.position)

at_reaches : (s : Span) (p k q : ℕ) → 1 ≤ s.stride → backward s p k ≡ Some q → Reaches s p k q
at_reaches s p k q l e =
    let u = at_finds s.input (λ r. joins s r k p) (backward s p k) q (backward_finds s p k l) e in
    record { position = eqb-true (q * s.stride + k * s.dilation) (p + s.begin) u.1; inside = u.0 }

-- the place of weight (g, i, o, kz, ky, kx) in [G, I, O, KZ, KY, KX]
abbrev pub weight : Shape → ℕ → ℕ → ℕ → ℕ → ℕ → ℕ → ℕ
weight s g o i kz ky kx = ((((g * s.i + i) * s.o + o) * s.z.kernel + kz) * s.y.kernel + ky) * s.x.kernel + kx

-- ---- one tap: in channel g·I + i of image n, at the depth, row and column that it reaches
abbrev pub tap_place : Shape → ℕ → ℕ → ℕ → ℕ → ℕ → ℕ → ℕ → ℕ → ℕ → ℕ → Place
tap_place s n g o z y x i kz ky kx =
    reached
    ((n * s.c + (g * s.i + i)) * (s.z.input * s.y.input * s.x.input))
    (weight s g o i kz ky kx)
    (on_axes s (backward s.z z kz) (backward s.y y ky) (backward s.x x kx))

module _ (s : Shape) (n : ℕ) {g o z y x : ℕ} (h : Grouped s) (hg : g < s.g) (ho : o < s.o) (hz : z < s.z.out) (hy : y < s.y.out) (hx : x < s.x.out) (i : ℕ) {kz ky kx : ℕ} (hkz : kz < s.z.kernel) (hky : ky < s.y.kernel) (hkx : kx < s.x.kernel) where
  -- the numbers decode to what they were made of
  pub reading : place_of s (output_number s n g o z y x) (tap_number s i kz ky kx) ≡ tap_place s n g o z y x i kz ky kx
  unfolding place_of kernel_rows
  reading =
      let p = tap_parts backward s n g o z y x i kz ky kx h hg ho hz hy hx hkz hky hkx in
      rw (p.start, p.lies, p.channel, p.tap_channel, p.tap_position_lem, place_div g ho, place_mod g ho, flat_plane ((g * s.i + i) * s.o + o) s.z.kernel s.y.kernel s.x.kernel kz ky kx)

  -- a tap that reaches depth iz, row iy and column ix of image n, channel g·I + i
  pub reading_at : (iz iy ix : ℕ) → Reaches s.z z kz iz → Reaches s.y y ky iy → Reaches s.x x kx ix
      → place_of s (output_number s n g o z y x) (tap_number s i kz ky kx) ≡ at (input_number s n g i iz iy ix) (weight s g o i kz ky kx)
  unfolding reached
  reading_at iz iy ix a b c =
      reading
      ∙ rw (lies_inside backward Reaches reaches_at at_reaches s h z y x kz ky kx iz iy ix a b c)
      (ap (λ (p : ℕ). at p (weight s g o i kz ky kx)) (flat_plane (n * s.c + (g * s.i + i)) s.z.input s.y.input s.x.input iz iy ix))

  -- a tap that reaches no depth, row and column of the input takes no part
  pub reading_missing : ((iz iy ix : ℕ) → Reaches s.z z kz iz → Reaches s.y y ky iy → Reaches s.x x kx ix → ⊥)
      → place_of s (output_number s n g o z y x) (tap_number s i kz ky kx) ≡ missing
  unfolding reached
  reading_missing none = reading ∙ rw (lies_outside backward Reaches reaches_at at_reaches s h z y x kz ky kx none)

-- ---- "Transposed: output (n, g, o, z, y, x) starts at +0 and adds, by i, kz, ky, kx rising, input(iz, iy, ix)·weight for those taps where .."
pub output_reading : (s : Shape) (n : ℕ) {g o z y x : ℕ} → Grouped s → g < s.g → o < s.o → z < s.z.out → y < s.y.out → x < s.x.out → (input kernel : List Float)
    → output_of Running (place_of s) s.taps input kernel (output_number s n g o z y x)
    ≡ rising (λ i. rising (λ kz. rising (λ ky. rising (λ kx sum. add_tap sum (tap_at input kernel (tap_place s n g o z y x i kz ky kx))) s.x.kernel) s.y.kernel) s.z.kernel) s.i plus_zero
output_reading s n {g} {o} {z} {y} {x} h hg ho hz hy hx input kernel =
    nested_sum (place_of s) s h input kernel (output_number s n g o z y x) (tap_place s n g o z y x)
    (λ i kz ky kx hkz hky hkx. reading s n h hg ho hz hy hx i hkz hky hkx)
