-- Convolution in document 01's words: the places of its taps, for output (n, group g, o, z, y, x) and tap (i, kz, ky, kx), each at its row-major number, and
-- the sum over them by four nested loops; and the run of a halved sum.
use Rattle.std.specs.Prelude.{Some}
use mathlib.Core.Path.{◌≡◌, sym, ap, ◌∙◌}
use mathlib.Core.List.{List}
use Prim.Native.Nat.{ℕ, ◌+◌, ◌*◌, ◌/◌, ◌≤◌, ◌<◌}
use native.Mathlib.Nat.{add-mul, mul_assoc, add_assoc, zero-add, mod-lt}
use native.Mathlib.Omega.{arith}
use borrow.Author.Tests.{eqb-true, eq-eqb}
use lib.Ieee.{Float}
use Rattle.sizes.specs.declared.Span.{Span}
use Rattle.taps.specs.Joins.{joins, forward}
use Rattle.taps.proofs.Joins.{forward_finds, finds_at, at_finds}
use Rattle.shape.specs.declared.Shape.{Shape}
use Rattle.shape.specs.Facts.{Grouped}
use Rattle.shape.specs.Volumes.{kernel_rows}
use Rattle.tensor.specs.Table.{plus_zero}
use Rattle.sums.specs.declared.Profile.TheVariants.{Running, Halved}
use Rattle.sums.specs.Taps.{Place, outside, at, Factors, tap_at, add_tap, halved, inside_only, inside_taps_of, output_of}
use Rattle.sums.proofs.Outputs.{output_halved}
use Rattle.sums.proofs.Halved.{halved_same}
use Rattle.places.specs.Places.{placed, place_of}
use Rattle.places.proofs.Taps.{number_of_parts, channel_below}
use Rattle.readings.proofs.Shared.{output_number, tap_number, input_number, flat_plane, on_axes, tap_parts, lies_inside, lies_outside, rising, nested_sum}

-- "Tap ky lies at input row y·s - begin + ky·d": q is that row, or depth or column, of the input
pub record LiesAt (s : Span) (p k q : ℕ) : Type 0 where
  pub position : q + s.begin ≡ p * s.stride + k * s.dilation
  pub inside : q < s.input

-- the definition's tap is that row
lies_at : (s : Span) (p k q : ℕ) → 1 ≤ s.stride → LiesAt s p k q → forward s p k ≡ Some q
lies_at s p k q l h = finds_at s.input (joins s p k) (forward s p k) q (forward_finds s p k) h.inside (eq-eqb _ _ (sym h.position))

at_lies : (s : Span) (p k q : ℕ) → 1 ≤ s.stride → forward s p k ≡ Some q → LiesAt s p k q
at_lies s p k q l e =
    let u = at_finds s.input (joins s p k) (forward s p k) q (forward_finds s p k) e in
    record { position = sym (eqb-true (p * s.stride + k * s.dilation) (q + s.begin) u.1); inside = u.0 }

-- the place of weight (g, o, i, kz, ky, kx) in [G, O, I, KZ, KY, KX]
abbrev pub weight : Shape → ℕ → ℕ → ℕ → ℕ → ℕ → ℕ → ℕ
weight s g o i kz ky kx = ((((g * s.o + o) * s.i + i) * s.z.kernel + kz) * s.y.kernel + ky) * s.x.kernel + kx

weight_flat : (c i kz ky kx I KZ KY KX : ℕ) → c * (I * (KZ * KY) * KX) + (((i * KZ + kz) * KY + ky) * KX + kx) ≡ (((c * I + i) * KZ + kz) * KY + ky) * KX + kx
weight_flat c i kz ky kx I KZ KY KX = simp (add-mul, mul_assoc, add_assoc)

-- ---- one tap: in channel g·I + i of image n, at its depth, row and column
abbrev pub tap_place : Shape → ℕ → ℕ → ℕ → ℕ → ℕ → ℕ → ℕ → ℕ → ℕ → ℕ → Place
tap_place s n g o z y x i kz ky kx =
    placed
    ((n * s.c + (g * s.i + i)) * (s.z.input * s.y.input * s.x.input))
    (weight s g o i kz ky kx)
    (on_axes s (forward s.z z kz) (forward s.y y ky) (forward s.x x kx))

module _ (s : Shape) (n : ℕ) {g o z y x : ℕ} (h : Grouped s) (hg : g < s.g) (ho : o < s.o) (hz : z < s.z.out) (hy : y < s.y.out) (hx : x < s.x.out) (i : ℕ) {kz ky kx : ℕ} (hkz : kz < s.z.kernel) (hky : ky < s.y.kernel) (hkx : kx < s.x.kernel) where
  -- the numbers decode to what they were made of
  pub reading : place_of s (output_number s n g o z y x) (tap_number s i kz ky kx) ≡ tap_place s n g o z y x i kz ky kx
  unfolding place_of kernel_rows
  reading =
      let p = tap_parts forward s n g o z y x i kz ky kx h hg ho hz hy hx hkz hky hkx in
      rw (p.start, p.lies, p.channel, h.taps_is, weight_flat (g * s.o + o) i kz ky kx s.i s.z.kernel s.y.kernel s.x.kernel)

  -- a tap inside the input: depth iz, row iy and column ix of image n, channel g·I + i
  pub reading_inside : (iz iy ix : ℕ) → LiesAt s.z z kz iz → LiesAt s.y y ky iy → LiesAt s.x x kx ix
      → place_of s (output_number s n g o z y x) (tap_number s i kz ky kx) ≡ at (input_number s n g i iz iy ix) (weight s g o i kz ky kx)
  unfolding placed
  reading_inside iz iy ix a b c =
      reading
      ∙ rw (lies_inside forward LiesAt lies_at at_lies s h z y x kz ky kx iz iy ix a b c)
      (ap (λ (p : ℕ). at p (weight s g o i kz ky kx)) (flat_plane (n * s.c + (g * s.i + i)) s.z.input s.y.input s.x.input iz iy ix))

  -- a tap outside the input: it lies at no depth, row and column of it
  pub reading_outside : ((iz iy ix : ℕ) → LiesAt s.z z kz iz → LiesAt s.y y ky iy → LiesAt s.x x kx ix → ⊥)
      → place_of s (output_number s n g o z y x) (tap_number s i kz ky kx) ≡ outside (weight s g o i kz ky kx)
  unfolding placed
  reading_outside none = reading ∙ rw (lies_outside forward LiesAt lies_at at_lies s h z y x kz ky kx none)

-- ---- "output (n, group g, o, z, y, x) starts at +0 and adds input·weight for each tap, by i, then kz, then ky, then kx, all rising"
pub output_reading : (s : Shape) (n : ℕ) {g o z y x : ℕ} → Grouped s → g < s.g → o < s.o → z < s.z.out → y < s.y.out → x < s.x.out → (input kernel : List Float)
    → output_of Running (place_of s) s.taps input kernel (output_number s n g o z y x)
    ≡ rising (λ i. rising (λ kz. rising (λ ky. rising (λ kx sum. add_tap sum (tap_at input kernel (tap_place s n g o z y x i kz ky kx))) s.x.kernel) s.y.kernel) s.z.kernel) s.i plus_zero
output_reading s n {g} {o} {z} {y} {x} h hg ho hz hy hx input kernel =
    nested_sum (place_of s) s h input kernel (output_number s n g o z y x) (tap_place s n g o z y x)
    (λ i kz ky kx hkz hky hkx. reading s n h hg ho hz hy hx i hkz hky hkx)

-- ---- C-17: "a second summing profile for convolution, over all K taps, those outside the input included as +0 without a product": the run that the halved sum cuts, by
-- 01's indices. Any run that has tap (i, kz, ky, kx) at its row-major number, by i, then kz, then ky, then kx, all rising, is that run.
pub halved_reading : (s : Shape) (n : ℕ) {g o z y x : ℕ} → Grouped s → g < s.g → o < s.o → z < s.z.out → y < s.y.out → x < s.x.out → (input kernel : List Float) (taps : ℕ → Factors)
    → ((i kz ky kx : ℕ) → i < s.i → kz < s.z.kernel → ky < s.y.kernel → kx < s.x.kernel → taps (tap_number s i kz ky kx) ≡ tap_at input kernel (inside_only (tap_place s n g o z y x i kz ky kx)))
    → output_of Halved (place_of s) s.taps input kernel (output_number s n g o z y x) ≡ halved taps 0 s.taps
halved_reading s n {g} {o} {z} {y} {x} h hg ho hz hy hx input kernel taps e =
    output_halved (place_of s) s.taps input kernel (output_number s n g o z y x) ∙ halved_same _ taps 0 s.taps (λ t _ l. tap t (omega (arith, zero-add s.taps)))
  where
    tap : (t : ℕ) → t < s.taps → inside_taps_of (place_of s) input kernel (output_number s n g o z y x) t ≡ taps t
    tap t l =
        let hkz = mod-lt (t / s.x.kernel / s.y.kernel) h.sound.z.kernel_1 in
        let hky = mod-lt (t / s.x.kernel) h.sound.y.kernel_1 in
        let hkx = mod-lt t h.sound.x.kernel_1 in
        let i = t / s.x.kernel / s.y.kernel / s.z.kernel in
        let u = number_of_parts s t in
        ap (inside_taps_of (place_of s) input kernel (output_number s n g o z y x)) (sym u)
        ∙ ap (λ (p : Place). tap_at input kernel (inside_only p)) (reading s n h hg ho hz hy hx i hkz hky hkx)
        ∙ sym (e i _ _ _ (channel_below s h l) hkz hky hkx)
        ∙ ap taps u
