-- An output's taps by channel, depth, row and column: what each has for the sum over the taps inside the input.
use Rattle.std.specs.Prelude.{None, Option, Some}
use mathlib.Core.Path.{◌≡◌, sym, ap, ap₂, ◌∙◌}
use mathlib.Core.List.{List}
use Prim.Native.Nat.{ℕ, ◌+◌, ◌*◌, ◌/◌, ◌%◌, ◌≤◌, ◌<◌}
use native.Mathlib.Nat.{mul_assoc, mod-lt, div-add-mod'}
use native.Mathlib.Omega.{arith}
use lib.Ieee.{Float}
use Rattle.layer.proofs.Places.{place_div, place_mod, place_within, part_within, div_within}
use Rattle.taps.specs.Joins.{forward, both}
use Rattle.shape.specs.declared.Shape.{Shape}
use Rattle.shape.specs.Facts.{Grouped}
use Rattle.shape.specs.Volumes.{out_rows, input_plane, input_volume, kernel_volume, on_rows}
use Rattle.shape.proofs.Volumes.{plane_at, rows_at, kernel_rows_are}
use Rattle.tensor.specs.Table.{read}
use Rattle.sums.specs.Taps.{none, pair, tap_at, inside_only}
use Rattle.call.proofs.Planes.{line_flat, plane_parts}
use Rattle.places.specs.Places.{weight_place, placed, place_of}
use Rattle.places.specs.Taps.{plane_taps}

-- the taps of a channel by depths
pub volume_is : (s : Shape) → s.z.kernel * plane_taps s ≡ kernel_volume s
volume_is s = sym (ap (λ (n : ℕ). n * s.x.kernel) (kernel_rows_are s) ∙ mul_assoc s.z.kernel s.y.kernel s.x.kernel)

-- the number of a tap by its row's number among all rows of the kernel
pub row_number_is : (s : Shape) (i a b k : ℕ) → ((i * s.z.kernel + a) * s.y.kernel + b) * s.x.kernel + k ≡ i * kernel_volume s + (a * plane_taps s + (b * s.x.kernel + k))
row_number_is s i a b k =
    sym (ap₂ (λ (n m : ℕ). i * n + m) (sym (volume_is s)) (line_flat a s.y.kernel s.x.kernel b k)
    ∙ ap (λ (n : ℕ). i * n + ((a * s.y.kernel + b) * s.x.kernel + k)) (sym (mul_assoc s.z.kernel s.y.kernel s.x.kernel))
    ∙ line_flat i (s.z.kernel * s.y.kernel) s.x.kernel (a * s.y.kernel + b) k
    ∙ ap (λ (n : ℕ). n * s.x.kernel + k) (line_flat i s.z.kernel s.y.kernel a b))

-- the taps of a row, up to the one before `end`, lie in their channel
pub row_in_volume : (s : Shape) {a b end : ℕ} → a < s.z.kernel → b < s.y.kernel → end ≤ s.x.kernel → a * plane_taps s + (b * s.x.kernel + end) ≤ kernel_volume s
row_in_volume s {a} {b} ha hb he =
    let u = part_within {a = a * s.y.kernel + b} {n = s.z.kernel * s.y.kernel} s.x.kernel (place_within ha hb) in
    rw (line_flat a s.y.kernel s.x.kernel b _, kernel_rows_are s) (omega arith)

-- any tap by its channel, depth, row and column
pub number_of_parts : (s : Shape) (t : ℕ)
    → ((t / s.x.kernel / s.y.kernel / s.z.kernel * s.z.kernel + t / s.x.kernel / s.y.kernel % s.z.kernel) * s.y.kernel + t / s.x.kernel % s.y.kernel) * s.x.kernel + t % s.x.kernel ≡ t
number_of_parts s t =
    ap (λ (n : ℕ). (n * s.y.kernel + t / s.x.kernel % s.y.kernel) * s.x.kernel + t % s.x.kernel) (div-add-mod' (t / s.x.kernel / s.y.kernel) s.z.kernel)
    ∙ ap (λ (n : ℕ). n * s.x.kernel + t % s.x.kernel) (div-add-mod' (t / s.x.kernel) s.y.kernel)
    ∙ div-add-mod' t s.x.kernel

pub taps_by_axes : (s : Shape) → Grouped s → s.taps ≡ s.i * s.z.kernel * s.y.kernel * s.x.kernel
taps_by_axes s h = h.taps_is ∙ ap (λ (n : ℕ). n * s.x.kernel) (ap (λ (n : ℕ). s.i * n) (kernel_rows_are s) ∙ sym (mul_assoc s.i s.z.kernel s.y.kernel))

pub channel_below : (s : Shape) → Grouped s → {t : ℕ} → t < s.taps → t / s.x.kernel / s.y.kernel / s.z.kernel < s.i
channel_below s h l =
    div_within s.i s.z.kernel (div_within (s.i * s.z.kernel) s.y.kernel (div_within (s.i * s.z.kernel * s.y.kernel) s.x.kernel (rw (taps_by_axes s h) at l)))

-- tap k of row b of depth a of channel i, of output p of a line
abbrev pub tap_number : Shape → ℕ → ℕ → ℕ → ℕ → ℕ
tap_number s i a b k = i * kernel_volume s + (a * plane_taps s + (b * s.x.kernel + k))

module _ (s : Shape) (h : Grouped s) (line i : ℕ) {p a b k : ℕ} (hp : p < s.x.out) (ha : a < s.z.kernel) (hb : b < s.y.kernel) (hk : k < s.x.kernel) where
  -- where it lies in its plane, along all axes
  abbrev pub lies : Option ℕ
  lies = both s.x.input (both s.y.input (forward s.z (line % out_rows s / s.y.out) a) (forward s.y (line % out_rows s % s.y.out) b)) (forward s.x p k)

  row_first : a * plane_taps s + (b * s.x.kernel + k) ≡ (a * s.y.kernel + b) * s.x.kernel + k
  row_first = line_flat a s.y.kernel s.x.kernel b k

  in_volume : a * plane_taps s + (b * s.x.kernel + k) < kernel_volume s
  in_volume = let l = row_in_volume s ha hb hk in omega arith

  on_rows_lem : on_rows forward s (line % out_rows s) (a * s.y.kernel + b) ≡ both s.y.input (forward s.z (line % out_rows s / s.y.out) a) (forward s.y (line % out_rows s % s.y.out) b)
  on_rows_lem =
      ap (λ (r : ℕ). on_rows forward s r (a * s.y.kernel + b)) (sym (div-add-mod' (line % out_rows s) s.y.out))
      ∙ rows_at forward s (line % out_rows s / s.y.out) a (mod-lt (line % out_rows s) h.sound.y.out_1) hb

  pub place_at : place_of s (line * s.x.out + p) (tap_number s i a b k)
      ≡ placed (input_plane s (line / out_rows s) i * input_volume s) (weight_place s (line / out_rows s) (tap_number s i a b k)) lies
  unfolding place_of
  place_at =
      let j = plane_parts (out_rows s) s.x.out (line * s.x.out + p) h.sound.out_rows_1 h.sound.x.out_1 in
      rw (j.plane, j.position, place_div line hp, place_mod line hp, place_div i in_volume, place_mod i in_volume, row_first, plane_at forward s (line % out_rows s) (a * s.y.kernel + b) hp hk, on_rows_lem)

-- ---- what it has for the sum

pub placed_none : (input kernel : List Float) (start weight : ℕ) (t : Option ℕ) → t ≡ None → tap_at input kernel (inside_only (placed start weight t)) ≡ none
unfolding placed inside_only tap_at
placed_none input kernel start weight t e = rw e

pub placed_pair : (input kernel : List Float) (start weight q : ℕ) (t : Option ℕ) → t ≡ Some q → tap_at input kernel (inside_only (placed start weight t)) ≡ pair (read input (start + q)) (read kernel weight)
unfolding placed inside_only tap_at
placed_pair input kernel start weight q t e = rw e
