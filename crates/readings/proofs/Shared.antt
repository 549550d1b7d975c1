-- For both convolutions, in document 01's indices: the numbers of output (n, group g, o, z, y, x) and of tap (i, kz, ky, kx) taken apart, where the tap lies in
-- its input plane, and the sum over all taps of an output by four nested loops.
use Rattle.std.specs.Prelude.{None, Option, Some}
use mathlib.Core.Path.{◌≡◌, refl, sym, ap, ◌∙◌}
use mathlib.Core.List.{List}
use Prim.Native.Nat.{ℕ, zero, suc, ◌+◌, ◌*◌, ◌/◌, ◌%◌, ◌≤◌, ◌<◌}
use native.Mathlib.Nat.{add-mul, mul_assoc, add_assoc}
use native.Mathlib.Numerals.{add-one}
use native.Mathlib.Omega.{arith}
use lib.Ieee.{Float}
use Rattle.layer.proofs.Places.{place_within, place_div, place_mod}
use Rattle.sizes.specs.declared.Span.{Span}
use Rattle.taps.specs.Joins.{both}
use Rattle.shape.specs.declared.Shape.{Shape}
use Rattle.shape.specs.Facts.{Grouped}
use Rattle.shape.specs.Volumes.{input_rows, kernel_rows, out_rows, on_plane, input_plane, input_volume, kernel_volume, out_volume}
use Rattle.shape.proofs.Volumes.{rows_at, plane_at}
use Rattle.tensor.specs.Table.{plus_zero}
use Rattle.tensor.specs.Places.{flat_place}
use Rattle.sums.specs.declared.Profile.TheVariants.{Running}
use Rattle.sums.specs.Taps.{Place, Factors, tap_at, add_tap, sum_from, taps_of, output_of}
use Rattle.sums.proofs.Sums.{sum_same, sum_rows}
use Rattle.call.proofs.Planes.{line_flat}

-- ---- numbers

-- output (n, group g, o, z, y, x) of [N, G·O, OZ, OY, OX]: its channel is g·O + o
abbrev pub output_number : Shape → ℕ → ℕ → ℕ → ℕ → ℕ → ℕ → ℕ
output_number s n g o z y x = flat_place (s.g * s.o) s.z.out s.y.out s.x.out n (g * s.o + o) z y x

-- tap (i, kz, ky, kx) of [I, KZ, KY, KX]
abbrev pub tap_number : Shape → ℕ → ℕ → ℕ → ℕ → ℕ
tap_number s i kz ky kx = ((i * s.z.kernel + kz) * s.y.kernel + ky) * s.x.kernel + kx

-- depth iz, row iy and column ix of channel g·I + i of image n, of the input [N, C, IZ, IY, IX]
abbrev pub input_number : Shape → ℕ → ℕ → ℕ → ℕ → ℕ → ℕ → ℕ
input_number s n g i iz iy ix = flat_place s.c s.z.input s.y.input s.x.input n (g * s.i + i) iz iy ix

-- the place in its plane, of z depths with y rows of x columns
abbrev pub in_plane : ℕ → ℕ → ℕ → ℕ → ℕ → ℕ
in_plane y x depth row column = (depth * y + row) * x + column

pub flat_plane : (a z y x depth row column : ℕ) → a * (z * y * x) + in_plane y x depth row column ≡ (((a * z + depth) * y + row) * x + column)
flat_plane a z y x depth row column = line_flat a (z * y) x (depth * y + row) column ∙ ap (λ (r : ℕ). r * x + column) (line_flat a z y depth row)

group_plane : (n g o i G O I : ℕ) → o < O → (n * (G * O) + (g * O + o)) / O * I + i ≡ n * (G * I) + (g * I + i)
group_plane n g o i G O I h =
    let e : n * (G * O) + (g * O + o) ≡ (n * G + g) * O + o = simp (add-mul, mul_assoc, add_assoc) in
    let d : (n * (G * O) + (g * O + o)) / O ≡ n * G + g = ap (λ (a : ℕ). a / O) e ∙ place_div (n * G + g) h in
    rw d (simp (add-mul, mul_assoc, add_assoc))

-- depth d, row r and column c of plane a, by its number in planes of z depths with y rows of x columns
pub record PlaneAt (z y x a d r c : ℕ) : Type 0 where
  pub plane : (((a * z + d) * y + r) * x + c) / (z * y * x) ≡ a
  pub position : (((a * z + d) * y + r) * x + c) % (z * y * x) ≡ in_plane y x d r c

pub plane_number : (z y x a : ℕ) {d r c : ℕ} → d < z → r < y → c < x → PlaneAt z y x a d r c
plane_number z y x a {d} {r} {c} hd hr hc =
    let l : in_plane y x d r c < z * y * x = place_within (place_within hd hr) hc in
    let e = sym (flat_plane a z y x d r c) in
    record {
      plane = ap (λ (n : ℕ). n / (z * y * x)) e ∙ place_div a l;
      position = ap (λ (n : ℕ). n % (z * y * x)) e ∙ place_mod a l;
    }

-- ---- what the place of a tap is made of

-- where a tap lies that lies at these places on the axes
abbrev pub on_axes : Shape → Option ℕ → Option ℕ → Option ℕ → Option ℕ
on_axes s z y x = both s.x.input (both s.y.input z y) x

module _ (f : Span → ℕ → ℕ → Option ℕ) (s : Shape) (n g o z y x i kz ky kx : ℕ) where
  abbrev j : ℕ
  j = output_number s n g o z y x

  abbrev t : ℕ
  t = tap_number s i kz ky kx

  pub record TapParts : Type 0 where
    -- the output's channel
    pub channel : j / out_volume s % s.channels ≡ g * s.o + o
    -- the tap's channel among the I of its group, and its position in that channel's kernel plane
    pub tap_channel : t / kernel_volume s ≡ i
    pub tap_position_lem : t % kernel_volume s ≡ in_plane s.y.kernel s.x.kernel kz ky kx
    -- where its input plane begins: channel g·I + i of image n
    pub start : input_plane s (j / out_volume s) (t / kernel_volume s) * input_volume s ≡ (n * s.c + (g * s.i + i)) * (s.z.input * s.y.input * s.x.input)
    -- and where it lies there
    pub lies : on_plane f s (j % out_volume s) (t % kernel_volume s) ≡ on_axes s (f s.z z kz) (f s.y y ky) (f s.x x kx)

  pub tap_parts : Grouped s → g < s.g → o < s.o → z < s.z.out → y < s.y.out → x < s.x.out
      → kz < s.z.kernel → ky < s.y.kernel → kx < s.x.kernel → TapParts
  unfolding input_rows kernel_rows out_rows
  tap_parts h hg ho hz hy hx hkz hky hkx =
      let a = plane_number s.z.out s.y.out s.x.out (n * (s.g * s.o) + (g * s.o + o)) hz hy hx in
      let b = plane_number s.z.kernel s.y.kernel s.x.kernel i hkz hky hkx in
      record {
        channel = rw (a.plane, h.channels_is) (place_mod n (place_within hg ho));
        tap_channel = b.plane;
        tap_position_lem = b.position;
        start = rw (a.plane, b.plane, h.c_is, group_plane n g o i s.g s.o s.i ho);
        lies =
            rw (a.position, b.position)
            (plane_at f s (z * s.y.out + y) (kz * s.y.kernel + ky) hx hkx
            ∙ ap (λ (r : Option ℕ). both s.x.input r (f s.x x kx)) (rows_at f s z kz hy hky));
      }

-- ---- where a tap lies on the axes: `Lies` says what 01 says of one
module _ (f : Span → ℕ → ℕ → Option ℕ) (Lies : Span → ℕ → ℕ → ℕ → Type 0) (lies_at_lem : (a : Span) (p k q : ℕ) → 1 ≤ a.stride → Lies a p k q → f a p k ≡ Some q) (at_lies : (a : Span) (p k q : ℕ) → 1 ≤ a.stride → f a p k ≡ Some q → Lies a p k q) (s : Shape) (h : Grouped s) (z y x kz ky kx : ℕ) where
  -- at a depth, a row and a column
  pub lies_inside : (iz iy ix : ℕ) → Lies s.z z kz iz → Lies s.y y ky iy → Lies s.x x kx ix
      → on_axes s (f s.z z kz) (f s.y y ky) (f s.x x kx) ≡ Some (in_plane s.y.input s.x.input iz iy ix)
  unfolding both
  lies_inside iz iy ix a b c =
      rw (lies_at_lem s.z z kz iz h.sound.z.stride_1 a, lies_at_lem s.y y ky iy h.sound.y.stride_1 b, lies_at_lem s.x x kx ix h.sound.x.stride_1 c)

  -- at no depth, row and column together
  pub lies_outside : ((iz iy ix : ℕ) → Lies s.z z kz iz → Lies s.y y ky iy → Lies s.x x kx ix → ⊥)
      → on_axes s (f s.z z kz) (f s.y y ky) (f s.x x kx) ≡ None
  unfolding both
  lies_outside none = go (f s.z z kz) (f s.y y ky) (f s.x x kx) refl refl refl
    where
      go : (a b c : Option ℕ) → f s.z z kz ≡ a → f s.y y ky ≡ b → f s.x x kx ≡ c → on_axes s a b c ≡ None
      go (Some iz) (Some iy) (Some ix) ea eb ec =
          absurd
          (none iz iy ix (at_lies s.z z kz iz h.sound.z.stride_1 ea) (at_lies s.y y ky iy h.sound.y.stride_1 eb)
          (at_lies s.x x kx ix h.sound.x.stride_1 ec))
      go (Some iz) (Some iy) None ea eb ec = refl
      go (Some iz) None c ea eb ec = refl
      go None b c ea eb ec = refl

-- ---- the sum over all taps of an output, by four nested loops

-- step 0, step 1, .., step (n - 1), one after another
unfoldable pub rising : (ℕ → Float → Float) → ℕ → Float → Float
rising step zero sum = sum
rising step (suc n) sum = step n (rising step n sum)

rising_same : (f g : ℕ → Float → Float) (n : ℕ) (sum : Float) → ((k : ℕ) → k < n → (a : Float) → f k a ≡ g k a) → rising f n sum ≡ rising g n sum
unfolding rising
rising_same f g zero sum h = refl
rising_same f g (suc n) sum h = ap (f n) (rising_same f g n sum (λ k l. h k (omega arith))) ∙ h n (omega arith) (rising g n sum)

rising_taps : (taps : ℕ → Factors) (n : ℕ) (sum : Float) → rising (λ k a. add_tap a (taps k)) n sum ≡ sum_from sum taps n
unfolding rising sum_from
rising_taps taps zero sum = refl
rising_taps taps (suc n) sum = ap (λ (a : Float). add_tap a (taps n)) (rising_taps taps n sum)

rising_rows : (taps : ℕ → Factors) (m n : ℕ) (sum : Float) → rising (λ r a. sum_from a (λ t. taps (r * m + t)) m) n sum ≡ sum_from sum taps (n * m)
unfolding rising
rising_rows taps m n sum = sum_rows (λ r. rising (λ r a. sum_from a (λ t. taps (r * m + t)) m) r sum) taps m n (λ r l. rw add-one)

-- taps numbered by i, then b, then a
nested : (taps : ℕ → Factors) (c b a : ℕ) (sum : Float)
    → rising (λ i. rising (λ k. rising (λ l s. add_tap s (taps ((i * b + k) * a + l))) a) b) c sum ≡ sum_from sum taps (c * b * a)
nested taps c b a sum =
    rising_same _ _ c sum (λ i l s.
    rising_same _ (λ k s. sum_from s (λ t. taps (i * (b * a) + (k * a + t))) a) b s (λ k m s.
    rising_taps (λ l. taps ((i * b + k) * a + l)) a s ∙ sum_same s _ _ a (λ t l. ap taps (simp (add-mul, mul_assoc, add_assoc))))
    ∙ rising_rows (λ t. taps (i * (b * a) + t)) a b s)
    ∙ rising_rows taps (b * a) c sum
    ∙ ap (sum_from sum taps) (sym (mul_assoc c b a))

-- and by i, then kz, then ky, then kx
nested_depths : (taps : ℕ → Factors) (c d b a : ℕ) (sum : Float)
    → rising (λ i. rising (λ m. rising (λ k. rising (λ l s. add_tap s (taps (((i * d + m) * b + k) * a + l))) a) b) d) c sum ≡ sum_from sum taps (c * (d * b) * a)
nested_depths taps c d b a sum =
    rising_same _ _ c sum (λ i h s.
    rising_same _ (λ m. rising (λ k. rising (λ l s. add_tap s (taps (i * (d * b * a) + ((m * b + k) * a + l)))) a) b) d s (λ m h s. rising_same _ _ b s (λ k h s.
    rising_same _ _ a s (λ l h s. ap (λ (t : ℕ). add_tap s (taps t)) (sym (flat_plane i d b a m k l)))))
    ∙ nested (λ t. taps (i * (d * b * a) + t)) d b a s)
    ∙ rising_rows taps (d * b * a) c sum
    ∙ ap (sum_from sum taps) (sym (mul_assoc c (d * b) a))

-- output j of a convolution: `tap` tells the places of its taps by i, kz, ky and kx
pub nested_sum : (place : ℕ → ℕ → Place) (s : Shape) → Grouped s → (input kernel : List Float) (j : ℕ) (tap : ℕ → ℕ → ℕ → ℕ → Place)
    → ((i kz ky kx : ℕ) → kz < s.z.kernel → ky < s.y.kernel → kx < s.x.kernel → place j (tap_number s i kz ky kx) ≡ tap i kz ky kx)
    → output_of Running place s.taps input kernel j
    ≡ rising (λ i. rising (λ kz. rising (λ ky. rising (λ kx sum. add_tap sum (tap_at input kernel (tap i kz ky kx))) s.x.kernel) s.y.kernel) s.z.kernel) s.i plus_zero
unfolding output_of kernel_rows
nested_sum place s h input kernel j tap e =
    ap (sum_from plus_zero (taps_of place input kernel j)) h.taps_is
    ∙ sym (nested_depths (taps_of place input kernel j) s.i s.z.kernel s.y.kernel s.x.kernel plus_zero)
    ∙ rising_same _ _ s.i plus_zero (λ i hi a. rising_same _ _ s.z.kernel a (λ kz hkz a. rising_same _ _ s.y.kernel a (λ ky hky a.
    rising_same _ _ s.x.kernel a (λ kx hkx a. ap (λ (p : Place). add_tap a (tap_at input kernel p)) (e i kz ky kx hkz hky hkx)))))
