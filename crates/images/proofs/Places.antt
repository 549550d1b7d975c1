-- The places of both convolutions stay in the output's image: an output's planes of the input move by whole images, its weights and positions do not move.
use Rattle.std.specs.Prelude.{None, Option, Some}
use mathlib.Core.Path.{◌≡◌, refl, ap, ◌∙◌}
use Prim.Native.Nat.{ℕ, ◌+◌, ◌*◌, ◌/◌, ◌%◌, ◌≤◌}
use native.Mathlib.Nat.{mul-pos, add_assoc}
use Rattle.layer.specs.declared.Op.{Op}
use Rattle.layer.specs.declared.Op.TheVariants.{Convolution, Transposed}
use Rattle.layer.specs.declared.Layer.{Layer}
use Rattle.sizes.specs.declared.Span.{Span}
use Rattle.taps.specs.Joins.{forward, backward}
use Rattle.shape.specs.declared.Shape.{Shape}
use Rattle.shape.specs.Counts.{shape_of}
use Rattle.shape.specs.Facts.{Sound, Grouped}
use Rattle.shape.specs.Volumes.{input_rows, kernel_rows, out_rows, on_rows, on_plane, input_plane, input_volume, kernel_volume, out_volume}
use Rattle.sums.specs.Taps.{Place, at}
use Rattle.places.specs.Places.{placed, place_of}
use Rattle.transposed.specs.Transposed.{kernel_plane, reached, place_of as transposedPlaceOf}
use Rattle.images.specs.Images.{one_image}
use Rattle.images.proofs.Numbers.{input_size, output_size, image_plane, image_position, image_channel, group_moved}
use Rattle.images.proofs.Sums.{moved, Stays}

pub volume_1 : (s : Shape) → Sound s → 1 ≤ out_volume s
volume_1 s h = mul-pos h.out_rows_1 h.x.out_1

-- ---- what the place of a tap is made of, for output q of image n beside output q of the layer with one image
module _ (op : Op) (l : Layer) (h : Grouped (shape_of op l)) (n q u : ℕ) where
  abbrev s : Shape
  s = shape_of op l

  abbrev t : Shape
  t = shape_of op (one_image l)

  abbrev j : ℕ
  j = n * output_size s + q

  -- where the tap's input plane begins
  start_moved : input_plane s (j / out_volume s) (u / kernel_volume s) * input_volume s
      ≡ n * input_size s + input_plane t (q / out_volume t) (u / kernel_volume t) * input_volume t
  unfolding input_rows kernel_rows out_rows
  start_moved =
      ap (λ (p : ℕ). (p / s.o * s.i + u / kernel_volume s) * input_volume s) (image_plane n s.channels (out_volume s) q (volume_1 s h.sound))
      ∙ group_moved n s.g s.o s.i s.channels s.c (q / out_volume s) (u / kernel_volume s) (input_volume s) h.o_1 h.channels_is h.c_is

  -- the output's channel
  channel_same : j / out_volume s % s.channels ≡ q / out_volume t % t.channels
  unfolding out_rows
  channel_same = image_channel n s.channels (out_volume s) q (volume_1 s h.sound)

  -- where the tap lies in its plane
  lies_same : (f : Span → ℕ → ℕ → Option ℕ) → on_plane f s (j % out_volume s) (u % kernel_volume s) ≡ on_plane f t (q % out_volume t) (u % kernel_volume t)
  unfolding out_rows kernel_rows on_rows on_plane
  lies_same f = ap (λ (p : ℕ). on_plane f s p (u % kernel_volume s)) (image_position n s.channels (out_volume s) q (volume_1 s h.sound))

-- ---- a tap by where it lies, `f` being `placed` or `reached`: inside, its place is counted from where its plane begins; outside, it has none
module _ (f : ℕ → ℕ → Option ℕ → Place) (inside : (start weight p : ℕ) → f start weight (Some p) ≡ at (start + p) weight) (outside : (more a b weight : ℕ) → f a weight None ≡ moved more (f b weight None)) where
  tap_moved : (more a b v w : ℕ) (y z : Option ℕ) → a ≡ more + b → v ≡ w → y ≡ z → f a v y ≡ moved more (f b w z)
  tap_moved more a b v w y (Some p) e g k = rw (e, g, k, inside (more + b) w p, inside b w p, add_assoc more b p)
  tap_moved more a b v w y None e g k = rw (g, k) (outside more a b w)

pub convolution_stays : Stays Convolution place_of
unfolding placed place_of
convolution_stays l h n q u =
    tap_moved placed (λ a w p. refl) (λ m a b w. refl) _ _ _ _ _ _ _ (start_moved Convolution l h n q u)
    (ap (λ (c : ℕ). c * (shape_of Convolution l).taps + u) (channel_same Convolution l h n q u)) (lies_same Convolution l h n q u forward)

pub transposed_stays : Stays Transposed transposedPlaceOf
unfolding reached transposedPlaceOf kernel_rows
transposed_stays l h n q u =
    let s = shape_of Transposed l in
    tap_moved reached (λ a w p. refl) (λ m a b w. refl) _ _ _ _ _ _ _ (start_moved Transposed l h n q u)
    (ap (λ (c : ℕ). kernel_plane s c (u / kernel_volume s) * kernel_volume s + u % kernel_volume s) (channel_same Transposed l h n q u))
    (lies_same Transposed l h n q u backward)
