-- Output q of image n in a batch: its plane is n·channels planes behind that of output q of one image, and its position there is the same; so is its channel.
use mathlib.Core.Path.{◌≡◌, sym, ap, ◌∙◌}
use Prim.Native.Nat.{ℕ, ◌+◌, ◌*◌, ◌/◌, ◌%◌, ◌≤◌}
use native.Mathlib.Nat.{add-mul, mul_assoc, add_assoc, mul-add-div_right, mul-add-mod_self_right, one-mul}
use Rattle.layer.specs.declared.Op.{Op}
use Rattle.layer.specs.declared.Layer.{Layer}
use Rattle.shape.specs.declared.Shape.{Shape}
use Rattle.shape.specs.Counts.{shape_of}
use Rattle.shape.specs.Facts.{Sound}
use Rattle.shape.specs.Volumes.{input_rows, out_rows, input_volume, out_volume}
use Rattle.call.proofs.Planes.{inputs_are, outputs_are}
use Rattle.images.specs.Images.{one_image}

-- ---- the elements of one image, of input and output

abbrev pub input_size : Shape → ℕ
input_size s = s.c * input_volume s

abbrev pub output_size : Shape → ℕ
output_size s = s.channels * out_volume s

pub inputs_by_images : (s : Shape) → Sound s → s.inputs ≡ s.n * input_size s
inputs_by_images s h = inputs_are s h ∙ mul_assoc s.n s.c (input_volume s)

pub outputs_by_images : (s : Shape) → Sound s → s.outputs ≡ s.n * output_size s
outputs_by_images s h = outputs_are s h ∙ mul_assoc s.n s.channels (out_volume s)

-- the layer with one image has them too, and no more
module _ (op : Op) (l : Layer) (h : Sound (shape_of op (one_image l))) where
  pub one_inputs : (shape_of op (one_image l)).inputs ≡ input_size (shape_of op l)
  unfolding input_rows
  one_inputs = inputs_by_images (shape_of op (one_image l)) h ∙ one-mul _

  pub one_outputs : (shape_of op (one_image l)).outputs ≡ output_size (shape_of op l)
  unfolding out_rows
  one_outputs = outputs_by_images (shape_of op (one_image l)) h ∙ one-mul _

-- ---- the planes of an image, of `volume` positions each
module _ (n channels volume q : ℕ) (h : 1 ≤ volume) where
  flat : n * (channels * volume) + q ≡ n * channels * volume + q
  flat = ap (λ (m : ℕ). m + q) (sym (mul_assoc n channels volume))

  pub image_plane : (n * (channels * volume) + q) / volume ≡ n * channels + q / volume
  image_plane = ap (λ (m : ℕ). m / volume) flat ∙ mul-add-div_right h (n * channels) q

  pub image_position : (n * (channels * volume) + q) % volume ≡ q % volume
  image_position = ap (λ (m : ℕ). m % volume) flat ∙ mul-add-mod_self_right (n * channels) volume q

  pub image_channel : (n * (channels * volume) + q) / volume % channels ≡ q / volume % channels
  image_channel = ap (λ (m : ℕ). m % channels) image_plane ∙ mul-add-mod_self_right n channels (q / volume)

-- where plane p of an image begins, with c planes in each
pub plane_moved : (n c p volume : ℕ) → (n * c + p) * volume ≡ n * (c * volume) + p * volume
plane_moved n c p volume = simp (add-mul, mul_assoc)

-- the input planes of a group's output plane p, where an image has g groups
pub group_moved : (n g o i channels c p u volume : ℕ) → 1 ≤ o → channels ≡ g * o → c ≡ g * i
    → ((n * channels + p) / o * i + u) * volume ≡ n * (c * volume) + (p / o * i + u) * volume
group_moved n g o i channels c p u volume h k e =
    let a : n * channels + p ≡ n * g * o + p = ap (λ (m : ℕ). m + p) (ap (λ (m : ℕ). n * m) k ∙ sym (mul_assoc n g o)) in
    let d : (n * channels + p) / o ≡ n * g + p / o = ap (λ (m : ℕ). m / o) a ∙ mul-add-div_right h (n * g) p in
    let b : (n * g + p / o) * i + u ≡ n * (g * i) + (p / o * i + u) = simp (add-mul, mul_assoc, add_assoc) in
    rw (d, e, b) (plane_moved n (g * i) (p / o * i + u) volume)
