-- Numbers of an accepted shape by planes, rows and columns, for every operator: products of its sizes, and an output's and a tap's number taken apart.
use mathlib.Core.Path.{◌≡◌, sym, ap, ◌∙◌}
use Prim.Native.Nat.{ℕ, ◌+◌, ◌*◌, ◌/◌, ◌%◌, ◌≤◌, ◌<◌}
use native.Mathlib.Nat.{mul-pos, mul_assoc, mul_comm, le-mul_of_pos_right, add-mul, add_assoc, div-add-mod', mod-lt}
use native.Mathlib.Omega.{arith}
use Rattle.layer.proofs.Places.{place_div, place_mod, place_within, div_within}
use Rattle.shape.specs.Facts.{Sound, Grouped}
use Rattle.shape.specs.declared.Shape.{Shape}
use Rattle.shape.specs.Volumes.{input_rows, kernel_rows, out_rows, input_volume, kernel_volume, out_volume}

-- ---- a number by its plane and its position there, or by its line and its column; a line is a row of any plane

-- row b of plane a is line a·r + b
pub line_flat : (a r w b c : ℕ) → a * (r * w) + (b * w + c) ≡ (a * r + b) * w + c
line_flat a r w b c = simp (add-mul, mul_assoc, add_assoc)

pub record PlaneParts (r w j : ℕ) : Type 0 where
  pub plane : j / (r * w) ≡ j / w / r
  pub row : j % (r * w) / w ≡ j / w % r
  pub column : j % (r * w) % w ≡ j % w
  pub position : j % (r * w) ≡ j / w % r * w + j % w

pub plane_parts : (r w j : ℕ) → 1 ≤ r → 1 ≤ w → PlaneParts r w j
plane_parts r w j hr hw =
    let b = mod-lt (j / w) hr in
    let c = mod-lt j hw in
    let l = place_within b c in
    let e : j ≡ j / w / r * (r * w) + (j / w % r * w + j % w) = sym (line_flat (j / w / r) r w _ _ ∙ ap (λ (n : ℕ). n * w + j % w) (div-add-mod' (j / w) r) ∙ div-add-mod' j w) in
    let m : j % (r * w) ≡ j / w % r * w + j % w = ap (λ (n : ℕ). n % (r * w)) e ∙ place_mod (j / w / r) l in
    record {
      plane = ap (λ (n : ℕ). n / (r * w)) e ∙ place_div (j / w / r) l;
      row = ap (λ (n : ℕ). n / w) m ∙ place_div (j / w % r) c;
      column = ap (λ (n : ℕ). n % w) m ∙ place_mod (j / w % r) c;
      position = m;
    }

-- ---- products of a shape's sizes
pub record Products (s : Shape) : Type 0 where
  pub out_rows_max : out_rows s ≤ 16777216
  pub planes_max : s.n * s.c ≤ 16777216
  pub planes_lines : s.n * s.c ≤ s.n * s.c * input_rows s
  pub lines_inputs : s.n * s.c * input_rows s ≤ s.inputs

pub products : (s : Shape) → Sound s → Products s
products s h =
    let d = rw mul_comm at (le-mul_of_pos_right (out_rows s) (mul-pos h.n_1 h.channels_1)) in
    let c = le-mul_of_pos_right (s.n * s.channels * out_rows s) h.x.out_1 in
    let p1 = le-mul_of_pos_right (s.n * s.c) h.input_rows_1 in
    let p2 = le-mul_of_pos_right (s.n * s.c * input_rows s) h.x.input_1 in
    record {
      out_rows_max = omega (arith, h.outputs_max, h.outputs_is);
      planes_max = omega (arith, h.inputs_max, h.inputs_is);
      planes_lines = p1;
      lines_inputs = omega (arith, h.inputs_is);
    }

-- kernel rows are at most the taps
pub rows_taps : (s : Shape) → Grouped s → s.i * kernel_rows s ≤ s.taps
rows_taps s h = omega (arith, h.taps_is, le-mul_of_pos_right (s.i * kernel_rows s) h.sound.x.kernel_1)

pub weights_pos : (s : Shape) → Grouped s → 1 ≤ s.weights
weights_pos s h = rw h.weights_by_input (mul-pos (mul-pos (mul-pos h.sound.c_1 h.o_1) h.sound.kernel_rows_1) h.sound.x.kernel_1)

-- ---- counts by planes and positions
pub inputs_are : (s : Shape) → Sound s → s.inputs ≡ s.n * s.c * input_volume s
inputs_are s h = h.inputs_is ∙ mul_assoc (s.n * s.c) (input_rows s) s.x.input

pub outputs_are : (s : Shape) → Sound s → s.outputs ≡ s.n * s.channels * out_volume s
outputs_are s h = h.outputs_is ∙ mul_assoc (s.n * s.channels) (out_rows s) s.x.out

pub taps_are : (s : Shape) → Grouped s → s.taps ≡ s.i * kernel_volume s
taps_are s h = h.taps_is ∙ mul_assoc s.i (kernel_rows s) s.x.kernel

pub weights_are : (s : Shape) → Grouped s → s.weights ≡ s.c * s.o * kernel_volume s
weights_are s h = h.weights_by_input ∙ mul_assoc (s.c * s.o) (kernel_rows s) s.x.kernel

-- the plane of an output and the channel of a tap lie in their counts
pub output_plane : (s : Shape) {j : ℕ} → Sound s → j < s.outputs → j / out_volume s < s.n * s.channels
output_plane s {j} h l = div_within (s.n * s.channels) (out_volume s) (omega (arith, outputs_are s h))

pub tap_channel : (s : Shape) {t : ℕ} → Grouped s → t < s.taps → t / kernel_volume s < s.i
tap_channel s {t} h l = div_within s.i (kernel_volume s) (omega (arith, taps_are s h))

-- an output plane is (n·G + g)·O + o; its group's input planes are (n·G + g)·I, .., (n·G + g)·I + I - 1
pub group_within : (s : Shape) {p : ℕ} → Grouped s → p < s.n * s.channels → p / s.o < s.n * s.g
group_within s {p} h l =
    let e : s.n * s.channels ≡ s.n * s.g * s.o = ap (λ (c : ℕ). s.n * c) h.channels_is ∙ sym (mul_assoc s.n s.g s.o) in
    div_within (s.n * s.g) s.o (omega arith)

pub planes_are : (s : Shape) → Grouped s → s.n * s.c ≡ s.n * s.g * s.i
planes_are s h = ap (λ (c : ℕ). s.n * c) h.c_is ∙ sym (mul_assoc s.n s.g s.i)
