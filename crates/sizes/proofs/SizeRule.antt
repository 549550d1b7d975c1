-- One size rule: every mode of convolution and pooling has the explicit size with its own pads, and is refused with 5 where the kernel does not fit the axis so
-- padded. Valid is by division with one stride more; a same mode's total is what its last window lacks.
use Prim.Native.Nat.{ℕ, zero, suc, ◌+◌, ◌-◌, ◌*◌, ◌/◌, ◌≤◌, ◌<◌}
use native.Mathlib.Nat.{mul-add-div_right, one-mul, zero-mul, add-mul, div-le_self, le-div_iff_mul-le, div-lt_iff_lt-mul}
use native.Mathlib.Omega.{arith}
use mathlib.Core.Path.{◌≡◌, refl, sym, ap, ◌∙◌}
use mathlib.Core.Bool.{Bool, true, false, cond}
use lib.Dec.{leb}
use borrow.Author.Tests.{le-leb, leb-true}
use Rattle.layer.specs.declared.AutoPad.{AutoPad}
use Rattle.layer.specs.declared.AutoPad.TheVariants.{Explicit, SameUpper, SameLower, Valid}
use Rattle.layer.specs.declared.Rounding.{Rounding}
use Rattle.layer.specs.declared.Rounding.TheVariants.{Floor, Ceil, CeilTorch}
use Rattle.layer.specs.declared.Axis.{Axis}
use Rattle.sizes.specs.declared.Pads.{Pads}
use Rattle.sizes.specs.Size.{ceil_div, dilated_kernel, padded, ceil_out, starts_past, less_last, explicit_out, zero_pads, valid_out, same_out, same_total, pads_of, window_out, window_fits, rounding_of}
use Rattle.sizes.specs.Bounds.{AxisLimits}
use Rattle.sizes.proofs.Division.{ceil_le, ceil_pos, ceil_self, kernel_pos}

-- valid with floor is explicit floor with zero pads
pub valid_floor : (a : Axis) → 1 ≤ a.stride → valid_out Floor a ≡ explicit_out Floor zero_pads a
unfolding valid_out ceil_div
valid_floor a h =
    let x = a.input - dilated_kernel a in
    let e : x + 1 + (a.stride - 1) ≡ 1 * a.stride + x = omega (arith, one-mul a.stride, h) in
    let f : a.input + 0 + 0 - dilated_kernel a ≡ x = omega arith in
    ap (λ (n : ℕ). n / a.stride) e ∙ mul-add-div_right h 1 x ∙ rw f (omega arith)

-- a same mode is explicit floor with its own pads, on whichever side the larger half is
pub same_floor : (p : Pads) (a : Axis) → AxisLimits a → p.begin + p.end ≡ same_total a → same_out a ≡ explicit_out Floor p a
unfolding same_total same_out
same_floor p a h total =
    let o = ceil_div a.input a.stride in
    let s = a.stride in
    let y = padded p a - dilated_kernel a in
    let one : 1 ≤ o = ceil_pos a.input h.stride_1 h.input_1 in
    let q : a.input ≤ o * s = (ceil_le a.input o h.stride_1).0 (omega arith) in
    let m : o * s ≡ (o - 1) * s + s = ap (λ (n : ℕ). n * s) (let z : o ≡ o - 1 + 1 = omega arith in z) ∙ add-mul (o - 1) 1 s ∙ ap (λ (n : ℕ). (o - 1) * s + n) (one-mul s) in
    let lo : o - 1 ≤ y / s = (le-div_iff_mul-le h.stride_1).1 (omega (arith, total)) in
    let hi : y / s < o = (div-lt_iff_lt-mul h.stride_1).1 (omega (arith, total, kernel_pos a, h.stride_1, m)) in
    omega arith

pub size_rule : (m : AutoPad) (r : Rounding) (a : Axis) → AxisLimits a → window_out m r a ≡ explicit_out (rounding_of m r) (pads_of m a) a
unfolding rounding_of valid_out
size_rule Explicit r a h = refl
size_rule SameUpper r a h = same_floor (pads_of SameUpper a) a h (omega arith)
size_rule SameLower r a h = same_floor (pads_of SameLower a) a h (omega arith)
size_rule Valid Floor a h = valid_floor a h.stride_1
size_rule Valid Ceil a h = refl
size_rule Valid CeilTorch a h = refl

-- number 5
pub fits_rule : (m : AutoPad) (a : Axis) → window_fits m a ≡ leb (dilated_kernel a) (padded (pads_of m a) a)
unfolding same_total
fits_rule Explicit a = refl
fits_rule SameUpper a = sym (le-leb (dilated_kernel a) (padded (pads_of SameUpper a) a) (omega arith))
fits_rule SameLower a = sym (le-leb (dilated_kernel a) (padded (pads_of SameLower a) a) (omega arith))
fits_rule Valid a = ap (leb (dilated_kernel a)) (omega arith)

-- a size less its last window, if it starts at or past the input's end: not more than before, and at least one window, since the first one starts at 0
pub less_last_lem : (p : Pads) (a : Axis) → 1 ≤ a.input → (out : ℕ) → 1 ≤ out → (1 ≤ less_last p a out) × (less_last p a out ≤ out)
less_last_lem p a h out o = go (starts_past p a out) refl
  where
    go : (b : Bool) → starts_past p a out ≡ b → (1 ≤ cond b (out - 1) out) × (cond b (out - 1) out ≤ out)
    go true e = (later (out - 1) (leb-true (a.input + p.begin) ((out - 1) * a.stride) e), omega arith)
      where
        later : (n : ℕ) → a.input + p.begin ≤ n * a.stride → 1 ≤ n
        later zero q = omega (arith, h, zero-mul a.stride)
        later (suc n) q = omega arith
    go false e = (o, omega arith)

-- every size is at least 1 and at most one more than the room beside the kernel
pub explicit_within : (r : Rounding) (p : Pads) (a : Axis) → AxisLimits a → (1 ≤ explicit_out r p a) × (explicit_out r p a ≤ padded p a - dilated_kernel a + 1)
explicit_within Floor p a h = (omega arith, omega (arith, div-le_self (padded p a - dilated_kernel a) a.stride))
explicit_within Ceil p a h = (omega arith, omega (arith, ceil_self (padded p a - dilated_kernel a) h.stride_1))
explicit_within CeilTorch p a h =
    let l = less_last_lem p a h.input_1 (ceil_out p a) (omega arith) in
    (l.0, omega (arith, l.1, ceil_self (padded p a - dilated_kernel a) h.stride_1))
