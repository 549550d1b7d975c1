-- What holds of a layer that has no bad line: every test is passed; and a layer that passes every test has no bad line.
use Prim.Native.Nat.{ℕ}
use mathlib.Core.Path.{◌≡◌, refl}
use mathlib.Core.List.{List, [], ◌∷◌}
use mathlib.Core.Bool.{Bool, true, false, cond}
use Rattle.std.specs.Prelude.{Ok, Err}
use Rattle.layer.specs.declared.Layer.{Layer}
use Rattle.layer.specs.declared.SheetError.{SheetError}
use Rattle.layer.specs.Versions.{lacks_op, lacks_rounding}
use Rattle.faults.specs.Faults.{bad_version, bad_axes, bad_axis, hides, hides_sizes, unused_padding, unused_rounding, unused_axis, faults, first_fault, fault_of}

-- each test is false
abbrev AllPassed : List (Bool × SheetError × ℕ) → Type 0
AllPassed [] = Unit {0}
AllPassed (t ∷ more) = (t.0 ≡ false) × AllPassed more

all_passed : (ts : List (Bool × SheetError × ℕ)) → first_fault ts ≡ Ok tt → AllPassed ts
unfolding first_fault
all_passed [] e = tt
all_passed (t ∷ more) e = let h = go t.0 e in (h.0, all_passed more h.1)
  where
    go : (b : Bool) → cond b (Err (record { error = t.1; line = t.2 })) (first_fault more) ≡ Ok tt → (b ≡ false) × (first_fault more ≡ Ok tt)
    go true h = absurd cc
    go false h = (refl, h)

-- every test is passed
pub record Passed (l : Layer) : Type 0 where
  pub version : bad_version l.version ≡ false
  pub op : lacks_op l.version l.op ≡ false
  pub axes : bad_axes l.axes ≡ false
  pub input : hides l.axes l.z.input l.y.input 1 ≡ false
  pub kernel : hides l.axes l.z.kernel l.y.kernel 1 ≡ false
  pub sizes : hides_sizes l.op l.g l.o l.i ≡ false
  pub stride : hides l.axes l.z.stride l.y.stride 1 ≡ false
  pub dilation : hides l.axes l.z.dilation l.y.dilation 1 ≡ false
  pub begin : hides l.axes l.z.pad_begin l.y.pad_begin 0 ≡ false
  pub end : hides l.axes l.z.pad_end l.y.pad_end 0 ≡ false
  pub padding : hides l.axes l.z.output_padding l.y.output_padding 0 ≡ false
  pub used_padding : unused_padding l.op l.z.output_padding l.y.output_padding l.x.output_padding ≡ false
  pub rounding : lacks_rounding l.version l.rounding ≡ false
  pub used_rounding : unused_rounding l.op l.rounding ≡ false
  pub axis : bad_axis l.axis ≡ false
  pub used_axis : unused_axis l.op l.axis ≡ false

module _ (l : Layer) where
  pub passed : fault_of l ≡ Ok tt → Passed l
  unfolding fault_of
  passed e = let a = all_passed (faults l) e in search

  pub passed_fine : Passed l → fault_of l ≡ Ok tt
  unfolding fault_of first_fault
  passed_fine p =
      simp (p.version, p.op, p.axes, p.input, p.kernel, p.sizes, p.stride, p.dilation, p.begin, p.end, p.padding, p.used_padding, p.rounding, p.used_rounding, p.axis, p.used_axis)
