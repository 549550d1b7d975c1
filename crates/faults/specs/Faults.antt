-- The first bad line of a layer that is to be written. "Writer: 21, 22 and 23 likewise, .. number faults and then unknown words first on a line". Every other
-- number of the record is a u32, so a line can show it.
use Rattle.std.specs.Prelude.{ℕ, ◌+◌, List, [], ◌∷◌, Bool, cond, not, ◌&&◌, ◌||◌, eqb, ℤ, pos, negsuc, Result, Ok, Err}
use Rattle.std.specs.Int.Signed.{le_z}
use Rattle.layer.specs.Kinds.{is_pool, is_transposed}
use Rattle.layer.specs.Axes.{axes_in, uses_y, uses_z}
use Rattle.layer.specs.Versions.{version_in, lacks_op, lacks_rounding}
use Rattle.layer.specs.Defaults.{default_axis, version_default, size_default, is_default_rounding, is_default_axis_attribute}
use Rattle.layer.specs.declared.Op.{Op}
use Rattle.layer.specs.declared.Rounding.{Rounding}
use Rattle.layer.specs.declared.Layer.{Layer}
use Rattle.layer.specs.declared.SheetError.{SheetError}
use Rattle.layer.specs.declared.SheetError.TheVariants.{Number, Word, Unused}
use Rattle.layer.specs.declared.SheetRefusal.{SheetRefusal}

-- "21 at line 1 for a version other than 8 and 14"
abbrev pub bad_version : ℕ → Bool
bad_version version = not (version_in version)

-- "Line numbers count from the first line present": the line `op=` is the first of version 8's sheet and the second of another version's
abbrev pub op_line : ℕ → ℕ
op_line version = cond (eqb version version_default) 1 2

-- "axes other than 1, 2 and 3"
abbrev pub bad_axes : ℕ → Bool
bad_axes axes = not (axes_in axes)

-- "axis is -9..9"
abbrev pub bad_axis : ℤ → Bool
bad_axis z = not (le_z (negsuc 8) z && le_z z (pos 9))

-- "23 also for a field the lines can't show that isn't at its default": Z's fields with two axes, Z's and Y's with one, and G, O, I of maxpool
abbrev pub hides : ℕ → ℕ → ℕ → ℕ → Bool
hides axes z y default = (not (uses_z axes) && not (eqb z default)) || (not (uses_y axes) && not (eqb y default))

abbrev pub hides_sizes : Op → ℕ → ℕ → ℕ → Bool
hides_sizes op g o i = is_pool op && not (eqb g size_default && eqb o size_default && eqb i size_default)

-- a line that the operator does not use, not at its default
abbrev pub is_default_padding : ℕ → Bool
is_default_padding p = eqb p default_axis.output_padding

abbrev pub unused_padding : Op → ℕ → ℕ → ℕ → Bool
unused_padding op z y x = not (is_transposed op) && not (is_default_padding z && is_default_padding y && is_default_padding x)

abbrev pub unused_rounding : Op → Rounding → Bool
unused_rounding op r = not (is_pool op) && not (is_default_rounding r)

abbrev pub unused_axis : Op → ℤ → Bool
unused_axis op z = not (is_pool op) && not (is_default_axis_attribute z)

-- The lines' tests in their order, each with its refusal and its line, of which the line `op=` has the number `first`; "22 at the rounding line for ceil_torch at
-- version 8"; a hidden field counts "at the line of the list it belongs to".
abbrev pub axis_faults : ℕ → Op → ℤ → List (Bool × SheetError × ℕ)
axis_faults first op z = (bad_axis z, Number, first + 11) ∷ (unused_axis op z, Unused, first + 11) ∷ []

abbrev pub pad_faults : ℕ → Layer → List (Bool × SheetError × ℕ)
pad_faults first l =
    (hides l.axes l.z.pad_begin l.y.pad_begin default_axis.pad_begin, Unused, first + 7) ∷
    (hides l.axes l.z.pad_end l.y.pad_end default_axis.pad_end, Unused, first + 8) ∷
    (hides l.axes l.z.output_padding l.y.output_padding default_axis.output_padding, Unused, first + 9) ∷
    (unused_padding l.op l.z.output_padding l.y.output_padding l.x.output_padding, Unused, first + 9) ∷
    (lacks_rounding l.version l.rounding, Word, first + 10) ∷
    (unused_rounding l.op l.rounding, Unused, first + 10) ∷
    axis_faults first l.op l.axis

abbrev pub line_faults : ℕ → Layer → List (Bool × SheetError × ℕ)
line_faults first l =
    (lacks_op l.version l.op, Unused, first) ∷
    (bad_axes l.axes, Number, first + 1) ∷
    (hides l.axes l.z.input l.y.input default_axis.input, Unused, first + 2) ∷
    (hides l.axes l.z.kernel l.y.kernel default_axis.kernel, Unused, first + 3) ∷
    (hides_sizes l.op l.g l.o l.i, Unused, first + 3) ∷
    (hides l.axes l.z.stride l.y.stride default_axis.stride, Unused, first + 4) ∷
    (hides l.axes l.z.dilation l.y.dilation default_axis.dilation, Unused, first + 5) ∷
    pad_faults first l

abbrev pub faults : Layer → List (Bool × SheetError × ℕ)
faults l = (bad_version l.version, Number, 1) ∷ line_faults (op_line l.version) l

-- the refusal of a line, where its test is true
abbrev pub refuse_if : Bool → SheetError → ℕ → Result (Unit {0}) SheetRefusal
refuse_if test error line = cond test (Err (record { error = error; line = line })) (Ok tt)

-- the first bad line; nothing where there is none
unfoldable pub first_fault : List (Bool × SheetError × ℕ) → Result (Unit {0}) SheetRefusal
first_fault [] = Ok tt
first_fault (t ∷ more) = cond t.0 (Err (record { error = t.1; line = t.2 })) (first_fault more)

unfoldable pub fault_of : Layer → Result (Unit {0}) SheetRefusal
fault_of l = first_fault (faults l)
