-- "Twelve key=value lines in this order, each ended by one byte 10, nothing after.", with a version line in front of them or without. "The whole of one sheet:"
-- as a form, and the values of a layer's lines.
use Rattle.std.specs.Prelude.{ℕ, List, [], ◌∷◌, ◌++◌, Bool, true, cond, not, eqb}
use Rattle.text.specs.Texts.{text}
use Rattle.text.specs.Lists.{one_item}
use Rattle.text.specs.Lines.{show_line}
use Rattle.text.specs.declared.Items.{Items}
use Rattle.layer.specs.Kinds.{is_pool, is_transposed}
use Rattle.layer.specs.Versions.{lacks_op}
use Rattle.layer.specs.Defaults.{version_default}
use Rattle.layer.specs.declared.Op.{Op}
use Rattle.layer.specs.declared.Layer.{Layer}
use Rattle.values.specs.Kinds.{op_of, op_items, auto_pad_of, auto_pad_items, rounding_of, rounding_items, axis_of, axis_items}
use Rattle.values.specs.declared.Field.TheVariants.{VersionWord, OpWord, AxesNumber, NumberList, AutoPadWord, RoundingWord, AxisDigit}
use Rattle.lines.specs.Lines.{if_used}
use Rattle.lines.specs.Form.{Form, line, layer, show_form}
use Rattle.fields.specs.Layers.{input_numbers, kernel_numbers, sized_layer, padded_layer, input_list, kernel_list, axis_list}

-- a line that every operator uses
abbrev pub always : Items → Bool
always = if_used true

-- "at the op line version 14 with another op than maxpool": such an op is not taken
abbrev pub op_taken : ℕ → Items → Bool
op_taken version op = not (lacks_op version (op_of op))

-- ---- the twelve lines by threes, each with the lines after them, which depend on their values

-- "op=maxpool axes=2 input=1,2,3,3"
abbrev pub first_lines : ℕ → (Items → Items → Items → Form) → Form
first_lines version more =
    line (text "op=") OpWord (op_taken version) λ op.
    line (text "axes=") AxesNumber always λ axes.
    line (text "input=") (NumberList (input_numbers axes.a)) always λ input.
    more op axes input

-- "kernel=2,2 strides=1,1 dilations=1,1"
abbrev pub size_lines : Op → ℕ → (Items → Items → Items → Form) → Form
size_lines op axes more =
    line (text "kernel=") (NumberList (kernel_numbers op axes)) always λ kernel.
    line (text "strides=") (NumberList axes) always λ strides.
    line (text "dilations=") (NumberList axes) always λ dilations.
    more kernel strides dilations

-- "auto_pad=explicit pads_begin=0,0 pads_end=0,0"
abbrev pub pad_lines : ℕ → (Items → Items → Items → Form) → Form
pad_lines axes more =
    line (text "auto_pad=") AutoPadWord always λ mode.
    line (text "pads_begin=") (NumberList axes) always λ begin.
    line (text "pads_end=") (NumberList axes) always λ end.
    more mode begin end

-- "output_padding=0,0 rounding=floor axis=2": "a line its operator doesn't use (output_padding, rounding, axis)"
abbrev pub last_lines : ℕ → Op → ℕ → (Items → Items → Items → Form) → Form
last_lines version op axes more =
    line (text "output_padding=") (NumberList axes) (if_used (is_transposed op)) λ padding.
    line (text "rounding=") (RoundingWord version) (if_used (is_pool op)) λ rounding.
    line (text "axis=") AxisDigit (if_used (is_pool op)) λ axis.
    more padding rounding axis

-- ---- the sheet

-- the twelve lines, and the layer of this version that they say
unfoldable pub twelve_lines : ℕ → Form
twelve_lines version =
    first_lines version λ op axes input.
    size_lines (op_of op) axes.a λ kernel strides dilations.
    pad_lines axes.a λ mode begin end.
    last_lines version (op_of op) axes.a λ padding rounding axis.
    layer
    (padded_layer (sized_layer version (op_of op) axes.a input kernel strides dilations) (auto_pad_of mode) begin end padding (rounding_of rounding)
    (axis_of axis))

-- "A sheet for MaxPool-14 has a thirteenth line `version=14` in front"
unfoldable pub thirteen_lines : Form
thirteen_lines = line (text "version=") VersionWord always λ version. twelve_lines 14

-- the values of the twelve lines of a layer's sheet
unfoldable pub sheet_values : Layer → List Items
sheet_values l =
    op_items l.op ∷
    one_item l.axes ∷
    input_list l.axes l.n l.c l.z.input l.y.input l.x.input ∷
    kernel_list l.op l.axes l.g l.o l.i l.z.kernel l.y.kernel l.x.kernel ∷
    axis_list l.axes l.z.stride l.y.stride l.x.stride ∷
    axis_list l.axes l.z.dilation l.y.dilation l.x.dilation ∷
    auto_pad_items l.auto_pad ∷
    axis_list l.axes l.z.pad_begin l.y.pad_begin l.x.pad_begin ∷
    axis_list l.axes l.z.pad_end l.y.pad_end l.x.pad_end ∷
    axis_list l.axes l.z.output_padding l.y.output_padding l.x.output_padding ∷
    rounding_items l.rounding ∷
    axis_items l.axis ∷
    []

-- the text of the version line: "a sheet of twelve lines is version 8 and is written back with twelve"
abbrev pub version_line : ℕ → List ℕ
version_line version = cond (eqb version version_default) [] (show_line (text "version=") (text "14"))

-- the text of a layer's sheet
unfoldable pub show_sheet : Layer → List ℕ
show_sheet l = version_line l.version ++ show_form (twelve_lines l.version) (sheet_values l)
