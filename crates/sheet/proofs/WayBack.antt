-- The way there and back: reading what was written gives the layer, and writing what was read gives the bytes. Both go by the values of the lines.
use Prim.Native.Nat.{ℕ, suc, ◌≤◌}
use mathlib.Core.Path.{◌≡◌, refl, sym, ap, ◌∙◌, subst}
use mathlib.Core.List.{List, [], ◌∷◌, ◌++◌}
use mathlib.Core.Bool.{Bool, true, false, cond, not, ◌&&◌, ◌||◌, false≢true}
use native.Mathlib.Omega.{arith}
use lib.Dec.{eqb, leb}
use lib.IntN.{ℤ, pos, negsuc}
use lib.Signed.{le_z}
use lib.ListN.{length, take, drop}
use lib.Seq.{take-append_seam}
use borrow.Author.Tests.{eq-eqb, ne_eqb, eqb-true, le-leb, leb-true, not-true, not-false}
use Rattle.text.specs.Texts.{text, place, starts_with}
use Rattle.text.specs.Lines.{show_line}
use Rattle.text.specs.Lists.{one_item, later_items}
use Rattle.text.specs.declared.Items.{Items}
use Rattle.text.proofs.ListLaws.{keep}
use Rattle.layer.proofs.Tests.{both_ways, and_both, and_true, or_neither, within_both}
use Rattle.layer.specs.Axes.{axes_in, uses_y, uses_z}
use Rattle.layer.specs.Versions.{version_in, lacks_op, lacks_rounding}
use Rattle.layer.specs.Defaults.{is_default_rounding, is_default_axis_attribute}
use Rattle.layer.specs.Kinds.{is_pool, is_transposed}
use Rattle.layer.specs.declared.Op.{Op}
use Rattle.layer.specs.declared.Op.TheVariants.{Convolution, Transposed, MaxPool}
use Rattle.layer.specs.declared.Rounding.{Rounding}
use Rattle.layer.specs.declared.Rounding.TheVariants.{Floor, Ceil, CeilTorch}
use Rattle.layer.specs.declared.Axis.{Axis}
use Rattle.layer.specs.declared.Layer.{Layer}
use Rattle.values.specs.Words.{word_at}
use Rattle.values.specs.Values.{field_value, show_field, is_default_value}
use Rattle.values.specs.Kinds.{op_of, op_items, auto_pad_of, auto_pad_items, rounding_of, rounding_items, axis_of, axis_items}
use Rattle.values.specs.declared.Field.TheVariants.{NumberList}
use Rattle.lines.specs.Form.{Form, layer, read_form, show_form}
use Rattle.layer.specs.Refusals.{sheet_number}
use Rattle.fields.specs.Layers.{input_numbers, kernel_numbers, kernel_of, per_axis, with_sizes, with_pads, sized_layer, padded_layer, axis_list, input_list, kernel_list}
use Rattle.fields.specs.declared.PerAxis.{PerAxis}
use Rattle.fields.specs.Sheet.{size_lines, pad_lines, last_lines, twelve_lines, thirteen_lines, sheet_values, version_line, show_sheet}
use Rattle.faults.specs.Faults.{bad_axis, hides, hides_sizes, is_default_padding}
use Rattle.writer.specs.Writer.{written, write_sheet, buffer_after}
use Rattle.std.specs.Prelude.{Result, Ok, Err, IfOk, Some}
use Rattle.layer.specs.declared.SheetRefusal.{SheetRefusal}
use Rattle.sheet.specs.Sheet.{read_sheet}
use Rattle.values.proofs.ValueLaws.{version_readable, version_back, op_again, auto_pad_again, rounding_again, op_readable, auto_pad_readable, rounding_readable, op_back, auto_pad_back, rounding_back, axes_readable, axes_back, OneDigit, axis_readable, axis_again, axis_back, list_readable, list_back}
use Rattle.lines.proofs.FormLaws.{Says, form_there, form_back, sheet_numbered}
use Rattle.fields.proofs.Fits.{U32, AxisFits, LayerFits}
use Rattle.fields.proofs.LayerLaws.{on_axes, listed, Counted, ListOk, by_axes, axes_again, list_again, axes_counted, input_counted, kernel_counted, axis_ok_lem, input_ok, kernel_ok_lem, input_again, kernel_again}
use Rattle.faults.proofs.FaultLaws.{Passed, passed, passed_fine}
use Rattle.writer.proofs.WriteLaws.{enough, taken}

-- ---- lists
module _ (count : ℕ) (c : Counted count) (items : Items) where
  list_there : ListOk count items → field_value (NumberList count) (show_field (NumberList count) items) ≡ Some items
  list_there ok = list_readable count c.0 items c.1 c.2 ok.0 ok.1

  list_kept : field_value (NumberList count) (show_field (NumberList count) items) ≡ Some items → keep count items ≡ items
  list_kept e = list_back count c.0 items c.1 c.2 e

-- ---- what a passed test says
good_axis : (z : ℤ) → bad_axis z ≡ false → OneDigit z
good_axis (pos n) e = leb-true n 9 (and_both (le_z (negsuc 8) (pos n)) (le_z (pos n) (pos 9)) (not-false _ e)).1
good_axis (negsuc n) e = leb-true n 8 (and_both (le_z (negsuc 8) (negsuc n)) (le_z (negsuc n) (pos 9)) (not-false _ e)).0

not_bad_axis : (z : ℤ) → OneDigit z → bad_axis z ≡ false
not_bad_axis (pos n) h = rw (le-leb n 9 h)
not_bad_axis (negsuc n) h = rw (le-leb n 8 h)

-- a line that its operator does not use is at its default, as the writer and as the reader test it
used_line : (u d v : Bool) → (d ≡ true → v ≡ true) → not u && not d ≡ false → u || v ≡ true
used_line true d v h e = refl
used_line false d v h e = h (not-false d e)

line_used : (u d v : Bool) → (v ≡ true → d ≡ true) → u || v ≡ true → not u && not d ≡ false
line_used true d v h e = refl
line_used false d v h e = rw (h e)

rounding_default_lem : (r : Rounding) → is_default_rounding r ≡ is_default_value (rounding_items r)
rounding_default_lem Floor = refl
rounding_default_lem Ceil = refl
rounding_default_lem CeilTorch = refl

zero_only : (n : ℕ) → leb 0 n && leb n 0 ≡ eqb n 0
zero_only n =
    both_ways (leb 0 n && leb n 0) (eqb n 0) (λ e. eq-eqb n 0 (omega (arith, within_both 0 0 n e))) (λ e. rw (eqb-true n 0 e))

axis_default : (z : ℤ) → is_default_axis_attribute z ≡ is_default_value (axis_items z)
axis_default (pos n) = zero_only n ∙ sym (and_true (eqb n 0 && true) ∙ and_true (eqb n 0))
axis_default (negsuc n) = sym (rw (ne_eqb (suc n) 0 (λ e. omega (arith, e))))

all_three : (a b c : Bool) → a && b && c ≡ true → (a ≡ true) × (b ≡ true) × (c ≡ true)
all_three a b c e = let t = and_both (a && b) c e in let s = and_both a b t.0 in (s.0, s.1, t.1)

-- output paddings that are at their defaults: of the axes, so those of their list; of a list, so those of the axes
module _ (axes : ℕ) (h : axes_in axes ≡ true) where
  list_default : (z y x : ℕ) → is_default_padding z && is_default_padding y && is_default_padding x ≡ true → is_default_value (axis_list axes z y x) ≡ true
  list_default z y x e =
      let t = all_three (eqb z 0) (eqb y 0) (eqb x 0) e in
      by_axes axes h (λ n. is_default_value (axis_list n z y x) ≡ true) (rw t.2) (rw (t.1, t.2)) e

  axes_default : (items : Items) → is_default_value items ≡ true → let p = on_axes axes 0 items in
      is_default_padding p.z && is_default_padding p.y && is_default_padding p.x ≡ true
  axes_default items e =
      let t = all_three (eqb items.a 0) (eqb items.b 0) (eqb items.c 0) e in
      by_axes axes h (λ n. let p = on_axes n 0 items in is_default_padding p.z && is_default_padding p.y && is_default_padding p.x ≡ true)
      (rw t.0) (rw (t.0, t.1)) e

-- ---- a layer from its own lists

-- an axis that is not used is at its default
at_default : (used : Bool) (v d : ℕ) → not used && not (eqb v d) ≡ false → used ≡ false → v ≡ d
at_default true v d e q = absurd (false≢true (sym q))
at_default false v d e q = eqb-true v d (not-false (eqb v d) e)

kernel_back : (op : Op) (axes g o i z y x : ℕ) → hides_sizes op g o i ≡ false → let list = axis_list axes z y x in
    kernel_of op (kernel_list op axes g o i z y x) ≡ record { g = g; o = o; i = i; first = list.a; second = list.b; third = list.c }
kernel_back Convolution axes g o i z y x e = refl
kernel_back Transposed axes g o i z y x e = refl
kernel_back MaxPool axes g o i z y x e =
    let list = axis_list axes z y x in
    let t = all_three (eqb g 1) (eqb o 1) (eqb i 1) (not-false _ e) in
    let a = eqb-true g 1 t.0 in
    let b = eqb-true o 1 t.1 in
    let c = eqb-true i 1 t.2 in
    λ j. record { g = sym a j; o = sym b j; i = sym c j; first = list.a; second = list.b; third = list.c }

-- a version that a sheet can show is 8 or 14
by_version : {G : Type 0} (version : ℕ) → version_in version ≡ true → (version ≡ 8 → G) → (version ≡ 14 → G) → G
by_version {G} version h f g = go (eqb version 8) refl h
  where
    go : (b : Bool) → eqb version 8 ≡ b → b || eqb version 14 ≡ true → G
    go true e q = f (eqb-true version 8 e)
    go false e q = g (eqb-true version 14 q)

-- one line more: its value is read again, it is used or at its default, and the lines after it say the layer
said : {A B C : Type 0} → A → B → C → A × B × C
said a b c = (a, b, c)

-- the lines of version 8's sheet, which do not begin with `version=`, and those of version 14's
shown_twelve : (l : Layer) → l.version ≡ 8 → show_sheet l ≡ show_form (twelve_lines 8) (sheet_values l)
unfolding show_sheet
shown_twelve l e = ap (λ (n : ℕ). version_line n ++ show_form (twelve_lines n) (sheet_values l)) e

shown_thirteen : (l : Layer) → l.version ≡ 14 → show_sheet l ≡ show_form thirteen_lines (one_item 0 ∷ sheet_values l)
unfolding show_sheet thirteen_lines show_form show_field word_at place
shown_thirteen l e = ap (λ (n : ℕ). version_line n ++ show_form (twelve_lines n) (sheet_values l)) e

read_twelve : (vs : List Items) (l : Layer) → Says (twelve_lines 8) vs l → read_sheet (show_form (twelve_lines 8) vs) ≡ Ok l
unfolding Says read_sheet starts_with show_form show_line twelve_lines
read_twelve [] l h = absurd h
read_twelve (v ∷ vs) l h = form_there (twelve_lines 8) (v ∷ vs) l h 1 (show_form (twelve_lines 8) (v ∷ vs)) 0 refl (omega arith)

read_thirteen : (vs : List Items) (l : Layer) → Says (twelve_lines 14) vs l → read_sheet (show_form thirteen_lines (one_item 0 ∷ vs)) ≡ Ok l
unfolding Says read_sheet starts_with show_form show_line thirteen_lines
read_thirteen vs l h =
    form_there thirteen_lines (one_item 0 ∷ vs) l (said version_readable refl h) 1 (show_form thirteen_lines (one_item 0 ∷ vs)) 0 refl (omega arith)

module _ (l : Layer) (p : Passed l) where
  -- a field of every axis, and its list
  abbrev every : (Axis → ℕ) → PerAxis
  every φ = record { z = φ l.z; y = φ l.y; x = φ l.x }

  abbrev list_of : (Axis → ℕ) → Items
  list_of φ = listed l.axes (every φ)

  abbrev input_of : Items
  input_of = input_list l.axes l.n l.c l.z.input l.y.input l.x.input

  abbrev sized_from : Layer
  sized_from =
      sized_layer l.version l.op l.axes input_of (kernel_list l.op l.axes l.g l.o l.i l.z.kernel l.y.kernel l.x.kernel)
      (list_of (λ a. a.stride)) (list_of (λ a. a.dilation))

  axes_good : axes_in l.axes ≡ true
  axes_good = not-false (axes_in l.axes) p.axes

  -- a field's list gives the field of every axis again
  again : (φ : Axis → ℕ) (d : ℕ) → hides l.axes (φ l.z) (φ l.y) d ≡ false → on_axes l.axes d (list_of φ) ≡ every φ
  again φ d e =
      let b = or_neither (not (uses_z l.axes) && not (eqb (φ l.z) d)) (not (uses_y l.axes) && not (eqb (φ l.y) d)) e in
      axes_again l.axes axes_good d (every φ) (at_default (uses_z l.axes) (φ l.z) d b.0) (at_default (uses_y l.axes) (φ l.y) d b.1)

  layer_back : padded_layer sized_from l.auto_pad (list_of (λ a. a.pad_begin)) (list_of (λ a. a.pad_end)) (list_of (λ a. a.output_padding))
      l.rounding l.axis
      ≡ l
  unfolding sized_layer padded_layer
  layer_back =
      let k = kernel_back l.op l.axes l.g l.o l.i l.z.kernel l.y.kernel l.x.kernel p.sizes in
      let input = again (λ a. a.input) 1 p.input in
      let kernel = (λ j. per_axis l.axes 1 (k j).first (k j).second (k j).third) ∙ again (λ a. a.kernel) 1 p.kernel in
      let stride = again (λ a. a.stride) 1 p.stride in
      let dilation = again (λ a. a.dilation) 1 p.dilation in
      let begin = again (λ a. a.pad_begin) 0 p.begin in
      let end = again (λ a. a.pad_end) 0 p.end in
      let padding = again (λ a. a.output_padding) 0 p.padding in
      λ j. record {
        version = l.version;
        op = l.op;
        axes = l.axes;
        n = l.n;
        c = l.c;
        g = (k j).g;
        o = (k j).o;
        i = (k j).i;
        z = with_pads (with_sizes l.z (input j).z (kernel j).z (stride j).z (dilation j).z) (begin j).z (end j).z (padding j).z;
        y = with_pads (with_sizes l.y (input j).y (kernel j).y (stride j).y (dilation j).y) (begin j).y (end j).y (padding j).y;
        x = with_pads (with_sizes l.x (input j).x (kernel j).x (stride j).x (dilation j).x) (begin j).x (end j).x (padding j).x;
        auto_pad = l.auto_pad;
        rounding = l.rounding;
        axis = l.axis;
      }

  -- ---- the values of a layer's lines say the layer
  module _ (f : LayerFits l) where
    axes_there : (φ : Axis → ℕ) → ((a : Axis) → AxisFits a → U32 (φ a))
        → field_value (NumberList l.axes) (show_field (NumberList l.axes) (list_of φ)) ≡ Some (list_of φ)
    axes_there φ u =
        list_there l.axes (axes_counted l.axes axes_good) _
        (axis_ok_lem l.axes axes_good (φ l.z) (φ l.y) (φ l.x) (u l.z f.z) (u l.y f.y) (u l.x f.x))

    -- the lines after the input's
    abbrev after_input : Op → Form
    after_input op =
        size_lines op l.axes λ kernel strides dilations.
        pad_lines l.axes λ mode begin end.
        last_lines l.version op l.axes λ padding rounding axis.
        layer
        (padded_layer (sized_layer l.version op l.axes input_of kernel strides dilations) (auto_pad_of mode) begin end padding (rounding_of rounding)
        (axis_of axis))

    says_sizes : Says (after_input l.op) (drop 3 (sheet_values l)) l
    unfolding Says sheet_values
    says_sizes =
        let z = good_axis l.axis p.axis in
        said (list_there (kernel_numbers l.op l.axes) (kernel_counted l.axes axes_good l.op) _
        (kernel_ok_lem l.axes axes_good l.z.kernel l.y.kernel l.x.kernel f.z.kernel f.y.kernel f.x.kernel l.op l.g l.o l.i
        f.g f.o f.i)) refl
        (said (axes_there (λ a. a.stride) (λ a u. u.stride)) refl
        (said (axes_there (λ a. a.dilation) (λ a u. u.dilation)) refl
        (said (auto_pad_readable l.auto_pad) refl
        (said (axes_there (λ a. a.pad_begin) (λ a u. u.pad_begin)) refl
        (said (axes_there (λ a. a.pad_end) (λ a u. u.pad_end)) refl
        (said (axes_there (λ a. a.output_padding) (λ a u. u.output_padding))
        (used_line (is_transposed l.op) _ _ (list_default l.axes axes_good l.z.output_padding l.y.output_padding l.x.output_padding)
        p.used_padding)
        (said (rounding_readable l.version l.rounding p.rounding)
        (used_line (is_pool l.op) _ _ (λ q. sym (rounding_default_lem l.rounding) ∙ q) p.used_rounding)
        (said (axis_readable l.axis z)
        (used_line (is_pool l.op) _ _ (λ q. sym (axis_default l.axis) ∙ q) p.used_axis)
        ((λ i. padded_layer sized_from (auto_pad_again l.auto_pad i) (list_of (λ a. a.pad_begin)) (list_of (λ a. a.pad_end))
        (list_of (λ a. a.output_padding)) (rounding_again l.rounding i) (axis_again l.axis z i))
        ∙ layer_back)))))))))

    says_there : Says (twelve_lines l.version) (sheet_values l) l
    unfolding Says twelve_lines sheet_values
    says_there =
        said (op_readable l.op) (ap (λ (op : Op). not (lacks_op l.version op)) (op_again l.op) ∙ ap not p.op)
        (said (axes_readable l.axes axes_good) refl
        (said (list_there (input_numbers l.axes) (input_counted l.axes axes_good) _
        (input_ok l.axes axes_good l.z.input l.y.input l.x.input f.z.input f.y.input f.x.input l.n l.c f.n f.c)) refl
        (subst (λ (op : Op). Says (after_input op) (drop 3 (sheet_values l)) l) (sym (op_again l.op)) says_sizes)))

    twelve_there : l.version ≡ 8 → read_sheet (show_sheet l) ≡ Ok l
    twelve_there e =
        ap read_sheet (shown_twelve l e)
        ∙ read_twelve (sheet_values l) l (subst (λ (n : ℕ). Says (twelve_lines n) (sheet_values l) l) e says_there)

    thirteen_there : l.version ≡ 14 → read_sheet (show_sheet l) ≡ Ok l
    thirteen_there e =
        ap read_sheet (shown_thirteen l e)
        ∙ read_thirteen (sheet_values l) l (subst (λ (n : ℕ). Says (twelve_lines n) (sheet_values l) l) e says_there)

    -- Reading what was written.
    pub sheet_there : read_sheet (show_sheet l) ≡ Ok l
    sheet_there = by_version l.version (not-false (version_in l.version) p.version) twelve_there thirteen_there

-- ---- the values that say a layer are those of its lines, and the writer takes it

-- nothing of a layer that was made of lists is hidden
none_hidden : (axes : ℕ) → axes_in axes ≡ true → (d first second third : ℕ) → let p = per_axis axes d first second third in hides axes p.z p.y d ≡ false
none_hidden axes h d first second third =
    let e = eq-eqb d d refl in
    by_axes axes h (λ n. let p = per_axis n d first second third in hides n p.z p.y d ≡ false) (rw e) (rw e) refl

no_sizes_hidden : (op : Op) (items : Items) → hides_sizes op (kernel_of op items).g (kernel_of op items).o (kernel_of op items).i ≡ false
no_sizes_hidden Convolution items = refl
no_sizes_hidden Transposed items = refl
no_sizes_hidden MaxPool items = refl

module _ (version : ℕ) (op axes input kernel strides dilations mode begin end padding rounding axis : Items) (o : axes_in axes.a ≡ true) where
  abbrev made : Layer
  made =
      padded_layer (sized_layer version (op_of op) axes.a input kernel strides dilations) (auto_pad_of mode) begin end padding (rounding_of rounding)
      (axis_of axis)

  -- the numbers of a list for the axes
  shown : (d : ℕ) (items : Items) → let p = on_axes axes.a d items in hides axes.a p.z p.y d ≡ false
  shown d items = none_hidden axes.a o d items.a items.b items.c

  made_passed : version_in version ≡ true → lacks_op version (op_of op) ≡ false → lacks_rounding version (rounding_of rounding) ≡ false → OneDigit (axis_of axis)
      → is_transposed (op_of op) || is_default_value padding ≡ true → is_pool (op_of op) || is_default_value rounding ≡ true
      → is_pool (op_of op) || is_default_value axis ≡ true → rounding_items (rounding_of rounding) ≡ rounding → axis_items (axis_of axis) ≡ axis → Passed made
  unfolding sized_layer padded_layer
  made_passed known has knows z u v w r a =
      let k = kernel_of (op_of op) kernel in
      record {
        version = ap not known;
        op = has;
        axes = ap not o;
        input = shown 1 (later_items (later_items input));
        kernel = none_hidden axes.a o 1 k.first k.second k.third;
        sizes = no_sizes_hidden (op_of op) kernel;
        stride = shown 1 strides;
        dilation = shown 1 dilations;
        begin = shown 0 begin;
        end = shown 0 end;
        padding = shown 0 padding;
        used_padding = line_used (is_transposed (op_of op)) _ _ (axes_default axes.a o padding) u;
        rounding = knows;
        used_rounding = line_used (is_pool (op_of op)) _ _ (λ q. rounding_default_lem (rounding_of rounding) ∙ ap is_default_value r ∙ q) v;
        axis = not_bad_axis (axis_of axis) z;
        used_axis = line_used (is_pool (op_of op)) _ _ (λ q. axis_default (axis_of axis) ∙ ap is_default_value a ∙ q) w;
      }

  made_version : made.version ≡ version
  unfolding sized_layer padded_layer
  made_version = refl

  made_values : op_items (op_of op) ≡ op → axes ≡ one_item axes.a → keep (input_numbers axes.a) input ≡ input
      → keep (kernel_numbers (op_of op) axes.a) kernel ≡ kernel → keep axes.a strides ≡ strides → keep axes.a dilations ≡ dilations
      → auto_pad_items (auto_pad_of mode) ≡ mode → keep axes.a begin ≡ begin → keep axes.a end ≡ end → keep axes.a padding ≡ padding
      → rounding_items (rounding_of rounding) ≡ rounding → axis_items (axis_of axis) ≡ axis
      → sheet_values made ≡ op ∷ axes ∷ input ∷ kernel ∷ strides ∷ dilations ∷ mode ∷ begin ∷ end ∷ padding ∷ rounding ∷ axis ∷ []
  unfolding sheet_values sized_layer padded_layer
  made_values h₁ h₂ h₃ h₄ h₅ h₆ h₇ h₈ h₉ h₁₀ h₁₁ h₁₂ =
      let e₃ = input_again axes.a o 1 input ∙ h₃ in
      let e₄ = kernel_again axes.a o (op_of op) 1 kernel ∙ h₄ in
      let e₅ = list_again axes.a o 1 strides ∙ h₅ in
      let e₆ = list_again axes.a o 1 dilations ∙ h₆ in
      let e₈ = list_again axes.a o 0 begin ∙ h₈ in
      let e₉ = list_again axes.a o 0 end ∙ h₉ in
      let e₁₀ = list_again axes.a o 0 padding ∙ h₁₀ in
      λ i. h₁ i ∷ sym h₂ i ∷ e₃ i ∷ e₄ i ∷ e₅ i ∷ e₆ i ∷ h₇ i ∷ e₈ i ∷ e₉ i ∷ e₁₀ i ∷ h₁₁ i ∷ h₁₂ i ∷ []

-- the lines say a layer with the values of its own sheet and no others
says_back : (version : ℕ) → version_in version ≡ true → (vs : List Items) (l : Layer) → Says (twelve_lines version) vs l
    → (l.version ≡ version) × (sheet_values l ≡ vs) × Passed l
unfolding Says twelve_lines sheet_values
says_back version known [] l s = absurd s
says_back version known (a ∷ []) l s = absurd s.2
says_back version known (a ∷ b ∷ []) l s = absurd s.2.2
says_back version known (a ∷ b ∷ c ∷ []) l s = absurd s.2.2.2
says_back version known (a ∷ b ∷ c ∷ d ∷ []) l s = absurd s.2.2.2.2
says_back version known (a ∷ b ∷ c ∷ d ∷ e ∷ []) l s = absurd s.2.2.2.2.2
says_back version known (a ∷ b ∷ c ∷ d ∷ e ∷ f ∷ []) l s = absurd s.2.2.2.2.2.2
says_back version known (a ∷ b ∷ c ∷ d ∷ e ∷ f ∷ g ∷ []) l s = absurd s.2.2.2.2.2.2.2
says_back version known (a ∷ b ∷ c ∷ d ∷ e ∷ f ∷ g ∷ h ∷ []) l s = absurd s.2.2.2.2.2.2.2.2
says_back version known (a ∷ b ∷ c ∷ d ∷ e ∷ f ∷ g ∷ h ∷ i ∷ []) l s = absurd s.2.2.2.2.2.2.2.2.2
says_back version known (a ∷ b ∷ c ∷ d ∷ e ∷ f ∷ g ∷ h ∷ i ∷ j ∷ []) l s = absurd s.2.2.2.2.2.2.2.2.2.2
says_back version known (a ∷ b ∷ c ∷ d ∷ e ∷ f ∷ g ∷ h ∷ i ∷ j ∷ k ∷ []) l s = absurd s.2.2.2.2.2.2.2.2.2.2.2
says_back version known (a ∷ b ∷ c ∷ d ∷ e ∷ f ∷ g ∷ h ∷ i ∷ j ∷ k ∷ m ∷ n ∷ vs) l s = absurd s.2.2.2.2.2.2.2.2.2.2.2.2
says_back version known (op ∷ axes ∷ input ∷ kernel ∷ strides ∷ dilations ∷ mode ∷ begin ∷ end ∷ padding ∷ rounding ∷ axis ∷ []) l s₁ =
    let s₂ = s₁.2 in
    let s₃ = s₂.2 in
    let s₄ = s₃.2 in
    let s₅ = s₄.2 in
    let s₆ = s₅.2 in
    let s₇ = s₆.2 in
    let s₈ = s₇.2 in
    let s₉ = s₈.2 in
    let s₁₀ = s₉.2 in
    let s₁₁ = s₁₀.2 in
    let s₁₂ = s₁₁.2 in
    let x = axes_back axes s₂.0 in
    let r = rounding_back version rounding s₁₁.0 in
    let z = axis_back axis s₁₂.0 in
    let p : (v : Items) → field_value (NumberList axes.a) (show_field (NumberList axes.a) v) ≡ Some v → keep axes.a v ≡ v =
    λ v e. list_kept axes.a (axes_counted axes.a x.1) v e in (
      sym (ap (λ (m : Layer). m.version) s₁₂.2) ∙ made_version version op axes input kernel strides dilations mode begin end padding rounding axis x.1,
      ap sheet_values (sym s₁₂.2)
          ∙ made_values version op axes input kernel strides dilations mode begin end padding rounding axis x.1 (op_back op s₁.0) x.0
          (list_kept (input_numbers axes.a) (input_counted axes.a x.1) input s₃.0)
          (list_kept (kernel_numbers (op_of op) axes.a) (kernel_counted axes.a x.1 (op_of op)) kernel s₄.0) (p strides s₅.0) (p dilations s₆.0)
          (auto_pad_back mode s₇.0) (p begin s₈.0) (p end s₉.0) (p padding s₁₀.0) r.0 z.0,
      subst Passed s₁₂.2
          (made_passed version op axes input kernel strides dilations mode begin end padding rounding axis x.1 known (not-true _ s₁.1) r.1 z.1 s₁₀.1
          s₁₁.1 s₁₂.1 r.0 z.0),
    )

-- a text of twelve lines is that of a layer of version 8, a text of thirteen that of one of version 14
twelve_back : (s : List ℕ) (l : Layer) → read_form (twelve_lines 8) 1 s 0 ≡ Ok l → (show_sheet l ≡ s) × Passed l
twelve_back s l e =
    let r = form_back (twelve_lines 8) 1 s 0 l e in
    let b = says_back 8 refl r.0 l r.1 in
    (shown_twelve l b.0 ∙ ap (show_form (twelve_lines 8)) b.1 ∙ r.2, b.2)

thirteen_back : (s : List ℕ) (l : Layer) → read_form thirteen_lines 1 s 0 ≡ Ok l → (show_sheet l ≡ s) × Passed l
unfolding Says thirteen_lines
thirteen_back s l e = let r = form_back thirteen_lines 1 s 0 l e in go r.0 r.1 r.2
  where
    go : (vs : List Items) → Says thirteen_lines vs l → show_form thirteen_lines vs ≡ s → (show_sheet l ≡ s) × Passed l
    go [] h q = absurd h
    go (v ∷ vs) h q =
        let b = says_back 14 refl vs l h.2 in
        (shown_thirteen l b.0 ∙ (λ i. show_form thirteen_lines (sym (version_back v h.0) i ∷ b.1 i)) ∙ q, b.2)

-- Writing what was read.
pub sheet_back : (s : List ℕ) (l : Layer) → read_sheet s ≡ Ok l → (show_sheet l ≡ s) × Passed l
unfolding read_sheet
sheet_back s l e = go (starts_with (text "version=") s) e
  where
    go : (b : Bool) → read_form (cond b thirteen_lines (twelve_lines 8)) 1 s 0 ≡ Ok l → (show_sheet l ≡ s) × Passed l
    go true q = thirteen_back s l q
    go false q = twelve_back s l q

-- ---- the two laws, on what a call of the writer answers and leaves

-- Reading what was written: where a write is not refused, the bytes that it tells of are read as the layer that was written.
pub way_back : (l : Layer) → LayerFits l → (before left : List ℕ) (w : Result ℕ SheetRefusal) → w ≡ write_sheet l (length before) → left ≡ buffer_after l before
    → IfOk w (λ n. read_sheet (take n left) ≡ Ok l)
way_back l f before left (Err refusal) a b = tt
way_back l f before left (Ok n) a b =
    let t = taken l before n (sym a) in
    rw (b, t.long, t.left, take-append_seam (show_sheet l) (drop (length (show_sheet l)) before)) (sheet_there l (passed l t.fine) f)

-- A layer that was read from s, where a write of it is not refused: the bytes that it tells of are s.
pub rewritten : (s : List ℕ) (l : Layer) → read_sheet s ≡ Ok l → (buffer : List ℕ) (n : ℕ) → write_sheet l (length buffer) ≡ Ok n
    → (n ≡ length s) × (take n (buffer_after l buffer) ≡ s)
rewritten s l e buffer n z =
    let t = taken l buffer n z in
    let b = (sheet_back s l e).0 in
    (t.long ∙ ap length b, rw (t.long, t.left, b, take-append_seam s (drop (length s) buffer)))

-- Writing what was read: a layer that was read from s is written, into any buffer with room, as s.
pub written_read : (s : List ℕ) (l : Layer) → read_sheet s ≡ Ok l → (buffer : List ℕ) → length s ≤ length buffer
    → (write_sheet l (length buffer) ≡ written (length s)) × (buffer_after l buffer ≡ s ++ drop (length s) buffer)
written_read s l e buffer h =
    let b = sheet_back s l e in
    rw b.0 at (enough l buffer (passed_fine l b.1) (rw b.0 h))

-- A sheet that is not read is refused with a number that is not 0.
pub refused_numbered : (s : List ℕ) (r : SheetRefusal) → read_sheet s ≡ Err r → sheet_number r.error ≡ 0 → ⊥
refused_numbered s r e = sheet_numbered r.error
