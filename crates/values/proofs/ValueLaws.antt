-- Laws of the values of lines: what is read is shown as it stood, and a value and its numbers give each other.
use Prim.Native.Nat.{ℕ, suc, ◌+◌, ◌-◌, ◌≤◌, ◌<◌}
use mathlib.Core.Path.{◌≡◌, refl, sym, ap, ◌∙◌}
use mathlib.Core.List.{List, [], ◌∷◌}
use mathlib.Core.Bool.{Bool, true, false, cond, ◌&&◌, false≢true}
use Rattle.std.specs.Prelude.{Option, Some, None}
use native.Mathlib.Nat.{add-sub_cancel_left}
use native.Mathlib.Omega.{arith}
use lib.Dec.{eqb, leb}
use lib.IntN.{ℤ, pos, negsuc, +ℤ_idl}
use lib.ListN.{length}
use borrow.Author.Tests.{eqb-true, le-leb, leb-true}
use Rattle.text.specs.Texts.{place, same, starts_with}
use Rattle.text.specs.Numbers.{number, decimal}
use Rattle.text.specs.Lists.{one_item, last_number}
use Rattle.text.specs.Inverse.{Inverse}
use Rattle.text.specs.declared.Items.{Items}
use Rattle.text.proofs.NumberLaws.{number_decimal, decimal_number, decimal_absent, decimal_small}
use Rattle.text.proofs.ListLaws.{InRange, keep, some_last, numbers_inverse, numbers_shown, numbers_read_lem}
use Rattle.layer.specs.Axes.{axes_in}
use Rattle.layer.specs.Kinds.{is_ceil_torch}
use Rattle.layer.specs.Versions.{lacks_rounding}
use Rattle.layer.specs.declared.Op.{Op}
use Rattle.layer.specs.declared.Op.TheVariants.{Convolution, Transposed, MaxPool}
use Rattle.layer.specs.declared.AutoPad.{AutoPad}
use Rattle.layer.specs.declared.AutoPad.TheVariants.{Explicit, SameUpper, SameLower, Valid}
use Rattle.layer.specs.declared.Rounding.{Rounding}
use Rattle.layer.specs.declared.Rounding.TheVariants.{Floor, Ceil, CeilTorch}
use Rattle.layer.proofs.Tests.{within_both}
use Rattle.values.specs.declared.Field.{Field}
use Rattle.values.specs.declared.Field.TheVariants.{VersionWord, OpWord, AxesNumber, NumberList, AutoPadWord, RoundingWord, AxisDigit}
use Rattle.values.specs.Words.{word_at, word_from, word_place}
use Rattle.values.specs.Values.{version_words, op_words, auto_pad_words, rounding_words, rounding_count, axes_number, signed, digit_from, axis_number, show_axis, field_value, show_field}
use Rattle.values.specs.Kinds.{op_of, op_items, auto_pad_of, auto_pad_items, rounding_of, rounding_items, axis_of, axis_items}
use Rattle.values.proofs.WordLaws.{word_inverse, word_each, word_back}

-- ---- the number of axes
cond_some : {A : Type 0} (b : Bool) {x : Option A} {v : A} → cond b x None ≡ Some v → (b ≡ true) × (x ≡ Some v)
cond_some true e = (refl, e)
cond_some false e = absurd (false≢true cc)

some_axes : (o : Option ℕ) (n : ℕ) → axes_number o ≡ Some n → (o ≡ Some n) × (axes_in n ≡ true)
unfolding axes_number
some_axes None n e = absurd (false≢true cc)
some_axes (Some m) n e =
    let c = cond_some (axes_in m) e in
    let z : m ≡ n = cc c.1 in
    (c.1, sym (ap axes_in z) ∙ c.0)

axes_read : (t : List ℕ) (v : Items) → field_value AxesNumber t ≡ Some v → (decimal v.a ≡ t) × (v ≡ one_item v.a) × (axes_in v.a ≡ true)
unfolding field_value
axes_read t v e =
    let s = some_last (axes_number (number t)) v e in
    let o = some_axes (number t) s.0 s.1 in
    rw s.2 ((decimal_number t s.0 o.0).0, refl, o.1)

pub axes_readable : (n : ℕ) → axes_in n ≡ true → field_value AxesNumber (show_field AxesNumber (one_item n)) ≡ Some (one_item n)
unfolding field_value show_field axes_number last_number
axes_readable n h = rw (number_decimal n (omega (arith, within_both 1 3 n h)), h)

pub axes_back : (v : Items) → field_value AxesNumber (show_field AxesNumber v) ≡ Some v → (v ≡ one_item v.a) × (axes_in v.a ≡ true)
axes_back v e = let r = axes_read (show_field AxesNumber v) v e in (r.1, r.2)

-- ---- the axis
abbrev pub OneDigit : ℤ → Type 0
OneDigit (pos n) = n ≤ 9
OneDigit (negsuc n) = n ≤ 8

pub axis_again : (z : ℤ) → OneDigit z → axis_of (axis_items z) ≡ z
axis_again (pos n) h = rw (le-leb n 9 h)
axis_again (negsuc n) h = rw (le-leb (suc n) 9 (omega arith)) (+ℤ_idl (negsuc n))

pub axis_readable : (z : ℤ) → OneDigit z → field_value AxisDigit (show_field AxisDigit (axis_items z)) ≡ Some (axis_items z)
unfolding field_value show_field axis_number
axis_readable (pos n) h =
    rw (decimal_small n (omega arith), le-leb 48 (48 + n) (omega arith), le-leb (48 + n) 57 (omega arith), add-sub_cancel_left 48 n)
axis_readable (negsuc n) h =
    rw (decimal_small (suc n) (omega arith), le-leb 49 (48 + suc n) (omega arith), le-leb (48 + suc n) 57 (omega arith), add-sub_cancel_left 48 (suc n))

digit_read : (low minus b : ℕ) (v : Items) → digit_from low minus b ≡ Some v → (low ≤ b) × (b ≤ 57) × (v ≡ signed (b - 48) minus)
digit_read low minus b v e =
    let p = cond_some (leb low b) e in
    let q = cond_some (leb b 57) p.1 in
    (leb-true low b p.0, leb-true b 57 q.0, cc q.1)

-- what is read is the axis z, shown as it stood
axis_read : (t : List ℕ) (v : Items) → axis_number t ≡ Some v → (z : ℤ) × OneDigit z × (v ≡ axis_items z) × (show_axis (axis_items z) ≡ t)
unfolding axis_number
axis_read [] v e = absurd (false≢true cc)
axis_read (b ∷ []) v e =
    let k = digit_read 48 0 b v e in
    let w : 48 + (b - 48) ≡ b = omega arith in
    (pos (b - 48), omega arith, k.2, decimal_small (b - 48) (omega arith) ∙ rw w)
axis_read (a ∷ b ∷ []) v e =
    let p = cond_some (eqb a 45) e in
    let k = digit_read 49 1 b v p.1 in
    let d : b - 48 ≡ suc (b - 49) = omega arith in
    let w : 48 + suc (b - 49) ≡ b = omega arith in
    (negsuc (b - 49), omega arith, k.2 ∙ rw d, rw (decimal_small (suc (b - 49)) (omega arith), w, eqb-true a 45 p.0))
axis_read (a ∷ b ∷ c ∷ t) v e = absurd (false≢true cc)

pub axis_back : (v : Items) → field_value AxisDigit (show_field AxisDigit v) ≡ Some v → (axis_items (axis_of v) ≡ v) × OneDigit (axis_of v)
unfolding field_value
axis_back v e = let r = axis_read (show_field AxisDigit v) v e in rw (r.2, axis_again r.0 r.1) (refl, r.1)

axis_one_line : (a : ℕ) (b : Bool) → place 10 (cond b (decimal a) (45 ∷ decimal a)) ≡ length (cond b (decimal a) (45 ∷ decimal a))
unfolding place
axis_one_line a true = decimal_absent 10 (omega arith) a
axis_one_line a false = ap suc (decimal_absent 10 (omega arith) a)

-- ---- every kind
pub field_inverse : (field : Field) → Inverse (field_value field) (show_field field)
unfolding field_value show_field place
field_inverse VersionWord = word_inverse 1 version_words refl
field_inverse OpWord = word_inverse 3 op_words refl
field_inverse AxesNumber = record { shown_read = λ t v e. (axes_read t v e).0; one_line = λ v. decimal_absent 10 (omega arith) v.a }
field_inverse (NumberList count) = numbers_inverse count
field_inverse AutoPadWord = word_inverse 4 auto_pad_words refl
field_inverse (RoundingWord version) = word_inverse (rounding_count version) rounding_words refl
field_inverse AxisDigit =
    record { shown_read = λ t v e. let r = axis_read t v e in rw r.2 r.3; one_line = λ v. axis_one_line v.a (eqb v.b 0) }

-- ---- lists
module _ (count k : ℕ) (items : Items) (e : count ≡ suc k) (h : k < 6) where
  pub list_readable : InRange items → keep count items ≡ items → field_value (NumberList count) (show_field (NumberList count) items) ≡ Some items
  unfolding field_value show_field
  list_readable r q = rw e (numbers_shown k items h r (rw e at q))

  pub list_back : field_value (NumberList count) (show_field (NumberList count) items) ≡ Some items → keep count items ≡ items
  unfolding field_value show_field
  list_back q = rw e (numbers_read_lem k items h (rw e at q))

-- ---- words
pub version_readable : field_value VersionWord (show_field VersionWord (one_item 0)) ≡ Some (one_item 0)
unfolding field_value show_field word_at word_from last_number place same starts_with
version_readable = refl

pub version_back : (v : Items) → field_value VersionWord (show_field VersionWord v) ≡ Some v → v ≡ one_item 0
unfolding field_value
version_back v e = word_each 1 version_words (λ items. items ≡ one_item 0) (refl, tt) (show_field VersionWord v) v e

pub op_again : (op : Op) → op_of (op_items op) ≡ op
op_again Convolution = refl
op_again Transposed = refl
op_again MaxPool = refl

pub op_readable : (op : Op) → field_value OpWord (show_field OpWord (op_items op)) ≡ Some (op_items op)
unfolding field_value show_field word_at word_from last_number place same starts_with
op_readable Convolution = refl
op_readable Transposed = refl
op_readable MaxPool = refl

pub op_back : (v : Items) → field_value OpWord (show_field OpWord v) ≡ Some v → op_items (op_of v) ≡ v
unfolding field_value
op_back v e = word_back 3 op_words (λ (items : Items). op_items (op_of items)) (refl, (refl, (refl, tt))) (show_field OpWord v) v e

pub auto_pad_again : (mode : AutoPad) → auto_pad_of (auto_pad_items mode) ≡ mode
auto_pad_again Explicit = refl
auto_pad_again SameUpper = refl
auto_pad_again SameLower = refl
auto_pad_again Valid = refl

pub auto_pad_readable : (mode : AutoPad) → field_value AutoPadWord (show_field AutoPadWord (auto_pad_items mode)) ≡ Some (auto_pad_items mode)
unfolding field_value show_field word_at word_from last_number place same starts_with
auto_pad_readable Explicit = refl
auto_pad_readable SameUpper = refl
auto_pad_readable SameLower = refl
auto_pad_readable Valid = refl

pub auto_pad_back : (v : Items) → field_value AutoPadWord (show_field AutoPadWord v) ≡ Some v → auto_pad_items (auto_pad_of v) ≡ v
unfolding field_value
auto_pad_back v e = word_back 4 auto_pad_words (λ (items : Items). auto_pad_items (auto_pad_of items)) (refl, (refl, (refl, (refl, tt)))) (show_field AutoPadWord v) v e

pub rounding_again : (rounding : Rounding) → rounding_of (rounding_items rounding) ≡ rounding
rounding_again Floor = refl
rounding_again Ceil = refl
rounding_again CeilTorch = refl

-- a rounding that the version knows, and no other
pub rounding_readable : (version : ℕ) (rounding : Rounding) → lacks_rounding version rounding ≡ false
    → field_value (RoundingWord version) (show_field (RoundingWord version) (rounding_items rounding)) ≡ Some (rounding_items rounding)
unfolding field_value show_field word_at word_from last_number place same starts_with
rounding_readable version rounding h = go (eqb version 8) rounding h
  where
    go : (b : Bool) (r : Rounding) → b && is_ceil_torch r ≡ false
        → last_number (word_place (cond b 2 3) rounding_words (word_at (rounding_items r).a rounding_words)) ≡ Some (rounding_items r)
    go true Floor e = refl
    go true Ceil e = refl
    go true CeilTorch e = absurd (false≢true (sym e))
    go false Floor e = refl
    go false Ceil e = refl
    go false CeilTorch e = refl

pub rounding_back : (version : ℕ) (v : Items) → field_value (RoundingWord version) (show_field (RoundingWord version) v) ≡ Some v
    → (rounding_items (rounding_of v) ≡ v) × (lacks_rounding version (rounding_of v) ≡ false)
unfolding field_value show_field
rounding_back version v e = go (eqb version 8) e
  where
    back : Items → Items
    back items = rounding_items (rounding_of items)

    go : (b : Bool) → last_number (word_place (cond b 2 3) rounding_words (word_at v.a rounding_words)) ≡ Some v
        → (rounding_items (rounding_of v) ≡ v) × (b && is_ceil_torch (rounding_of v) ≡ false)
    go true q = word_each 2 rounding_words
        (λ items. (back items ≡ items) × (is_ceil_torch (rounding_of items) ≡ false)) ((refl, refl), ((refl, refl), tt)) (word_at v.a rounding_words) v q
    go false q = (word_back 3 rounding_words back (refl, (refl, (refl, tt))) (word_at v.a rounding_words) v q, refl)
