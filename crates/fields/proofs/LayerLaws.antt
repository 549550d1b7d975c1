-- Lists and layers: the lists of a layer can be read again, and a layer made of lists has those lists.
use Prim.Native.Nat.{ℕ, zero, suc, ◌+◌, ◌-◌, ◌≤◌, ◌<◌}
use mathlib.Core.Path.{◌≡◌, refl, sym}
use mathlib.Core.Bool.{Bool, true, false, cond}
use native.Mathlib.Omega.{arith}
use Rattle.text.specs.Lists.{one_item, more_item, later_items}
use Rattle.text.specs.declared.Items.{Items}
use Rattle.text.proofs.ListLaws.{keep, InRange, more_range}
use Rattle.layer.specs.Axes.{axes_in, uses_y, uses_z}
use Rattle.layer.specs.declared.Op.{Op}
use Rattle.layer.specs.declared.Op.TheVariants.{Convolution, Transposed, MaxPool}
use Rattle.layer.proofs.Tests.{within_both}
use Rattle.fields.specs.Layers.{input_numbers, kernel_numbers, kernel_of, per_axis, axis_list, input_list, kernel_list}
use Rattle.fields.specs.declared.PerAxis.{PerAxis}
use Rattle.fields.proofs.Fits.{U32}

-- ---- the numbers of a layer's lists are in range
one_range : (x : ℕ) → U32 x → InRange (one_item x)
one_range x h = record { a = h; b = omega arith; c = omega arith; d = omega arith; e = omega arith; f = omega arith }

axis_range : (axes z y x : ℕ) → U32 z → U32 y → U32 x → InRange (axis_list axes z y x)
axis_range axes z y x hz hy hx = go (uses_z axes) (uses_y axes)
  where
    two : InRange (more_item y (one_item x))
    two = more_range y (one_item x) hy (one_range x hx)

    go : (a b : Bool) → InRange (cond a (more_item z (more_item y (one_item x))) (cond b (more_item y (one_item x)) (one_item x)))
    go true b = more_range z _ hz two
    go false true = two
    go false false = one_range x hx

pub input_range : (axes n c z y x : ℕ) → U32 n → U32 c → U32 z → U32 y → U32 x → InRange (input_list axes n c z y x)
input_range axes n c z y x hn hc hz hy hx = more_range n _ hn (more_range c _ hc (axis_range axes z y x hz hy hx))

-- ---- the numbers of the axes and their list

-- the first numbers of a list, as the axes have them, and the list of the axes' numbers
abbrev pub on_axes : ℕ → ℕ → Items → PerAxis
on_axes axes unused items = per_axis axes unused items.a items.b items.c

abbrev pub listed : ℕ → PerAxis → Items
listed axes p = axis_list axes p.z p.y p.x

-- a count from one to six
abbrev pub Counted : ℕ → Type 0
Counted count = (k : ℕ) × (count ≡ suc k) × (k < 6)

-- the numbers are in range, and those that are not shown are 0
abbrev pub ListOk : ℕ → Items → Type 0
ListOk count items = InRange items × (keep count items ≡ items)

module _ (axes : ℕ) (h : axes_in axes ≡ true) where
  -- what holds with one axis, with two and with three
  pub by_axes : (P : ℕ → Type 0) → P 1 → P 2 → P 3 → P axes
  by_axes P one two three = go axes (within_both 1 3 axes h)
    where
      go : (n : ℕ) → (1 ≤ n) × (n ≤ 3) → P n
      go zero b = absurd (omega arith)
      go (suc zero) b = one
      go (suc (suc zero)) b = two
      go (suc (suc (suc zero))) b = three
      go (suc (suc (suc (suc n)))) b = absurd (omega arith)

  -- Each gives the other back, where an axis that is not used is at its default and a number that is not shown is 0.
  pub axes_again : (unused : ℕ) (p : PerAxis) → (uses_z axes ≡ false → p.z ≡ unused) → (uses_y axes ≡ false → p.y ≡ unused)
      → on_axes axes unused (listed axes p) ≡ p
  axes_again unused p = by_axes
      (λ n. (uses_z n ≡ false → p.z ≡ unused) → (uses_y n ≡ false → p.y ≡ unused) → on_axes n unused (listed n p) ≡ p)
      (λ hz hy i. record { z = sym (hz refl) i; y = sym (hy refl) i; x = p.x })
      (λ hz hy i. record { z = sym (hz refl) i; y = p.y; x = p.x })
      (λ hz hy. refl)

  pub list_again : (unused : ℕ) (items : Items) → listed axes (on_axes axes unused items) ≡ keep axes items
  list_again unused items = by_axes (λ n. listed n (on_axes n unused items) ≡ keep n items) refl refl refl

  -- ---- the counts
  counted : (count : ℕ) → axes ≤ count → count ≤ axes + 3 → Counted count
  counted count l m = let b = within_both 1 3 axes h in (count - 1, omega arith, omega arith)

  pub axes_counted : Counted axes
  axes_counted = counted axes (omega arith) (omega arith)

  pub input_counted : Counted (input_numbers axes)
  input_counted = counted (axes + 2) (omega arith) (omega arith)

  pub kernel_counted : (op : Op) → Counted (kernel_numbers op axes)
  kernel_counted Convolution = counted (axes + 3) (omega arith) (omega arith)
  kernel_counted Transposed = counted (axes + 3) (omega arith) (omega arith)
  kernel_counted MaxPool = axes_counted

  -- ---- the lists of a layer
  module _ (z y x : ℕ) (hz : U32 z) (hy : U32 y) (hx : U32 x) where
    pub axis_ok_lem : ListOk axes (axis_list axes z y x)
    axis_ok_lem = (axis_range axes z y x hz hy hx, by_axes (λ n. keep n (axis_list n z y x) ≡ axis_list n z y x) refl refl refl)

    pub input_ok : (n c : ℕ) → U32 n → U32 c → ListOk (input_numbers axes) (input_list axes n c z y x)
    input_ok n c hn hc = (
      input_range axes n c z y x hn hc hz hy hx,
      by_axes (λ k. keep (input_numbers k) (input_list k n c z y x) ≡ input_list k n c z y x) refl refl refl,
    )

    more_ok : (a b c : ℕ) → U32 a → U32 b → U32 c → ListOk (axes + 3) (kernel_list Convolution axes a b c z y x)
    more_ok a b c ha hb hc = (
      more_range a _ ha (more_range b _ hb (more_range c _ hc axis_ok_lem.0)),
      by_axes (λ k. keep (k + 3) (kernel_list Convolution k a b c z y x) ≡ kernel_list Convolution k a b c z y x) refl refl refl,
    )

    pub kernel_ok_lem : (op : Op) (g o i : ℕ) → U32 g → U32 o → U32 i → ListOk (kernel_numbers op axes) (kernel_list op axes g o i z y x)
    kernel_ok_lem Convolution g o i hg ho hi = more_ok g o i hg ho hi
    kernel_ok_lem Transposed g o i hg ho hi = more_ok _ _ _ hg (omega (arith, ho, hi)) (omega (arith, ho, hi))
    kernel_ok_lem MaxPool g o i hg ho hi = axis_ok_lem

  -- ---- the lists of a layer that was made of lists, as `list_again`, with other numbers before those of the axes
  pub input_again : (unused : ℕ) (items : Items) → let p = on_axes axes unused (later_items (later_items items)) in
      input_list axes items.a items.b p.z p.y p.x ≡ keep (input_numbers axes) items
  input_again unused items = by_axes
      (λ n. let p = on_axes n unused (later_items (later_items items)) in input_list n items.a items.b p.z p.y p.x ≡ keep (n + 2) items)
      refl refl refl

  more_again : (unused : ℕ) (items : Items) → let p = on_axes axes unused (later_items (later_items (later_items items))) in
      kernel_list Convolution axes items.a items.b items.c p.z p.y p.x ≡ keep (axes + 3) items
  more_again unused items = by_axes
      (λ n. let p = on_axes n unused (later_items (later_items (later_items items))) in
      kernel_list Convolution n items.a items.b items.c p.z p.y p.x ≡ keep (n + 3) items)
      refl refl refl

  pub kernel_again : (op : Op) (unused : ℕ) (items : Items) → let k = kernel_of op items in
      let p = per_axis axes unused k.first k.second k.third in
      kernel_list op axes k.g k.o k.i p.z p.y p.x ≡ keep (kernel_numbers op axes) items
  kernel_again Convolution = more_again
  kernel_again Transposed = more_again
  kernel_again MaxPool = list_again
