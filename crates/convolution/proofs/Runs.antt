-- A kernel row over a row of the input, of one axis: for outputs that have the same taps inside the input, and for one tap and the outputs that it reaches. Both run
-- over the pairs of output and tap that lie inside, and `span_taps` is none for the others.
use mathlib.Core.Path.{◌≡◌, sym, ap, ap₂, ◌∙◌}
use mathlib.Core.List.{List, ◌++◌}
use mathlib.Core.Bool.{true, false}
use Prim.Native.Nat.{ℕ, ◌+◌, ◌-◌, ◌*◌, ◌≤◌, ◌<◌, min}
use native.Mathlib.Nat.{add-zero, add-mul, mul-one, add-sub_cancel_left}
use native.Mathlib.Omega.{arith}
use lib.ListN.{length, take, drop}
use borrow.Author.Tests.{eqb-false}
use lib.Ieee.{Float}
use Rattle.sizes.specs.declared.Span.{Span}
use Rattle.sizes.specs.Size.{ceil_div}
use Rattle.sizes.proofs.Division.{lt_ceil}
use Rattle.taps.specs.declared.Taps.{Taps}
use Rattle.taps.specs.Taps.{tap_inside, position_of, Exactly}
use Rattle.taps.proofs.Exact.{exactly_in, exactly_end, exactly_before, exactly_behind, exactly_none, position_within, position_begin}
use Rattle.tensor.specs.Table.{read}
use Rattle.tensor.proofs.Table.{part_length, part_read, part_back}
use Rattle.sums.specs.Taps.{none, pair}
use Rattle.rows.specs.Rows.{Summed, across, held}
use Rattle.rows.proofs.Rows.{summed_none, summed_part, summed_skip, summed_away, summed_same}
use Rattle.rows.proofs.Ranges.{range_taps}
use Rattle.convolution.specs.Inside.{span_taps, RowFits, BlockInside, AlikeInside, first_output, PartInside, ColumnsInside}
use Rattle.convolution.specs.declared.Columns.{Columns}
use Rattle.convolution.specs.declared.Columns.TheVariants.{Alike, Whole}

-- a tap by its test
module _ (x : Span) (row weights : List Float) (p t : ℕ) where
  pub span_inside : tap_inside x p t ≡ true → span_taps x row weights p t ≡ pair (read row (position_of x p t)) (read weights t)
  span_inside e = rw e

  pub span_outside : tap_inside x p t ≡ false → span_taps x row weights p t ≡ none
  span_outside e = rw e

-- ---- outputs and taps that all lie inside

-- the first tap of the first output
pub block_first : (x : Span) (output : ℕ) (taps : Taps) {n : ℕ} → BlockInside x output taps n → tap_inside x output taps.first ≡ true
block_first x output taps k = rw (add-zero output, add-zero taps.first) at (k.inside 0 0 k.some k.some_taps)

-- tap t of output j: its column, counted from that of the first tap of the first output
module _ (x : Span) (output : ℕ) (taps : Taps) {n : ℕ} (k : BlockInside x output taps n) {j t : ℕ} (p : j < n) (q : t < taps.count) where
  pub block_column : position_of x (output + j) (taps.first + t) ≡ position_of x output taps.first + (j * x.stride + t * x.dilation)
  block_column = omega (arith, position_begin x output taps.first (block_first x output taps k), add-mul output j x.stride, add-mul taps.first t x.dilation)

  pub block_within : position_of x output taps.first + (j * x.stride + t * x.dilation) < x.input
  block_within = omega (arith, block_column, position_within x (output + j) (taps.first + t) (k.inside j t p q))

-- what `add_taps` adds to them
module _ (x : Span) (row weights : List Float) (h : RowFits x (length row) (length weights)) (output : ℕ) (taps : Taps) (out : List Float) (k : BlockInside x output taps (length out)) where
  abbrev from : ℕ
  from = position_of x output taps.first

  from_within : from < length row
  from_within = omega (arith, h.row_is, position_within x output taps.first (block_first x output taps k))

  abbrev values : List Float
  values = take (length row - from) (drop from row)

  abbrev part : List Float
  part = take (taps.first + taps.count - taps.first) (drop taps.first weights)

  values_length : length values ≡ length row - from
  values_length = part_length row from (length row - from) (omega (arith, from_within))

  part_is : length part ≡ taps.count
  part_is = rw (add-sub_cancel_left taps.first taps.count) (part_length weights taps.first taps.count (omega (arith, h.weights_are, k.end)))

  -- every sum has all its taps among the values
  all_held : held (length out) (length values) (length part) x.stride x.dilation ≡ length out
  all_held =
      let n = length out in
      let d = length row - from - (taps.count - 1) * x.dilation in
      let l = (lt_ceil d (n - 1) h.limits.stride_1).1 (omega (arith, h.row_is, block_within x output taps k {j = n - 1} {t = taps.count - 1} (omega (arith, k.some)) (omega (arith, k.some_taps)))) in
      rw (values_length, part_is) (let e : min n (ceil_div d x.stride) ≡ n = omega (arith, k.some) in e)

  pub block_summed : {o : List Float} → Summed (across values part x.stride x.dilation) (length part) (held (length out) (length values) (length part) x.stride x.dilation) out o
      → Summed (λ j t. span_taps x row weights (output + j) (taps.first + t)) taps.count (length out) out o
  block_summed a =
      summed_same (rw (all_held, part_is) at a) (λ j t p q.
      ap₂ pair
      (part_read row from (length row - from) (j * x.stride + t * x.dilation) (omega (arith, h.row_is, block_within x output taps k p q)) ∙ ap (read row) (sym (block_column x output taps k p q)))
      (rw (add-sub_cancel_left taps.first taps.count) (part_read weights taps.first taps.count t q))
      ∙ sym (span_inside x row weights (output + j) (taps.first + t) (k.inside j t p q)))

-- ---- outputs that are alike

pub alike_block : (x : Span) (output : ℕ) (taps : Taps) {n : ℕ} → AlikeInside x output taps n → 1 ≤ taps.count → BlockInside x output taps n
alike_block x output taps k m =
    record {
      some = k.some;
      some_taps = m;
      end = exactly_end (k.alike 0 k.some) m;
      inside = λ j t p q. (exactly_in (k.alike j p) {k = taps.first + t} (omega arith) (omega arith)).1;
    }

pub alike_summed : (x : Span) (row weights : List Float) (output : ℕ) (taps : Taps) {n : ℕ} {out o : List Float} → AlikeInside x output taps n
    → Summed (λ j t. span_taps x row weights (output + j) (taps.first + t)) taps.count n out o → Summed (λ j. span_taps x row weights (output + j)) x.kernel n out o
alike_summed x row weights output taps k a = range_taps (λ j. span_taps x row weights (output + j)) k.alike (λ j t p q e. span_outside x row weights (output + j) t e) a

-- ---- one tap, for all outputs of a row: those that it reaches are lent and handed back
module _ (x : Span) (row weights : List Float) (h : RowFits x (length row) (length weights)) (k : ℕ) {first count : ℕ} (lk : k < x.kernel) (e : Exactly x.out (λ p. tap_inside x p k) first count) where
  skip : (j : ℕ) {t : ℕ} → t < 1 → tap_inside x j k ≡ false → span_taps x row weights j (k + t) ≡ none
  skip j {t} lt out = let y : k + t ≡ k = omega arith in span_outside x row weights j (k + t) (ap (tap_inside x j) y ∙ out)

  pub tap_away : {l : List Float} → length l ≡ x.out → count ≡ 0 → Summed (λ j t. span_taps x row weights j (k + t)) 1 (length l) l l
  tap_away n z = summed_away (λ j t p q. skip j q (exactly_none (rw z at e) (omega arith)))

  -- the part of the row that they take
  pub record TapPart (len : ℕ) : Type 0 where
    pub some : 1 ≤ count
    pub end : first + count ≤ len
    pub columns : position_of x first k + count ≤ length row

  pub tap_part : {len : ℕ} → x.stride ≡ 1 → len ≡ x.out → 1 ≤ count → TapPart len
  tap_part s n m =
      let last = (exactly_in e {k = first + count - 1} (omega arith) (omega arith)).1 in
      let z : (first + count - 1) * x.stride ≡ first * x.stride + (count - 1) = rw (s, mul-one, mul-one) (omega arith) in
      record {
        some = m;
        end = omega (arith, exactly_end e m);
        columns = omega (arith, h.row_is, position_within x (first + count - 1) k last, position_begin x (first + count - 1) k last, position_begin x first k (exactly_in e {k = first} (omega arith) (omega arith)).1);
      }

  pub tap_summed : {l ys : List Float} → x.stride ≡ 1 → length l ≡ x.out → 1 ≤ count
      → let part = take (first + count - first) (drop first l) in let values = take (position_of x first k + count - position_of x first k) (drop (position_of x first k) row) in
      Summed (λ j t. pair (read values j) (read weights k)) 1 (min (length part) (length values)) part ys
      → Summed (λ j t. span_taps x row weights j (k + t)) 1 (length l) l (take first l ++ (ys ++ drop (first + count - first) (drop first l)))
  tap_summed {l} {ys} s n m a =
      let f = tap_part s n m in
      let q = position_of x first k in
      let c = add-sub_cancel_left first count in
      let d = add-sub_cancel_left q count in
      let same : min count count ≡ count = omega arith in
      let before = summed_skip (λ j t. span_taps x row weights j (k + t)) 1 {a = 0} {b = first} (omega arith) (summed_none _ 1 l) (λ j t p r u. skip j u (exactly_before e (omega (arith, f.end)) r)) in
      let middle = summed_same {others = λ j t. span_taps x row weights (first + j) (k + t)}
      (rw (c, d, part_length l first count (omega (arith, f.end)), part_length row q count f.columns, same) at a) (λ j t p r.
      let y : k + t ≡ k = omega arith in
      let i = (exactly_in e {k = first + j} (omega arith) (omega arith)).1 in
      let z : q + j ≡ position_of x (first + j) k =
      omega (arith, position_begin x first k (exactly_in e {k = first} (omega arith) (omega arith)).1, add-mul first j x.stride, ap (λ (v : ℕ). j * v) s ∙ mul-one j) in
      ap (λ (v : Float). pair v (read weights k)) (part_read row q count j p ∙ ap (read row) z) ∙ sym (span_inside x row weights (first + j) k i) ∙ ap (span_taps x row weights (first + j)) (sym y)) in
      rw c (summed_skip _ 1 (omega (arith, f.end)) (summed_part _ 1 first count before (omega (arith, f.end)) middle (part_back l ys first count f.end (middle.kept ∙ part_length l first count f.end))) (λ j t p r u. skip j u (exactly_behind e (omega (arith, n)) p)))

-- ---- parts of a row

-- every one of some outputs is one of the row
pub outputs_within : (x : Span) (c : Columns) (n : ℕ) → PartInside x c n → first_output c + n ≤ x.out
outputs_within x (Alike output taps) n k = k.0
outputs_within x Whole n k = omega (arith, k.all)

pub columns_within : (x : Span) (c : Columns) {n j : ℕ} → ColumnsInside x c n → j < n → first_output c + j < x.out
columns_within x c {n} k l = omega (arith, outputs_within x c n k.part)

-- outputs that are alike, with some tap inside the input
pub alike_in : (x : Span) (c : Columns) {output : ℕ} {taps : Taps} {n : ℕ} → ColumnsInside x c n → c ≡ Alike output taps → AlikeInside x output taps n × (1 ≤ taps.count)
alike_in x c {output} {taps} k e =
    let z = eqb-false taps.count 0 (rw e at k.some_taps) in
    ((rw e at k.part).1, omega arith)
