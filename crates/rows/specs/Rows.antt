-- For the code, and no part of what is promised: running sums that stand side by side in a list, each with its own taps.
use Rattle.std.specs.Prelude.{◌≡◌, List, ◌&&◌, cond, ℕ, ◌+◌, ◌-◌, ◌*◌, ◌/◌, ◌%◌, ◌≤◌, ◌<◌, min, ltb, eqb, length, Float}
use Rattle.sizes.specs.Size.{ceil_div}
use Rattle.tensor.specs.Table.{read}
use Rattle.sums.specs.Taps.{Factors, none, pair, sum_from}

-- the first n sums have k taps more, the sum at x the taps `taps x 0`, .., `taps x (k - 1)`; the others are as they were
pub record Summed (taps : ℕ → ℕ → Factors) (k n : ℕ) (before after : List Float) : Type 0 where
  pub kept : length after ≡ length before
  pub done : (x : ℕ) → x < n → read after x ≡ sum_from (read before x) (taps x) k
  pub rest : (x : ℕ) → n ≤ x → read after x ≡ read before x

-- ---- convolution: a row of values under a kernel row

-- tap k of the sum at x
abbrev pub across : List Float → List Float → ℕ → ℕ → ℕ → ℕ → Factors
across values weights stride dilation x k = pair (read values (x * stride + k * dilation)) (read weights k)

-- how many of this many sums have all of this many taps in this many values
abbrev pub held : ℕ → ℕ → ℕ → ℕ → ℕ → ℕ
held sums values taps stride dilation = min sums (ceil_div (values - (taps - 1) * dilation) stride)

-- ---- transposed convolution: the sums at 0, stride, 2 * stride, .. take the values one after another

abbrev pub spread : List Float → Float → ℕ → ℕ → ℕ → Factors
spread values weight stride x k =
    cond (ltb 0 stride && eqb (x % stride) 0 && ltb (x / stride) (length values)) (pair (read values (x / stride)) weight) none
