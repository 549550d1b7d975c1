-- The taps of one axis: where tap k of output position p lies, and which taps lie inside the input. A tap is document 01's term for one place of the kernel.
use Rattle.std.specs.Prelude.{ℕ, zero, suc, ◌+◌, ◌-◌, ◌*◌, ◌≤◌, ◌<◌, ◌≡◌, Bool, false, not, cond, ◌&&◌, ◌||◌, leb, ltb, eqb}
use Rattle.sizes.specs.declared.Span.{Span}
use Rattle.sizes.specs.Size.{ceil_div}

-- "Tap ky lies at input row y·s - begin + ky·d, likewise for depths and columns", counted from the start of the padding, so that no number is negative:
abbrev pub tap_position : ℕ → ℕ → ℕ → ℕ → ℕ
tap_position stride dilation p k = p * stride + k * dilation

-- whether the position t, counted from the start of the padding, lies inside an input of this size
abbrev pub inside : ℕ → ℕ → ℕ → Bool
inside begin size t = leb begin t && ltb (t - begin) size

-- tap k of output position p lies inside the input
abbrev pub tap_inside : Span → ℕ → ℕ → Bool
tap_inside s p k = inside s.begin s.input (tap_position s.stride s.dilation p k)

-- the input position of tap k of output position p, where it lies inside the input
abbrev pub position_of : Span → ℕ → ℕ → ℕ
position_of s p k = tap_position s.stride s.dilation p k - s.begin

-- f holds of some number below n
unfoldable pub any_below : ℕ → (ℕ → Bool) → Bool
any_below zero f = false
any_below (suc n) f = any_below n f || f n

-- some tap of output position p lies inside the input
unfoldable pub reached : Span → ℕ → Bool
reached s p = any_below s.kernel (tap_inside s p)

-- some output position has no tap inside the input
unfoldable pub some_missed : Span → Bool
some_missed s = any_below s.out (λ p. not (reached s p))

-- of the taps below `kernel`, exactly those from `first` on, `count` of them, pass the test; so `count` is 0 where none does
pub record Exactly (kernel : ℕ) (test : ℕ → Bool) (first count : ℕ) : Type 0 where
  pub exactly : (k : ℕ) → ltb k kernel && test k ≡ leb first k && ltb k (first + count)

-- ---- for the code: an axis with its taps for its output positions and the other way round
abbrev pub turned : Span → Span
turned s = record { input = s.input; kernel = s.out; stride = s.dilation; dilation = s.stride; begin = s.begin; out = s.kernel }

-- ---- for the code: output positions that follow one another, from p up to `end`

-- each has the same taps inside the input as p
pub record SameTaps (s : Span) (p end : ℕ) : Type 0 where
  pub some : p < end
  pub same : (q k : ℕ) → p ≤ q → q < end → k < s.kernel → tap_inside s q k ≡ tap_inside s p k

-- each has exactly these taps inside the input
pub record Alike (s : Span) (p end first count : ℕ) : Type 0 where
  pub some : p < end
  pub alike : (q : ℕ) → p ≤ q → q < end → Exactly s.kernel (tap_inside s q) first count

-- each has its last tap before position `limit`, counted from the start of the padding
pub record AllBefore (s : Span) (p limit end : ℕ) : Type 0 where
  pub some : p < end
  pub before : (q : ℕ) → p ≤ q → q < end → q * s.stride + (s.kernel - 1) * s.dilation < limit

-- ---- for the code that finds them: the fewest steps that cover a distance, and where a step is 0 and the distance is not, more than any kernel has taps
unfoldable pub steps_to : ℕ → ℕ → ℕ
steps_to distance step = cond (eqb step 0) (cond (eqb distance 0) 0 4294967295) (ceil_div distance step)
