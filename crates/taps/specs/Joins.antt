-- Where a tap lies along an axis: one equation, read from an output position and from an input position; and along two axes taken as one.
use Rattle.std.specs.Prelude.{ℕ, ◌+◌, ◌-◌, ◌*◌, ◌/◌, ◌%◌, ◌<◌, ◌≡◌, Bool, true, false, cond, leb, ltb, eqb, None, Option, Some}
use Rattle.sizes.specs.declared.Span.{Span}
use Rattle.taps.specs.Taps.{tap_position, tap_inside}

-- Tap k joins the positions p and q of an axis where p·stride + k·dilation = q + begin.
-- "Tap ky lies at input row y·s - begin + ky·d, likewise for depths and columns": p is the output's y, q the input row.
-- "those taps where y + begin - ky·d = iy·s": p is the input's iy, q the output's y.
abbrev pub joins : Span → ℕ → ℕ → ℕ → Bool
joins s p k q = eqb (tap_position s.stride s.dilation p k) (q + s.begin)

-- The q that tap k joins with p, where it lies inside the input: convolution, and "Pooling: taps as for convolution".
unfoldable pub forward : Span → ℕ → ℕ → Option ℕ
forward s p k = cond (tap_inside s p k) (Some (tap_position s.stride s.dilation p k - s.begin)) None

-- "those taps where y + begin - ky·d = iy·s with iy inside the input": where the stride divides the distance y + begin - ky·d, the quotient is iy. Both are
-- said for every stride: a / 0 is 0, and a % 0 is a.
abbrev pub position_in : ℕ → ℕ → Option ℕ
position_in size q = cond (ltb q size) (Some q) None

unfoldable pub position_by : ℕ → ℕ → ℕ → Option ℕ
position_by size stride distance = cond (eqb (distance % stride) 0) (position_in size (distance / stride)) None

-- from t = y + begin, which is at least ky·d where there is a distance
unfoldable pub reach_of : ℕ → ℕ → ℕ → ℕ → ℕ → Option ℕ
reach_of size dilation stride t k = cond (leb (k * dilation) t) (position_by size stride (t - k * dilation)) None

-- The p that tap k joins with q, where it lies inside the input: transposed convolution.
unfoldable pub backward : Span → ℕ → ℕ → Option ℕ
backward s q k = reach_of s.input s.dilation s.stride (q + s.begin) k

-- "Row-major, last axis fastest.": two axes as one, the inner of `size` positions. A tap lies inside where it does on both: "likewise for depths and
-- columns", "and likewise for z and x".
unfoldable pub both : ℕ → Option ℕ → Option ℕ → Option ℕ
both size (Some a) (Some b) = Some (a * size + b)
both size (Some a) None = None
both size None b = None

-- whether a tap lies inside the input
unfoldable pub is_at : Option ℕ → Bool
is_at (Some q) = true
is_at None = false

-- ---- that a reading is right: of n positions, the tap lies at the one that passes the test, or none passes it
unfoldable pub Finds : ℕ → (ℕ → Bool) → Option ℕ → Type 0
Finds n test (Some q) = (q < n) × (test q ≡ true) × ((r : ℕ) → r < n → test r ≡ true → r ≡ q)
Finds n test None = (r : ℕ) → r < n → test r ≡ true → ⊥

-- a tap that lies at one of n positions, if at any
unfoldable pub Below : ℕ → Option ℕ → Type 0
Below n (Some q) = q < n
Below n None = Unit {0}
