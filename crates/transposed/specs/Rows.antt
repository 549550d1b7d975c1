-- For the code, and no part of what is promised: the taps of a row of outputs from its first taps on, by rows of the kernel. proofs/Places.antt joins them to
-- `place_of`. A line is a row of an output plane, numbered through all planes.
use Rattle.std.specs.Prelude.{ℕ, ◌+◌, ◌*◌, ◌/◌, ◌%◌, ◌≤◌, ◌<◌, List, length, take, drop, Float, None, Option, Some}
use Rattle.taps.specs.Joins.{reach_of, backward}
use Rattle.shape.specs.declared.Shape.{Shape}
use Rattle.shape.specs.Volumes.{input_rows, kernel_rows, out_rows, on_rows}
use Rattle.tensor.specs.Table.{read}
use Rattle.sums.specs.Taps.{Place, missing, at, Factors, none, pair, tap_at}
use Rattle.transposed.specs.declared.FirstTap.{FirstTap}

-- the first taps of a line: their plane of the input and of the kernel, and the line's row in its plane
abbrev pub first_tap_of : Shape → ℕ → FirstTap
first_tap_of s line =
    record {
      plane = line / out_rows s / s.o * s.i;
      weight = line / out_rows s % s.channels / s.o * s.i * s.o + line / out_rows s % s.channels % s.o;
      row = line % out_rows s;
    }

-- a tap takes part where it reaches a row and a column
unfoldable pub meet : Option ℕ → Option ℕ → (ℕ → ℕ → Place) → Place
meet (Some iy) (Some ix) place = place iy ix
meet (Some iy) None place = missing
meet None (Some ix) place = missing
meet None None place = missing

-- tap number t from first taps on, of the output at this column, counted from the start of the padding
unfoldable pub place_from : Shape → FirstTap → ℕ → ℕ → Place
place_from s f column t =
    meet (on_rows backward s f.row (t / s.x.kernel % kernel_rows s))
    (reach_of s.x.input s.x.dilation s.x.stride column (t % s.x.kernel))
    (λ y x. at
    (((f.plane + t / s.x.kernel / kernel_rows s) * input_rows s + y) * s.x.input + x)
    (((f.weight + t / s.x.kernel / kernel_rows s * s.o) * kernel_rows s + t / s.x.kernel % kernel_rows s) * s.x.kernel + t % s.x.kernel))

-- the taps of a line of outputs by their numbers, from its first taps on: all, those of channel i, and those of kernel row k of it
abbrev pub line_taps : Shape → List Float → List Float → FirstTap → ℕ → ℕ → Factors
line_taps s input kernel f x t = tap_at input kernel (place_from s f (x + s.x.begin) t)

abbrev pub channel_taps : Shape → List Float → List Float → FirstTap → ℕ → ℕ → ℕ → Factors
channel_taps s input kernel f i x t = line_taps s input kernel f x (i * (kernel_rows s * s.x.kernel) + t)

abbrev pub row_taps : Shape → List Float → List Float → FirstTap → ℕ → ℕ → ℕ → ℕ → Factors
row_taps s input kernel f i k x j = channel_taps s input kernel f i x (k * s.x.kernel + j)

-- one kernel row over one row of the input
unfoldable pub tap_in : Option ℕ → (ℕ → Factors) → Factors
tap_in (Some x) f = f x
tap_in None f = none

unfoldable pub row_tap : List Float → List Float → ℕ → ℕ → ℕ → ℕ → Factors
row_tap row weights p dilation stride k = tap_in (reach_of (length row) dilation stride p k) (λ x. pair (read row x) (read weights k))

-- row `row` of a tensor whose rows have `width` elements
unfoldable pub row_of : List Float → ℕ → ℕ → List Float
row_of t row width = take width (drop (row * width) t)

-- first taps whose outputs lie in the tensors with all their taps
pub record Within (s : Shape) (f : FirstTap) : Type 0 where
  pub plane : f.plane + s.i ≤ s.n * s.c
  pub weight : (i : ℕ) → i < s.i → f.weight + i * s.o < s.c * s.o
