-- For the code, and no part of what is promised: the taps of a row of outputs that lie inside the input, along each axis a range of them. A line is a row of an
-- output plane, numbered through all planes.
use Rattle.std.specs.Prelude.{◌≡◌, Bool, true, false, cond, eqb, List, ℕ, ◌+◌, ◌-◌, ◌*◌, ◌/◌, ◌%◌, ◌≤◌, ◌<◌, take, drop, Float}
use Rattle.sizes.specs.declared.Span.{Span}
use Rattle.sizes.specs.Bounds.{SpanLimits}
use Rattle.taps.specs.declared.Taps.{Taps}
use Rattle.taps.specs.Taps.{tap_inside, position_of, Exactly}
use Rattle.shape.specs.declared.Shape.{Shape}
use Rattle.shape.specs.Volumes.{input_rows, out_rows, kernel_volume}
use Rattle.tensor.specs.Table.{read}
use Rattle.sums.specs.Taps.{Factors, none, pair}
use Rattle.places.specs.Taps.{inside_taps, plane_taps}
use Rattle.convolution.specs.declared.Line.{Line}
use Rattle.convolution.specs.declared.KernelRow.{KernelRow}
use Rattle.convolution.specs.declared.Columns.{Columns}
use Rattle.convolution.specs.declared.Columns.TheVariants.{Alike, Whole}
use Rattle.convolution.specs.declared.Part.{Part}

-- the taps of the outputs of a line from number p on
abbrev pub line_taps : Shape → List Float → List Float → ℕ → ℕ → ℕ → ℕ → Factors
line_taps s input kernel line p x = inside_taps s input kernel (line * s.x.out + (p + x))

-- those of one channel, of a kernel depth of it, and of a kernel row of that
abbrev pub channel_taps : Shape → List Float → List Float → Line → ℕ → ℕ → ℕ → ℕ → Factors
channel_taps s input kernel f channel p x t = line_taps s input kernel f.number p x (channel * kernel_volume s + t)

abbrev pub depth_taps : Shape → List Float → List Float → Line → ℕ → ℕ → ℕ → ℕ → ℕ → Factors
depth_taps s input kernel f channel depth p x t = channel_taps s input kernel f channel p x (depth * plane_taps s + t)

abbrev pub row_taps : Shape → List Float → List Float → Line → KernelRow → ℕ → ℕ → ℕ → Factors
row_taps s input kernel f r p x t = depth_taps s input kernel f r.channel r.depth p x (r.row * s.x.kernel + t)

-- ---- what is known of a line

pub record LineOf (s : Shape) (f : Line) : Type 0 where
  pub within : f.number * s.x.out < s.outputs
  pub plane_is : f.plane ≡ f.number / out_rows s / s.o * s.i
  pub weight_is : f.weight ≡ f.number / out_rows s % s.channels * s.taps
  pub depth_is : f.depth ≡ f.number % out_rows s / s.y.out
  pub row_is : f.row ≡ f.number % out_rows s % s.y.out
  pub depths_are : Exactly s.z.kernel (tap_inside s.z f.depth) f.depths.first f.depths.count
  pub rows_are : Exactly s.y.kernel (tap_inside s.y f.row) f.rows.first f.rows.count

-- a kernel depth of a channel that lies inside the input, and a kernel row of it
pub record DepthInside (s : Shape) (f : Line) (channel depth : ℕ) : Type 0 where
  pub channel_below : channel < s.i
  pub depth_below : depth < s.z.kernel
  pub depth_inside : tap_inside s.z f.depth depth ≡ true

pub record RowInside (s : Shape) (f : Line) (r : KernelRow) : Type 0 where
  pub depth : DepthInside s f r.channel r.depth
  pub row_below : r.row < s.y.kernel
  pub row_inside : tap_inside s.y f.row r.row ≡ true

-- ---- the parts of the tensors under a kernel row

-- the number, among all rows of the input, of the one under it
abbrev pub row_number : Shape → Line → KernelRow → ℕ
row_number s f r = (f.plane + r.channel) * input_rows s + (position_of s.z f.depth r.depth * s.y.input + position_of s.y f.row r.row)

-- that row, and the weights of the kernel row
abbrev pub row_of : Shape → List Float → Line → KernelRow → List Float
row_of s input f r = take s.x.input (drop (row_number s f r * s.x.input) input)

abbrev pub weights_of : Shape → List Float → Line → KernelRow → List Float
weights_of s kernel f r = take s.x.kernel (drop (f.weight + (r.channel * kernel_volume s + (r.depth * plane_taps s + r.row * s.x.kernel))) kernel)

-- ---- a kernel row over a row of the input, of one axis

-- tap t of output p where it lies inside the input; else it takes no part
abbrev pub span_taps : Span → List Float → List Float → ℕ → ℕ → Factors
span_taps x row weights p t = cond (tap_inside x p t) (pair (read row (position_of x p t)) (read weights t)) none

-- a row and weights of these lengths are those of the axis
pub record RowFits (x : Span) (row weights : ℕ) : Type 0 where
  pub limits : SpanLimits x
  pub row_is : row ≡ x.input
  pub weights_are : weights ≡ x.kernel

-- some outputs, n of them from number `output` on, and some taps that all lie inside
pub record BlockInside (x : Span) (output : ℕ) (taps : Taps) (n : ℕ) : Type 0 where
  pub some : 1 ≤ n
  pub some_taps : 1 ≤ taps.count
  pub end : taps.first + taps.count ≤ x.kernel
  pub inside : (j t : ℕ) → j < n → t < taps.count → tap_inside x (output + j) (taps.first + t) ≡ true

-- outputs that have exactly these taps inside the input
pub record AlikeInside (x : Span) (output : ℕ) (taps : Taps) (n : ℕ) : Type 0 where
  pub some : 1 ≤ n
  pub alike : (j : ℕ) → j < n → Exactly x.kernel (tap_inside x (output + j)) taps.first taps.count

-- all outputs of a row, with a stride of 1
pub record WholeRow (x : Span) (n : ℕ) : Type 0 where
  pub stride : x.stride ≡ 1
  pub all : n ≡ x.out

-- such outputs: the first of them, whether they have no tap inside the input, and what is known of n of them
abbrev pub first_output : Columns → ℕ
first_output (Alike output taps) = output
first_output Whole = 0

abbrev pub none_inside : Columns → Bool
none_inside (Alike output taps) = eqb taps.count 0
none_inside Whole = false

abbrev pub PartInside : Span → Columns → ℕ → Type 0
PartInside x (Alike output taps) n = (output + n ≤ x.out) × AlikeInside x output taps n
PartInside x Whole n = WholeRow x n

-- with some tap inside the input, where they are alike
pub record ColumnsInside (x : Span) (c : Columns) (n : ℕ) : Type 0 where
  pub part : PartInside x c n
  pub some_taps : none_inside c ≡ false

-- the outputs that are taken at a time from number p on
pub record PartOf (x : Span) (p : ℕ) (r : Part) : Type 0 where
  pub from : first_output r.columns ≡ p
  pub some : p < r.end
  pub most : r.end ≤ x.out
  pub inside : PartInside x r.columns (r.end - p)
