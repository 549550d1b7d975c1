-- The axes of a plane as one. A plane is all that one image has in one channel, with three axes all its depths (the plane picker hands back one of them). All
-- axes but the last are folded into rows, here and nowhere else, so that the operators know rows and columns alone.
use Rattle.std.specs.Prelude.{ℕ, ◌+◌, ◌*◌, ◌/◌, ◌%◌, Option}
use Rattle.sizes.specs.declared.Span.{Span}
use Rattle.taps.specs.Joins.{both}
use Rattle.shape.specs.declared.Shape.{Shape}

-- ---- rows: what lies along the last axis, numbered "Row-major, last axis fastest." over the others
unfoldable pub input_rows : Shape → ℕ
input_rows s = s.z.input * s.y.input

unfoldable pub kernel_rows : Shape → ℕ
kernel_rows s = s.z.kernel * s.y.kernel

unfoldable pub out_rows : Shape → ℕ
out_rows s = s.z.out * s.y.out

-- two axes as one, y the inner
abbrev pub on_depths : (Span → ℕ → ℕ → Option ℕ) → Span → Span → ℕ → ℕ → Option ℕ
on_depths f z y p k = both y.input (f z (p / y.out) (k / y.kernel)) (f y (p % y.out) (k % y.kernel))

-- the row of the input at which kernel row k of output row p lies: `f` is `forward` (convolution, pooling) or `backward` (transposed); "likewise for depths",
-- "and likewise for z"
unfoldable pub on_rows : (Span → ℕ → ℕ → Option ℕ) → Shape → ℕ → ℕ → Option ℕ
on_rows f s p k = on_depths f s.z s.y p k

-- ---- positions of a plane: "Row-major, last axis fastest."
abbrev pub input_volume : Shape → ℕ
input_volume s = input_rows s * s.x.input

abbrev pub kernel_volume : Shape → ℕ
kernel_volume s = kernel_rows s * s.x.kernel

abbrev pub out_volume : Shape → ℕ
out_volume s = out_rows s * s.x.out

-- the position of the input plane at which kernel position k of output position p lies: "likewise for depths and columns", "and likewise for z and x"
unfoldable pub on_plane : (Span → ℕ → ℕ → Option ℕ) → Shape → ℕ → ℕ → Option ℕ
on_plane f s p k = both s.x.input (on_rows f s (p / s.x.out) (k / s.x.kernel)) (f s.x (p % s.x.out) (k % s.x.kernel))

-- ---- planes: "G groups, C = G·I, output channels G·O". Output plane (n·G + g)·O + o has the input planes (n·G + g)·I + i.
abbrev pub input_plane : Shape → ℕ → ℕ → ℕ
input_plane s plane i = plane / s.o * s.i + i
