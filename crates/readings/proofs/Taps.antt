-- A position of the kernel finds the one position of the input plane that document 01's equation joins with it on every axis, or none: read from an output position
-- (convolution, pooling), and as transposed convolution reads it.
use Rattle.std.specs.Prelude.{Option}
use Prim.Native.Nat.{ℕ, ◌/◌, ◌%◌, ◌≤◌}
use mathlib.Core.Bool.{Bool, ◌&&◌}
use Rattle.sizes.specs.declared.Span.{Span}
use Rattle.taps.specs.Joins.{joins, forward, backward, Finds}
use Rattle.taps.proofs.Joins.{forward_finds, backward_finds, both_finds}
use Rattle.shape.specs.declared.Shape.{Shape}
use Rattle.shape.specs.Facts.{Sound}
use Rattle.shape.specs.Volumes.{input_rows, input_volume, on_rows, on_plane}

-- a test of a position of the input plane, from a test of each axis: of the axis, its output position, its tap and its input position
abbrev pub on_each : (Span → ℕ → ℕ → ℕ → Bool) → Shape → ℕ → ℕ → ℕ → Bool
on_each test s p k q =
    let row = p / s.x.out in
    let tap = k / s.x.kernel in
    let line = q / s.x.input in
    test s.z (row / s.y.out) (tap / s.y.kernel) (line / s.y.input)
    && test s.y (row % s.y.out) (tap % s.y.kernel) (line % s.y.input)
    && test s.x (p % s.x.out) (k % s.x.kernel) (q % s.x.input)

-- where each axis finds the position that passes its test, the plane finds the one that passes all
plane_finds : (f : Span → ℕ → ℕ → Option ℕ) (test : Span → ℕ → ℕ → ℕ → Bool) → ((a : Span) (p k : ℕ) → 1 ≤ a.stride → Finds a.input (test a p k) (f a p k))
    → (s : Shape) → Sound s → (p k : ℕ) → Finds (input_volume s) (on_each test s p k) (on_plane f s p k)
unfolding input_rows on_rows on_plane
plane_finds f test finds s h p k =
    both_finds _ s.x.input _ _ _ _ h.x.input_1
    (both_finds s.z.input s.y.input _ _ _ _ h.y.input_1 (finds s.z _ _ h.z.stride_1) (finds s.y _ _ h.y.stride_1))
    (finds s.x _ _ h.x.stride_1)

-- "Tap ky lies at input row y·s - begin + ky·d, likewise for depths and columns"
pub plane_forward : (s : Shape) → Sound s → (p k : ℕ) → Finds (input_volume s) (on_each joins s p k) (on_plane forward s p k)
plane_forward s h p k = plane_finds forward joins (λ a p k l. forward_finds a p k) s h p k

-- "those taps where y + begin - ky·d = iy·s with iy inside the input, and likewise for z and x"
pub plane_backward : (s : Shape) → Sound s → (p k : ℕ) → Finds (input_volume s) (on_each (λ a p k q. joins a q k p) s p k) (on_plane backward s p k)
plane_backward s h p k = plane_finds backward (λ a p k q. joins a q k p) backward_finds s h p k
