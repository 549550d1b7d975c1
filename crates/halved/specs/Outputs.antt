-- For the code, and no part of what is promised: the taps of an output by its position along each axis.
use Rattle.std.specs.Prelude.{List, ℕ, ◌+◌, ◌*◌, ◌/◌, ◌%◌, ◌≤◌, ◌<◌, Float, Option}
use Rattle.taps.specs.Joins.{forward, both}
use Rattle.shape.specs.declared.Shape.{Shape}
use Rattle.shape.specs.Volumes.{out_rows}
use Rattle.sums.specs.Taps.{Factors, tap_at, inside_only}
use Rattle.places.specs.Places.{placed}
use Rattle.halved.specs.declared.Output.{Output}

-- output number j
abbrev pub output_at : Shape → ℕ → Output
output_at s j =
    let line = j / s.x.out in
    record {
      z = s.z;
      y = s.y;
      x = s.x;
      depth = line % out_rows s / s.y.out;
      row = line % out_rows s % s.y.out;
      column = j % s.x.out;
      plane = line / out_rows s / s.o * s.i;
      weight = line / out_rows s % s.channels * s.taps;
    }

-- tap ((i·KZ + kz)·KY + ky)·KX + kx: the number of its row among all rows of the kernel, that of its depth among all depths, and its channel i
abbrev pub row_of_tap : Output → ℕ → ℕ
row_of_tap o t = t / o.x.kernel

abbrev pub depth_of_tap : Output → ℕ → ℕ
depth_of_tap o t = row_of_tap o t / o.y.kernel

abbrev pub channel_of_tap : Output → ℕ → ℕ
channel_of_tap o t = depth_of_tap o t / o.z.kernel

-- where it lies in its plane of the input, along all axes
abbrev pub lies_on : Output → ℕ → Option ℕ
lies_on o t =
    both
    o.x.input
    (both o.y.input (forward o.z o.depth (depth_of_tap o t % o.z.kernel)) (forward o.y o.row (row_of_tap o t % o.y.kernel)))
    (forward o.x o.column (t % o.x.kernel))

-- its two factors where it lies inside the input; else it has none
abbrev pub output_taps : List Float → List Float → Output → ℕ → Factors
output_taps input kernel o t =
    tap_at
    input
    kernel
    (inside_only (placed ((o.plane + channel_of_tap o t) * (o.z.input * o.y.input * o.x.input)) (o.weight + t) (lies_on o t)))

-- the first `taps` taps of an output lie in an input of `inputs` elements and in a kernel of `weights` elements
pub record Held (o : Output) (taps inputs weights : ℕ) : Type 0 where
  pub planes : ℕ
  pub z_kernel : 1 ≤ o.z.kernel
  pub y_kernel : 1 ≤ o.y.kernel
  pub x_kernel : 1 ≤ o.x.kernel
  pub plane : (t : ℕ) → t < taps → o.plane + channel_of_tap o t < planes
  pub inputs_in : planes * o.z.input * o.y.input * o.x.input ≤ inputs
  pub weights_in : o.weight + taps ≤ weights
  pub inputs_max : inputs ≤ 16777216
  pub weights_max : weights ≤ 16777216
