-- For the code, and no part of what is promised: the taps of an output that lie inside the input.
use Rattle.std.specs.Prelude.{List, ℕ, ◌*◌, Float}
use Rattle.shape.specs.declared.Shape.{Shape}
use Rattle.sums.specs.Taps.{Factors, inside_taps_of}
use Rattle.places.specs.Places.{place_of}

-- tap t of output j where it lies inside the input; else it takes no part
abbrev pub inside_taps : Shape → List Float → List Float → ℕ → ℕ → Factors
inside_taps s = inside_taps_of (place_of s)

-- the number of taps of a kernel depth of one channel
abbrev pub plane_taps : Shape → ℕ
plane_taps s = s.y.kernel * s.x.kernel
