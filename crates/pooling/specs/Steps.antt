-- For the code, and no part of what is promised: the scan of a window, kernel row by kernel row. A line is a row of a plane, numbered through all planes.
use Rattle.std.specs.Prelude.{ℕ, zero, suc, ◌+◌, ◌*◌, List, [], ◌∷◌, Float, None, Option, Some}
use Rattle.sizes.specs.declared.Span.{Span}
use Rattle.taps.specs.Joins.{forward}
use Rattle.shape.specs.declared.Shape.{Shape}
use Rattle.shape.specs.Volumes.{kernel_rows, on_rows}
use Rattle.tensor.specs.declared.Window.{Window}
use Rattle.tensor.specs.Table.{read}
use Rattle.tensor.specs.Window.{better_of, best_of}
use Rattle.pooling.specs.Windows.{over_taps}

-- the window w after one tap: `step` where the tap lies inside
abbrev pub after_tap : (ℕ → Window → Window) → Option ℕ → Window → Window
after_tap step None w = w
after_tap step (Some c) w = step c w

-- the window w after the taps 0, 1, .., n - 1
unfoldable pub after_taps : (ℕ → Option ℕ) → (ℕ → Window → Window) → ℕ → Window → Window
after_taps tap step zero w = w
after_taps tap step (suc k) w = after_tap step (tap k) (after_taps tap step k w)

-- the step of a column: an element of `row`, which begins at place `start` of the input
abbrev pub column_step : List Float → ℕ → ℕ → Window → Window
column_step row start c w = better_of w (read row c) (start + c)

-- the places of the elements of a window, at output column q, in a line of the input
abbrev pub line_places : Span → ℕ → ℕ → List ℕ
line_places x q line = over_taps (forward x q) (λ c. (line * x.input + c) ∷ []) x.kernel

-- the step of a row: the elements of row r of the plane whose row 0 is line number `first`
abbrev pub row_step : List Float → ℕ → Span → ℕ → ℕ → Window → Window
row_step input first x q r w = best_of input (line_places x q (first + r)) w

-- the window of that plane at output row p and column q
unfoldable pub plane_window : List Float → ℕ → Shape → ℕ → ℕ → Window → Window
plane_window input first s p q w = best_of input (over_taps (on_rows forward s p) (λ r. line_places s.x q (first + r)) (kernel_rows s)) w
