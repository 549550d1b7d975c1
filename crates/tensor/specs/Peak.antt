-- "Peak finder: from a plane and its width, a peak record: value, row, column of the first largest element, compared as in a window and with its own bits."
use Rattle.std.specs.Prelude.{ℕ, ◌+◌, ◌*◌, ◌/◌, ◌%◌, ◌<◌, ◌≡◌, Bool, not, ◌||◌, cond, List, T, eqb, length, Float, Result, Ok, Err, ⊤}
use Rattle.std.specs.Float.Ieee.{lt, le}
use Rattle.layer.specs.declared.Refusal.{Refusal}
use Rattle.layer.specs.declared.Refusal.TheVariants.{SliceLength}
use Rattle.tensor.specs.Table.{read}
use Rattle.tensor.specs.Element.{element_check, bad_elements_of}
use Rattle.tensor.specs.Window.{best_of, up_to}
use Rattle.tensor.specs.declared.Peak.{Peak}
use Rattle.tensor.specs.declared.Window.{Window}
use Rattle.tensor.specs.declared.Window.TheVariants.{Empty, Best}
use Rattle.tensor.specs.declared.BadElements.{BadElements}

-- "Width 0, an empty plane or a length that is no multiple of the width: 8."
abbrev pub wrong_length : ℕ → ℕ → Bool
wrong_length len width = eqb width 0 || (eqb len 0 || not (eqb (len % width) 0))

-- Place p of a plane is at row p / width and column p % width. Only an empty plane, which is refused before, has an empty window.
abbrev pub peak_at : ℕ → Window → Result Peak Refusal
peak_at width Empty = Err SliceLength
peak_at width (Best v p) = Ok (record { value = v; row = p / width; column = p % width })

-- "A bad element: 9, the first one's place and the number of bad elements in the plane": the plane is the one tensor, number 0
abbrev pub checked_peak : List Float → ℕ → Result ⊤ BadElements → Result Peak Refusal
checked_peak plane width (Ok u) = peak_at width (best_of plane (up_to (length plane)) Empty)
checked_peak plane width (Err b) = Err (bad_elements_of b 0)

abbrev pub peak_of : List Float → ℕ → Result Peak Refusal
peak_of plane width = cond (wrong_length (length plane) width) (Err SliceLength) (checked_peak plane width (element_check plane))

-- ---- the same without the fold, for the law that the finder's peak is it

-- a peak is the first largest element of its plane
pub record LargestOfPlane (plane : List Float) (width : ℕ) (k : Peak) : Type 0 where
  pub column : k.column < width
  pub within : k.row * width + k.column < length plane
  pub value : k.value ≡ read plane (k.row * width + k.column)
  pub largest : (q : ℕ) → q < length plane → T (le (read plane q) k.value)
  pub first : (q : ℕ) → q < k.row * width + k.column → T (lt (read plane q) k.value)
