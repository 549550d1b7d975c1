-- "A window holds either nothing, or a best value with its place."
use Rattle.std.specs.Prelude.{ℕ, ◌≡◌, cond, List, [], ◌∷◌, ◌++◌, T, Float}
use Rattle.std.specs.Float.Ieee.{lt, le}
use Rattle.tensor.specs.Table.{read, tabulate}
use Rattle.tensor.specs.declared.Window.{Window}
use Rattle.tensor.specs.declared.Window.TheVariants.{Empty, Best}

-- "The best is the largest; among equal ones, and +0 equals -0, the first .. with its own bits".
-- A window after one more element: v at place p. `lt` is the < of f32.
abbrev pub better_of : Window → Float → ℕ → Window
better_of Empty v p = Best v p
better_of (Best b q) v p = cond (lt b v) (Best v p) (Best b q)

-- the window w after the elements of xs at the places ps, in their order
unfoldable pub best_of : List Float → List ℕ → Window → Window
best_of xs [] w = w
best_of xs (p ∷ ps) w = best_of xs ps (better_of w (read xs p) p)

-- the places 0, 1, .., n - 1
abbrev pub up_to : ℕ → List ℕ
up_to n = tabulate (λ k. k) n

-- ---- the same without the fold, for the law that the fold finds it

-- P holds of each element of a list
abbrev pub All : {A : Type 0} → (A → Type 0) → List A → Type 0
All P [] = Unit {0}
All P (x ∷ xs) = P x × All P xs

-- v, at place p, is the first largest of the elements of xs at the places ps
pub record FirstLargest (xs : List Float) (ps : List ℕ) (v : Float) (p : ℕ) : Type 0 where
  pub earlier : List ℕ
  pub later : List ℕ
  pub split : ps ≡ earlier ++ p ∷ later
  pub value : v ≡ read xs p
  pub above_earlier : All (λ q. T (lt (read xs q) v)) earlier
  pub above_later : All (λ q. T (le (read xs q) v)) later

-- what a window of the places ps has to hold: nothing where there is no place, else the first largest
abbrev pub HoldsBest : List Float → List ℕ → Window → Type 0
HoldsBest xs ps Empty = ps ≡ []
HoldsBest xs ps (Best v p) = FirstLargest xs ps v p
