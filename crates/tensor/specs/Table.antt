-- Lists by a rising index: reading an element, and the list of f 0, f 1, ..
use Rattle.std.specs.Prelude.{ℕ, zero, suc, false, List, [], ◌∷◌, ◌++◌, pos, get_or, Float}
use Rattle.std.specs.Float.{nan, fin}

-- the element at place k; every use is within the list
abbrev pub read : List Float → ℕ → Float
read l k = get_or l k nan

-- +0
abbrev pub plus_zero : Float
plus_zero = fin false 0 (pos 0)

-- f 0, f 1, .., f (n - 1)
unfoldable pub tabulate : {A : Type 0} → (ℕ → A) → ℕ → List A
tabulate f zero = []
tabulate f (suc n) = tabulate f n ++ (f n ∷ [])
