-- Number 9: the elements that an operator takes; of those that it does not, the first and how many there are.
use Rattle.std.specs.Prelude.{ℕ, suc, ◌*◌, ◌^◌, Bool, false, cond, List, [], ◌∷◌, leb, eqb, Float, Result, Ok, Err, ⊤}
use Rattle.std.specs.Float.{nan, inf, fin}
use Rattle.std.specs.Float.Ieee.{up, down}
use Rattle.layer.specs.declared.Refusal.{Refusal}
use Rattle.layer.specs.declared.Refusal.TheVariants.{BadElement}
use Rattle.tensor.specs.declared.BadElements.{BadElements}

-- "Every element of input and kernel is at most 2^40 in magnitude; NaN is not."
-- An element that does not pass is bad: document 01's term.
-- `fin s m e` is the number ± m · 2^e, and 2^e is up e / down e.
unfoldable pub element_ok : Float → Bool
element_ok nan = false
element_ok (inf s) = false
element_ok (fin s m e) = leb (m * up e) (2 ^ 40 * down e)

-- "the first place in it": that of the first bad element, and the length of a tensor that has none
unfoldable pub first_bad : List Float → ℕ
first_bad [] = 0
first_bad (x ∷ xs) = cond (element_ok x) (suc (first_bad xs)) 0

-- "the number of bad elements in it"
unfoldable pub bad_count : List Float → ℕ
bad_count [] = 0
bad_count (x ∷ xs) = cond (element_ok x) (bad_count xs) (suc (bad_count xs))

-- what the element check finds in a tensor of good elements, and in another, by the place of its first bad element and their number
abbrev pub good : Result ⊤ BadElements
good = Ok tt

abbrev pub bad_from : ℕ → ℕ → Result ⊤ BadElements
bad_from place bad = Err (record { place = place; bad = bad })

-- what it finds in a tensor: no bad element, or the first one's place and their number
unfoldable pub element_check : List Float → Result ⊤ BadElements
element_check xs = cond (eqb (bad_count xs) 0) good (bad_from (first_bad xs) (bad_count xs))

-- number 9: "tells the tensor (0 input, looked at first; 1 kernel), the first place in it and the number of bad elements in it"
abbrev pub bad_elements_of : BadElements → ℕ → Refusal
bad_elements_of b tensor = BadElement tensor b.place b.bad
