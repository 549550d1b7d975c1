-- What a call that is refused with number 9 tells of the bad elements.
use Rattle.std.specs.Prelude.{ℕ, ◌≤◌, ◌≡◌, List, ◌⊎◌, Float, Result, Err, ⊤}
use Rattle.layer.specs.declared.Refusal.{Refusal}
use Rattle.layer.specs.declared.Refusal.TheVariants.{BadElement}
use Rattle.tensor.specs.Element.{first_bad, bad_count}

-- the tensor's number, the place of its first bad element and how many of its elements are bad
pub record TellsBad (answer : Result ⊤ Refusal) (tensor place count : ℕ) : Type 0 where
  pub told : answer ≡ Err (BadElement tensor place count)
  pub some : 1 ≤ count

-- "0 input, looked at first; 1 kernel", "the kernel is not looked at when the input is bad": where both have bad elements the input's are told, with the
-- input's place and number
abbrev pub TellsFirst : Result ⊤ Refusal → List Float → List Float → Type 0
TellsFirst answer input kernel =
    TellsBad answer 0 (first_bad input) (bad_count input)
    ⊎ ((bad_count input ≡ 0) × TellsBad answer 1 (first_bad kernel) (bad_count kernel))
