-- The numbers of refusals.
use Rattle.std.specs.Prelude.{ℕ, Result, Ok, Err, ⊤}
use Rattle.layer.specs.declared.Refusal.{Refusal}
use Rattle.layer.specs.declared.Refusal.TheVariants.{Dimension, Attribute, Groups, ElementCount, Size, OutputCount, EmptyWindow, SliceLength, BadElement}
use Rattle.layer.specs.declared.SheetError.{SheetError}
use Rattle.layer.specs.declared.SheetError.TheVariants.{Key, Number, Word, Unused, Room}

-- "Numbers a call can come back with": those of a call that is refused
abbrev pub refusal_number : Refusal → ℕ
-- "axes not 1, 2 or 3, or a dimension the operator uses is outside its limit"
refusal_number Dimension = 1
-- "attribute outside its limit, operator of another kind, .. or an unused field not at its default"
refusal_number Attribute = 2
-- "C is not G·I (convolutions)"
refusal_number Groups = 3
-- "K above 4,096 (convolutions), or input or kernel above 16,777,216 elements"
refusal_number ElementCount = 4
-- "on some axis: convolution or pooling with P < k' (explicit) or in < k' (valid); transposed with out < 1"
refusal_number Size = 5
-- "output above 16,777,216 elements"
refusal_number OutputCount = 6
-- "pooling: some window holds no element"
refusal_number EmptyWindow = 7
-- "a lent slice whose length is not exactly its element count"
refusal_number SliceLength = 8
-- "an element above 2^40 in magnitude or NaN"
refusal_number (BadElement tensor place bad) = 9

-- "20 wrong key or no line end"; "then 21 a number, or a count of numbers, that breaks the rules"; "22 unknown word"; "23 a line its operator doesn't use .. not at
-- its default"; "24 if the buffer is shorter than the sheet"
abbrev pub sheet_number : SheetError → ℕ
sheet_number Key = 20
sheet_number Number = 21
sheet_number Word = 22
sheet_number Unused = 23
sheet_number Room = 24

-- the number that a call or its checks come back with: 0 where they are done
abbrev pub number_of : {A : Type 0} → Result A Refusal → ℕ
number_of (Ok a) = 0
number_of (Err e) = refusal_number e

-- number 0: "done; every output element written"
abbrev pub done : Result ⊤ Refusal
done = Ok tt

-- the tensor, the place and the number of bad elements that a refusal tells: "A tensor, place, number of bad elements or line that a number doesn't use is 0"
abbrev pub refusal_tells : Refusal → ℕ × ℕ × ℕ
refusal_tells Dimension = (0, 0, 0)
refusal_tells Attribute = (0, 0, 0)
refusal_tells Groups = (0, 0, 0)
refusal_tells ElementCount = (0, 0, 0)
refusal_tells Size = (0, 0, 0)
refusal_tells OutputCount = (0, 0, 0)
refusal_tells EmptyWindow = (0, 0, 0)
refusal_tells SliceLength = (0, 0, 0)
refusal_tells (BadElement tensor place bad) = (tensor, place, bad)

-- and what a call tells
abbrev pub tells : {A : Type 0} → Result A Refusal → ℕ × ℕ × ℕ
tells (Ok a) = (0, 0, 0)
tells (Err e) = refusal_tells e
