-- The values of a sheet's lines, as they are read and as they are shown. A value is up to six numbers: those of a list; of a word its place in its table; of an
-- axis its digit, and 1 after a minus.
use Rattle.std.specs.Prelude.{ℕ, ◌-◌, List, [], ◌∷◌, Bool, cond, ◌&&◌, leb, eqb}
use Rattle.std.specs.Prelude.{Option, Some, None}
use Rattle.text.specs.Texts.{text}
use Rattle.text.specs.Numbers.{number, decimal}
use Rattle.text.specs.Lists.{numbers, show_numbers, last_number}
use Rattle.text.specs.declared.Items.{Items}
use Rattle.layer.specs.Axes.{axes_in}
use Rattle.layer.specs.declared.SheetError.{SheetError}
use Rattle.layer.specs.declared.SheetError.TheVariants.{Number, Word}
use Rattle.values.specs.Words.{word_at, word_place}
use Rattle.values.specs.declared.Field.{Field}
use Rattle.values.specs.declared.Field.TheVariants.{VersionWord, OpWord, AxesNumber, NumberList, AutoPadWord, RoundingWord, AxisDigit}

-- "`version=14`": the one version that a line has
abbrev pub version_words : List ℕ
version_words = text "14"

-- "op is convolution, transposed or maxpool"
abbrev pub op_words : List ℕ
op_words = text "convolution,transposed,maxpool"

-- "auto_pad explicit, same_upper, same_lower or valid"
abbrev pub auto_pad_words : List ℕ
auto_pad_words = text "explicit,same_upper,same_lower,valid"

-- "rounding floor, ceil or, at version 14, ceil_torch"
abbrev pub rounding_words : List ℕ
rounding_words = text "floor,ceil,ceil_torch"

-- "22 unknown word, ceil_torch at version 8 included": how many of them a version knows
abbrev pub rounding_count : ℕ → ℕ
rounding_count version = cond (eqb version 8) 2 3

-- the table of a field's words, and how many it has; a field of numbers has none
abbrev pub words : Field → List ℕ
words VersionWord = version_words
words OpWord = op_words
words AxesNumber = []
words (NumberList count) = []
words AutoPadWord = auto_pad_words
words (RoundingWord version) = rounding_words
words AxisDigit = []

abbrev pub word_count : Field → ℕ
word_count VersionWord = 1
word_count OpWord = 3
word_count AxesNumber = 0
word_count (NumberList count) = 0
word_count AutoPadWord = 4
word_count (RoundingWord version) = rounding_count version
word_count AxisDigit = 0

-- "axes other than 1, 2 and 3 .. included"
unfoldable pub axes_number : Option ℕ → Option ℕ
axes_number None = None
axes_number (Some n) = cond (axes_in n) (Some n) None

-- "axis is -9..9 in one digit, never -0": a digit, 48 to 57, or a minus, 45, and a digit from 49 on
abbrev pub signed : ℕ → ℕ → Items
signed digit minus = record { a = digit; b = minus; c = 0; d = 0; e = 0; f = 0 }

abbrev pub digit_from : ℕ → ℕ → ℕ → Option Items
digit_from low minus b = cond (leb low b) (cond (leb b 57) (Some (signed (b - 48) minus)) None) None

unfoldable pub axis_number : List ℕ → Option Items
axis_number [] = None
axis_number (b ∷ []) = digit_from 48 0 b
axis_number (a ∷ b ∷ []) = cond (eqb a 45) (digit_from 49 1 b) None
axis_number (a ∷ b ∷ c ∷ t) = None

abbrev pub show_axis : Items → List ℕ
show_axis items = cond (eqb items.b 0) (decimal items.a) (45 ∷ decimal items.a)

-- ---- every kind of value

-- what a text spells
unfoldable pub field_value : Field → List ℕ → Option Items
field_value VersionWord t = last_number (word_place (word_count VersionWord) (words VersionWord) t)
field_value OpWord t = last_number (word_place (word_count OpWord) (words OpWord) t)
field_value AxesNumber t = last_number (axes_number (number t))
field_value (NumberList count) t = numbers count t
field_value AutoPadWord t = last_number (word_place (word_count AutoPadWord) (words AutoPadWord) t)
field_value (RoundingWord version) t = last_number (word_place (word_count (RoundingWord version)) (words (RoundingWord version)) t)
field_value AxisDigit t = axis_number t

-- the text of a value
unfoldable pub show_field : Field → Items → List ℕ
show_field VersionWord items = word_at items.a (words VersionWord)
show_field OpWord items = word_at items.a (words OpWord)
show_field AxesNumber items = decimal items.a
show_field (NumberList count) items = show_numbers count items
show_field AutoPadWord items = word_at items.a (words AutoPadWord)
show_field (RoundingWord version) items = word_at items.a (words (RoundingWord version))
show_field AxisDigit items = show_axis items

-- "21 a number, or a count of numbers, that breaks the rules, .. and a version line other than `version=14` included"; "22 unknown word"
abbrev pub unread : Field → SheetError
unread VersionWord = Number
unread OpWord = Word
unread AxesNumber = Number
unread (NumberList count) = Number
unread AutoPadWord = Word
unread (RoundingWord version) = Word
unread AxisDigit = Number

-- the default of a line that only some operators use: "output padding 0" on every axis, "rounding floor", which is the first word, "axis 0"
abbrev pub is_default_value : Items → Bool
is_default_value items = eqb items.a 0 && eqb items.b 0 && eqb items.c 0
