-- Lists of numbers with a comma between two, up to six.
use Rattle.std.specs.Prelude.{ℕ, zero, suc, min, List, [], ◌∷◌, ◌++◌, cond, leb, ltb, length, take, drop}
use Rattle.std.specs.Prelude.{Option, Some, None}
use Rattle.text.specs.Texts.{place}
use Rattle.text.specs.Numbers.{number, decimal}
use Rattle.text.specs.declared.Items.{Items}

-- one number; a number in front of others; the numbers after the first
abbrev pub one_item : ℕ → Items
one_item x = record { a = x; b = 0; c = 0; d = 0; e = 0; f = 0 }

abbrev pub more_item : ℕ → Items → Items
more_item x items = record { a = x; b = items.a; c = items.b; d = items.c; e = items.d; f = items.e }

abbrev pub later_items : Items → Items
later_items items = record { a = items.b; b = items.c; c = items.d; d = items.e; e = items.f; f = 0 }

unfoldable pub last_number : Option ℕ → Option Items
last_number None = None
last_number (Some x) = Some (one_item x)

unfoldable pub one_more : Option ℕ → Option Items → Option Items
one_more None r = None
one_more (Some x) None = None
one_more (Some x) (Some items) = Some (more_item x items)

-- the list of so many numbers that a whole text spells: the first ends at the first comma
unfoldable pub spelled : ℕ → List ℕ → Option Items
spelled zero t = None
spelled (suc zero) t = last_number (number t)
spelled (suc (suc k)) t =
    cond (ltb (place 44 t) (length t))
    (one_more (number (take (place 44 t) t)) (spelled (suc k) (drop (suc (place 44 t)) t)))
    None

-- a list of more than six is none
unfoldable pub numbers : ℕ → List ℕ → Option Items
numbers count t = cond (leb count 6) (spelled count t) None

-- the text of so many of the numbers
unfoldable pub shown : ℕ → Items → List ℕ
shown zero items = []
shown (suc zero) items = decimal items.a
shown (suc (suc k)) items = decimal items.a ++ (44 ∷ shown (suc k) (later_items items))

-- at most the six that there are
unfoldable pub show_numbers : ℕ → Items → List ℕ
show_numbers count items = shown (min count 6) items
