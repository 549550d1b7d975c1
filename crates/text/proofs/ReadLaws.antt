-- What a number's text reads as, by its first byte b and the rest r.
use Prim.Native.Nat.{ℕ}
use mathlib.Core.Path.{◌≡◌, sym, ◌∙◌}
use mathlib.Core.List.{List, [], ◌∷◌}
use mathlib.Core.Bool.{true, false, false≢true}
use Rattle.std.specs.Prelude.{None}
use lib.Dec.{eqb, eqb-suc-zero}
use lib.ListN.{length}
use borrow.Author.Tests.{eq-eqb, ne_eqb}
use Rattle.text.specs.Numbers.{number, in_range, digits, bad_front}

pub zero_first : {t : List ℕ} (b : ℕ) (r : List ℕ) → t ≡ b ∷ r → b ≡ 48 → false ≡ eqb (length r) 0 → None ≡ number t
unfolding number bad_front
zero_first b [] h z e = absurd (false≢true e)
zero_first b (c ∷ r) h z e = sym (rw (h, eq-eqb b 48 z))

pub zero_alone : {t : List ℕ} (b : ℕ) (r : List ℕ) → t ≡ b ∷ r → true ≡ eqb (length r) 0 → number t ≡ in_range (digits 0 t)
unfolding number bad_front
zero_alone b [] h e = rw h
zero_alone b (c ∷ r) h e = absurd (false≢true (sym (e ∙ eqb-suc-zero (length r))))

pub other_first : {t : List ℕ} (b : ℕ) (r : List ℕ) → t ≡ b ∷ r → (b ≡ 48 → ⊥) → number t ≡ in_range (digits 0 t)
unfolding number bad_front
other_first b [] h z = rw h
other_first b (c ∷ r) h z = rw (h, ne_eqb b 48 z)
