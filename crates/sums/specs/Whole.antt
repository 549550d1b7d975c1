-- Demand 3: the whole-number account of an output, by the sentences of document 01 that begin "For demand 3, in either convolution:".
-- The first of them, "a call is accepted if its number is 0", is said where calls are answered.
use Rattle.std.specs.Prelude.{◌≡◌, List, Bool, false, ◌&&◌, cond, ℕ, zero, suc, ◌+◌, ◌-◌, ◌*◌, ◌/◌, ◌%◌, ◌^◌, ◌≤◌, ◌<◌, T, leb, eqb, ℤ, pos, neg_ℤ, nat_abs, ◌+ℤ◌, ◌-ℤ◌, ◌*ℤ◌, length, Float}
use Rattle.std.specs.Float.{nan, inf, fin}
use Rattle.std.specs.Float.Ieee.{up, down}
use Rattle.tensor.specs.Table.{read}
use Rattle.sums.specs.Taps.{Factors, none, pair}
use Rattle.sums.specs.declared.Profile.{Profile}
use Rattle.sums.specs.declared.Profile.TheVariants.{Halved}

-- "and an element is a whole number if its value is one, -0 being 0": `fin s m e` is the number ± m · 2^e, and 2^e is up e / down e.
unfoldable pub is_whole : Float → Bool
is_whole nan = false
is_whole (inf s) = false
is_whole (fin s m e) = eqb (m * up e % down e) 0

-- the value of a whole number
unfoldable pub value : Float → ℤ
value nan = pos 0
value (inf s) = pos 0
value (fin s m e) = cond s (neg_ℤ (pos (m * up e / down e))) (pos (m * up e / down e))

-- "An output's products are input·weight at its taps as just given, the input being 0 at a tap outside; they are exact whole numbers taken from
-- the call's tensors, never from a running sum." A tap that takes no part has none, which adds 0.
unfoldable pub product : Factors → ℤ
product none = pos 0
product (pair x w) = value x *ℤ value w

-- f 0 + f 1 + .. + f (n - 1)
unfoldable pub total : (ℕ → ℤ) → ℕ → ℤ
total f zero = pos 0
total f (suc n) = total f n +ℤ f n

-- "Its exact sum is their sum without rounding, 0 where there are none;"
abbrev pub exact_sum : (ℕ → Factors) → ℕ → ℤ
exact_sum taps n = total (λ t. product (taps t)) n

-- "their magnitudes are totalled likewise."
unfoldable pub magnitudes : (ℕ → Factors) → ℕ → ℕ
magnitudes taps zero = 0
magnitudes taps (suc n) = magnitudes taps n + nat_abs (product (taps n))

-- "The distance is the magnitude of the difference between the exact sum and the output's value as the call leaves it."
abbrev pub distance : ℤ → ℤ → ℕ
distance a b = nat_abs (a -ℤ b)

-- the premise of demand 3, for one element: a whole number of magnitude at most 4,096
abbrev pub small : Float → Bool
small x = is_whole x && leb (nat_abs (value x)) 4096

-- Demand 3 for one output, which the call leaves as r. "K is I·KZ·KY·KX, also where fewer taps reach an output": k counts the taps that take no part too.
-- The output is a whole number; its distance from the exact sum is at most (K - 1)(K + 2)/2; where the magnitudes total at most 16,777,216 it is the
-- exact sum. "Under demand 3's premise the distance of a halved sum is also, besides demand 3's bound, at most K times the smallest h with 2^h >= K; the exact case
-- holds as before": at most K·h with each such h, so with the smallest.
pub record WholeSum (profile : Profile) (taps : ℕ → Factors) (k : ℕ) (r : Float) : Type 0 where
  pub whole : T (is_whole r)
  pub near : distance (value r) (exact_sum taps k) ≤ (k - 1) * (k + 2) / 2
  pub nearer : profile ≡ Halved → (h : ℕ) → k ≤ 2 ^ h → distance (value r) (exact_sum taps k) ≤ k * h
  pub same : magnitudes taps k ≤ 16777216 → value r ≡ exact_sum taps k

-- ---- demand 3 for a call

-- the premise: every element of a tensor is small
abbrev pub AllSmall : List Float → Type 0
AllSmall l = (i : ℕ) → i < length l → T (small (read l i))

-- what it promises of each of the n outputs, over the same k taps of which the output is the sum
abbrev pub AllWhole : Profile → (ℕ → ℕ → Factors) → ℕ → ℕ → List Float → Type 0
AllWhole profile taps k n output = (j : ℕ) → j < n → WholeSum profile (taps j) k (read output j)
