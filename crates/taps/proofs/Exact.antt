-- What a range of taps says of each tap, and what is said at once of all taps of a position; output positions with the same taps inside the input.
use Rattle.std.specs.Prelude.{None, Option, Some}
use Prim.Native.Nat.{ℕ, ◌+◌, ◌-◌, ◌*◌, ◌≤◌, ◌<◌, max}
use native.Mathlib.Nat.{add_comm, mul-le-mul_right}
use native.Mathlib.Omega.{arith}
use native.Mathlib.Decide.{dec_lt}
use mathlib.Core.Path.{◌≡◌, refl, sym, ap, ◌∙◌}
use mathlib.Core.Bool.{Bool, true, false, ◌&&◌}
use lib.Dec.{leb, ltb}
use borrow.Author.Tests.{leb-true, ltb-true, le-leb, lt-leb, lt-ltb, le-ltb}
use Rattle.layer.proofs.Tests.{and_both, and_of, and_false}
use Rattle.sizes.specs.declared.Span.{Span}
use Rattle.sizes.specs.Size.{ceil_div}
use Rattle.sizes.proofs.Division.{lt_ceil, stride_some}
use Rattle.taps.specs.Taps.{tap_position, inside, tap_inside, position_of, turned, Exactly, SameTaps, Alike, AllBefore}
use Rattle.taps.specs.Joins.{forward, both}

-- ---- a range of the taps below n
module _ {n : ℕ} {test : ℕ → Bool} {first count : ℕ} (e : Exactly n test first count) where
  -- a tap of it
  pub exactly_in : {k : ℕ} → first ≤ k → k < first + count → (k < n) × (test k ≡ true)
  exactly_in {k} h l =
      let u = and_both (ltb k n) (test k) (e.exactly k ∙ and_of _ _ (le-leb first k h) (lt-ltb k (first + count) l)) in
      (ltb-true k n u.0, u.1)

  -- its end
  pub exactly_end : 1 ≤ count → first + count ≤ n
  exactly_end h = let l = (exactly_in {k = first + count - 1} (omega arith) (omega arith)).0 in omega arith

  -- a tap before it, and one behind it
  pub exactly_before : {k : ℕ} → k < n → k < first → test k ≡ false
  exactly_before {k} l h = (rw (lt-ltb k n l) at (e.exactly k)) ∙ rw (lt-leb first k h)

  pub exactly_behind : {k : ℕ} → k < n → first + count ≤ k → test k ≡ false
  exactly_behind {k} l h = (rw (lt-ltb k n l) at (e.exactly k)) ∙ rw (le-ltb k (first + count) h) (and_false (leb first k))

-- a range without taps
pub exactly_none : {n : ℕ} {test : ℕ → Bool} {first : ℕ} → Exactly n test first 0 → {k : ℕ} → k < n → test k ≡ false
exactly_none {test = test} {first = first} e {k} l = go (dec_lt k first)
  where
    go : Dec (k < first) → test k ≡ false
    go (yes h) = exactly_before e l h
    go (no h) = exactly_behind e l (omega arith)

-- ---- all taps of a position at once
module _ (s : Span) (q k : ℕ) (l : k < s.kernel) where
  reached : k * s.dilation ≤ (s.kernel - 1) * s.dilation
  reached = mul-le-mul_right s.dilation (omega arith)

  pub all_before : q * s.stride + (s.kernel - 1) * s.dilation < s.begin → tap_inside s q k ≡ false
  all_before h = rw (lt-leb s.begin (tap_position s.stride s.dilation q k) (omega (arith, reached)))

  pub all_inside : s.begin ≤ q * s.stride → q * s.stride + (s.kernel - 1) * s.dilation < s.begin + s.input → tap_inside s q k ≡ true
  all_inside h m = let t = tap_position s.stride s.dilation q k in rw (le-leb s.begin t (omega arith), lt-ltb (t - s.begin) s.input (omega (arith, reached)))

  pub all_behind : s.begin + s.input ≤ q * s.stride → tap_inside s q k ≡ false
  all_behind h = let t = tap_position s.stride s.dilation q k in rw (le-ltb (t - s.begin) s.input (omega arith)) (and_false (leb s.begin t))

-- ---- positions from p up to `end` with the same taps inside
module _ (s : Span) {p end : ℕ} where
  pub same_behind : s.begin + s.input ≤ p * s.stride → p < end → SameTaps s p end
  same_behind h l =
      record { some = l; same = λ q k m n u. all_behind s q k u (omega (arith, mul-le-mul_right {m = p} {n = q} s.stride m)) ∙ sym (all_behind s p k u h) }

  pub same_before : AllBefore s p s.begin end → SameTaps s p end
  same_before h = record { some = h.some; same = λ q k m n u. all_before s q k u (h.before q m n) ∙ sym (all_before s p k u (h.before p (omega arith) h.some)) }

  pub same_inside : s.begin ≤ p * s.stride → AllBefore s p (s.begin + s.input) end → SameTaps s p end
  same_inside b h =
      record {
        some = h.some;
        same = λ q k m n u.
            all_inside s q k u (omega (arith, mul-le-mul_right {m = p} {n = q} s.stride m)) (h.before q m n)
            ∙ sym (all_inside s p k u b (h.before p (omega arith) h.some));
      }

  -- p alone
  pub same_one : end ≡ p + 1 → SameTaps s p end
  same_one e = record { some = omega arith; same = λ q k m n u. let z : q ≡ p = omega arith in rw z }

-- the positions whose last tap lies before a limit, by their number
module _ (s : Span) {p limit end : ℕ} (h : p * s.stride + (s.kernel - 1) * s.dilation < limit) where
  pub before_all : end ≡ ceil_div (limit - (s.kernel - 1) * s.dilation) s.stride → p + 1 < end → AllBefore s p limit end
  before_all e l =
      record {
        some = omega arith;
        before = λ q m n.
            let d = limit - (s.kernel - 1) * s.dilation in
            let c : q < ceil_div d s.stride = omega arith in
            omega (arith, (lt_ceil d q (stride_some d s.stride c)).0 c);
      }

  pub before_one : end ≡ p + 1 → AllBefore s p limit end
  before_one e = record { some = omega arith; before = λ q m n. let z : q ≡ p = omega arith in rw z h }

-- whichever is more
module _ (s : Span) {p limit end : ℕ} (h : p * s.stride + (s.kernel - 1) * s.dilation < limit) (e : end ≡ ceil_div (limit - (s.kernel - 1) * s.dilation) s.stride) where
  pub before_most : AllBefore s p limit (max (p + 1) end)
  before_most = go (dec_lt (p + 1) end)
    where
      go : Dec (p + 1 < end) → AllBefore s p limit (max (p + 1) end)
      go (yes l) = let z : max (p + 1) end ≡ end = omega arith in rw z (before_all s h e l)
      go (no l) = before_one s h (omega arith)

-- positions with the same taps inside have the same range
pub same_alike : (s : Span) (p end first count : ℕ) → SameTaps s p end → Exactly s.kernel (tap_inside s p) first count → Alike s p end first count
same_alike s p end first count h e =
    record { some = h.some; alike = λ q l m. record { exactly = λ k. go q l m k (dec_lt k s.kernel) ∙ e.exactly k } }
  where
    go : (q : ℕ) → p ≤ q → q < end → (k : ℕ) → Dec (k < s.kernel) → ltb k s.kernel && tap_inside s q k ≡ ltb k s.kernel && tap_inside s p k
    go q l m k (yes u) = ap (λ (b : Bool). ltb k s.kernel && b) (h.same q k l m u)
    go q l m k (no u) = rw (le-ltb k s.kernel (omega arith))

-- so have fewer of them
pub alike_less : (s : Span) {p end less first count : ℕ} → p < less → less ≤ end → Alike s p end first count → Alike s p less first count
alike_less s l m a = record { some = l; alike = λ q u v. a.alike q u (omega arith) }

-- tap k of position p is tap p of position k of the turned axis
pub turned_inside : (s : Span) (k p : ℕ) → tap_inside s p k ≡ tap_inside (turned s) k p
turned_inside s k p = ap (inside s.begin s.input) (add_comm (p * s.stride) (k * s.dilation))

pub turned_exactly : (s : Span) (k first count : ℕ) → Exactly s.out (tap_inside (turned s) k) first count → Exactly s.out (λ p. tap_inside s p k) first count
turned_exactly s k first count e = record { exactly = λ p. ap (λ (b : Bool). ltb p s.out && b) (turned_inside s k p) ∙ e.exactly p }

-- ---- where a tap lies, by the test
module _ (s : Span) (p k : ℕ) where
  pub forward_at : tap_inside s p k ≡ true → forward s p k ≡ Some (position_of s p k)
  unfolding forward
  forward_at e = rw e

  pub forward_outside : tap_inside s p k ≡ false → forward s p k ≡ None
  unfolding forward
  forward_outside e = rw e

  pub position_within : tap_inside s p k ≡ true → position_of s p k < s.input
  position_within e = ltb-true _ _ (and_both (leb s.begin (tap_position s.stride s.dilation p k)) _ e).1

  pub position_begin : tap_inside s p k ≡ true → s.begin ≤ tap_position s.stride s.dilation p k
  position_begin e = leb-true _ _ (and_both (leb s.begin (tap_position s.stride s.dilation p k)) _ e).0

-- outside on either of two axes is outside on both
pub both_outer : (m : ℕ) (t : Option ℕ) → both m None t ≡ None
unfolding both
both_outer m t = refl

pub both_inner : (m : ℕ) (t : Option ℕ) → both m t None ≡ None
unfolding both
both_inner m (Some a) = refl
both_inner m None = refl

pub both_at : (m a b : ℕ) → both m (Some a) (Some b) ≡ Some (a * m + b)
unfolding both
both_at m a b = refl
