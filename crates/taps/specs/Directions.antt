-- What holds of a tap, whichever way it is read.
use Rattle.std.specs.Prelude.{ℕ, ◌+◌, ◌-◌, ◌*◌, ◌/◌, ◌%◌, ◌<◌, ◌≡◌, Bool, true, false, cond, ◌&&◌, leb, ltb, eqb, None, Option, Some, refl}
use native.Mathlib.Nat.{zero-mul, zero-div, zero-mod}
use borrow.Author.Tests.{ltb-true, lt-ltb}
use Rattle.sizes.specs.declared.Span.{Span}
use Rattle.taps.specs.Taps.{tap_position}
use Rattle.taps.specs.Joins.{forward, position_by, reach_of, backward, Below}

pub record TapLaws (tap : Span → ℕ → ℕ → Option ℕ) : Type 0 where
  -- a tap lies inside the input, if anywhere
  pub tap_below : (s : Span) (p k : ℕ) → Below s.input (tap s p k)
  -- without padding the first tap of the first position lies at the first position
  pub first_tap_lem : (s : Span) → s.begin ≡ 0 → 0 < s.input → tap s 0 0 ≡ Some 0

-- ---- from an output position
pub forward_below : (s : Span) (p k : ℕ) → Below s.input (forward s p k)
unfolding forward Below
forward_below s p k = go (leb s.begin c) (ltb (c - s.begin) s.input) refl
  where
    c : ℕ
    c = tap_position s.stride s.dilation p k

    go : (a b : Bool) → ltb (c - s.begin) s.input ≡ b → Below s.input (cond (a && b) (Some (c - s.begin)) None)
    go true true e = ltb-true (c - s.begin) s.input e
    go true false e = tt
    go false b e = tt

forward_first : (s : Span) → s.begin ≡ 0 → 0 < s.input → forward s 0 0 ≡ Some 0
unfolding forward
forward_first s e h = rw e (simp (zero-mul, lt-ltb 0 s.input h))

pub forward_laws : TapLaws forward
forward_laws = record { tap_below = forward_below; first_tap_lem = forward_first }

-- ---- from an input position, whatever the stride
position_below : (n s d : ℕ) → Below n (position_by n s d)
unfolding position_by Below
position_below n s d = go (eqb (d % s) 0) (ltb (d / s) n) refl
  where
    go : (a b : Bool) → ltb (d / s) n ≡ b → Below n (cond a (cond b (Some (d / s)) None) None)
    go true true e = ltb-true (d / s) n e
    go true false e = tt
    go false b e = tt

outside_below : (n : ℕ) → Below n None
unfolding Below
outside_below n = tt

pub reach_below : (n d s t k : ℕ) → Below n (reach_of n d s t k)
unfolding reach_of
reach_below n d s t k = go (leb (k * d) t)
  where
    go : (b : Bool) → Below n (cond b (position_by n s (t - k * d)) None)
    go true = position_below n s (t - k * d)
    go false = outside_below n

pub backward_below : (s : Span) (q k : ℕ) → Below s.input (backward s q k)
unfolding backward
backward_below s q k = reach_below s.input s.dilation s.stride (q + s.begin) k

backward_first : (s : Span) → s.begin ≡ 0 → 0 < s.input → backward s 0 0 ≡ Some 0
unfolding backward reach_of position_by
backward_first s e h = rw e (simp (zero-mul, zero-mod, zero-div, lt-ltb 0 s.input h))

pub backward_laws : TapLaws backward
backward_laws = record { tap_below = backward_below; first_tap_lem = backward_first }
