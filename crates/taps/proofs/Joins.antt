-- A tap finds the one position that it joins; two axes are one.
use Rattle.std.specs.Prelude.{None, Option, Some}
use Prim.Native.Nat.{ℕ, ◌+◌, ◌-◌, ◌*◌, ◌/◌, ◌%◌, ◌≤◌, ◌<◌}
use native.Mathlib.Nat.{div-add-mod', mul-mod_left, mul-div_cancel, div-lt_iff_lt-mul, mod-lt, zero-add, zero-mul}
use native.Mathlib.Omega.{arith}
use mathlib.Core.Path.{◌≡◌, refl, sym, ap, ap₂, ◌∙◌, subst, fun_ext}
use mathlib.Core.Bool.{Bool, true, false, cond, ◌&&◌, false≢true}
use lib.Dec.{leb, ltb, eqb}
use borrow.Author.Tests.{ltb-true, ltb-false, leb-true, leb-false, eqb-true, lt-ltb, le-leb, eq-eqb, ne_eqb}
use Rattle.layer.proofs.Tests.{and_both, and_of, both_ways}
use Rattle.layer.proofs.Places.{place_div, place_mod, place_within}
use Rattle.sizes.specs.declared.Span.{Span}
use Rattle.taps.specs.Taps.{tap_position, tap_inside}
use Rattle.taps.specs.Joins.{joins, forward, position_in, position_by, reach_of, backward, both, is_at, Finds, Below}

-- ---- by a step: a distance that is a multiple of it, or is not
pub multiple : (size stride distance : ℕ) → distance % stride ≡ 0 → position_by size stride distance ≡ position_in size (distance / stride)
unfolding position_by
multiple size stride distance e = simp (eq-eqb _ _ e)

pub no_multiple : (size stride distance : ℕ) → (distance % stride ≡ 0 → ⊥) → position_by size stride distance ≡ None
unfolding position_by
no_multiple size stride distance n = simp (ne_eqb _ _ n)

-- ---- a tap that finds
finds_same : (n : ℕ) (f g : ℕ → Bool) (t : Option ℕ) → ((q : ℕ) → f q ≡ g q) → Finds n f t → Finds n g t
finds_same n f g t e h = subst (λ (test : ℕ → Bool). Finds n test t) (fun_ext e) h

pub finds_below : (n : ℕ) (test : ℕ → Bool) (t : Option ℕ) → Finds n test t → Below n t
unfolding Finds Below
finds_below n f (Some q) h = h.0
finds_below n f None h = tt

-- the position that passes the test is the one that is found
pub finds_at : (n : ℕ) (test : ℕ → Bool) (t : Option ℕ) (q : ℕ) → Finds n test t → q < n → test q ≡ true → t ≡ Some q
unfolding Finds
finds_at n f (Some r) q h l e = ap Some (sym (h.2 q l e))
finds_at n f None q h l e = absurd (h q l e)

-- and the one that is found passes it
pub at_finds : (n : ℕ) (test : ℕ → Bool) (t : Option ℕ) (q : ℕ) → Finds n test t → t ≡ Some q → (q < n) × (test q ≡ true)
unfolding Finds
at_finds n f t q h e = let u = subst (Finds n f) e h in (u.0, u.1)

pub below_at : (n : ℕ) (t : Option ℕ) (q : ℕ) → Below n t → t ≡ Some q → q < n
unfolding Below
below_at n t q h e = subst (Below n) e h

pub below_more : (n m : ℕ) (t : Option ℕ) → n ≤ m → Below n t → Below m t
unfolding Below
below_more n m (Some q) h k = omega arith
below_more n m None h k = tt

finds_none : (n : ℕ) (test : ℕ → Bool) → ((r : ℕ) → r < n → test r ≡ true → ⊥) → Finds n test None
unfolding Finds
finds_none n f h = h

-- ---- from an output position
pub forward_finds : (s : Span) (p k : ℕ) → Finds s.input (joins s p k) (forward s p k)
unfolding forward Finds
forward_finds s p k = go (tap_inside s p k) refl
  where
    c : ℕ
    c = tap_position s.stride s.dilation p k

    met : (r : ℕ) → r < s.input → joins s p k r ≡ true → tap_inside s p k ≡ true
    met r l e = let t = eqb-true c (r + s.begin) e in and_of _ _ (le-leb s.begin c (omega arith)) (lt-ltb (c - s.begin) s.input (omega arith))

    go : (b : Bool) → tap_inside s p k ≡ b → Finds s.input (joins s p k) (cond b (Some (c - s.begin)) None)
    go true e =
        let u = and_both (leb s.begin c) (ltb (c - s.begin) s.input) e in
        let h = leb-true s.begin c u.0 in
        (ltb-true (c - s.begin) s.input u.1, eq-eqb c (c - s.begin + s.begin) (omega arith), λ r l f. let t = eqb-true c (r + s.begin) f in omega arith)
    go false e = λ r l f. false≢true (sym e ∙ met r l f)

-- ---- from an input position: of the positions q with q·stride = distance there is one at most
position_finds : (n s d : ℕ) → 1 ≤ s → Finds n (λ q. eqb (q * s) d) (position_by n s d)
unfolding position_by Finds
position_finds n s d h = go (eqb (d % s) 0) (ltb (d / s) n) refl refl
  where
    met : (q : ℕ) → eqb (q * s) d ≡ true → (eqb (d % s) 0 ≡ true) × (q ≡ d / s)
    met q e =
        let t = eqb-true (q * s) d e in (
          eq-eqb (d % s) 0 (ap (λ (x : ℕ). x % s) (sym t) ∙ mul-mod_left q s),
          sym (ap (λ (x : ℕ). x / s) (sym t) ∙ mul-div_cancel q h),
        )

    go : (a b : Bool) → eqb (d % s) 0 ≡ a → ltb (d / s) n ≡ b → Finds n (λ q. eqb (q * s) d) (cond a (cond b (Some (d / s)) None) None)
    go true true e f =
        let z = eqb-true (d % s) 0 e in
        let w = div-add-mod' d s in
        (ltb-true (d / s) n f, eq-eqb (d / s * s) d (omega arith), λ q l g. (met q g).1)
    go true false e f = λ q l g. let m = (met q g).1 in let u = ltb-false (d / s) n f in omega arith
    go false b e f = λ q l g. false≢true (sym e ∙ (met q g).0)

pub reach_finds : (n d s t k : ℕ) → 1 ≤ s → Finds n (λ q. eqb (q * s + k * d) t) (reach_of n d s t k)
unfolding reach_of
reach_finds n d s t k h = go (leb (k * d) t) refl
  where
    same : k * d ≤ t → (q : ℕ) → eqb (q * s) (t - k * d) ≡ eqb (q * s + k * d) t
    same l q = both_ways _ _ (λ e. let u = eqb-true (q * s) (t - k * d) e in eq-eqb (q * s + k * d) t (omega arith)) (λ e. let u = eqb-true (q * s + k * d) t e in eq-eqb (q * s) (t - k * d) (omega arith))

    go : (b : Bool) → leb (k * d) t ≡ b → Finds n (λ q. eqb (q * s + k * d) t) (cond b (position_by n s (t - k * d)) None)
    go true e = finds_same n _ _ (position_by n s (t - k * d)) (same (leb-true (k * d) t e)) (position_finds n s (t - k * d) h)
    go false e = finds_none n _ (λ q l f. let u = eqb-true (q * s + k * d) t f in let v = leb-false (k * d) t e in omega arith)

pub backward_finds : (s : Span) (q k : ℕ) → 1 ≤ s.stride → Finds s.input (λ p. joins s p k q) (backward s q k)
unfolding backward
backward_finds s q k h = reach_finds s.input s.dilation s.stride (q + s.begin) k h

-- ---- two axes as one; so three
pub both_finds : (n m : ℕ) (f g : ℕ → Bool) (a b : Option ℕ) → 1 ≤ m → Finds n f a → Finds m g b → Finds (n * m) (λ q. f (q / m) && g (q % m)) (both m a b)
unfolding both Finds
both_finds n m f g (Some i) (Some j) h u v = (
  place_within u.0 v.0,
  and_of _ _ (ap f (place_div i v.0) ∙ u.1) (ap g (place_mod i v.0) ∙ v.1),
  λ r l e. let t = and_both (f (r / m)) (g (r % m)) e in
      sym (div-add-mod' r m) ∙ ap₂ (λ (x y : ℕ). x * m + y) (u.2 (r / m) ((div-lt_iff_lt-mul h).1 l) t.0) (v.2 (r % m) (mod-lt r h) t.1),
)
both_finds n m f g (Some i) None h u v = λ r l e. v (r % m) (mod-lt r h) (and_both (f (r / m)) (g (r % m)) e).1
both_finds n m f g None b h u v = λ r l e. u (r / m) ((div-lt_iff_lt-mul h).1 l) (and_both (f (r / m)) (g (r % m)) e).0

pub both_below : (n m : ℕ) (a b : Option ℕ) → Below n a → Below m b → Below (n * m) (both m a b)
unfolding both Below
both_below n m (Some i) (Some j) h k = place_within h k
both_below n m (Some i) None h k = tt
both_below n m None b h k = tt

-- at the first position of the outer axis
pub both_first : (m : ℕ) (t : Option ℕ) → both m (Some 0) t ≡ t
unfolding both
both_first m (Some j) = ap Some (simp (zero-mul, zero-add))
both_first m None = refl

-- inside on both
pub both_inside : (m : ℕ) (a b : Option ℕ) → is_at (both m a b) ≡ is_at a && is_at b
unfolding both is_at
both_inside m (Some i) (Some j) = refl
both_inside m (Some i) None = refl
both_inside m None b = refl

pub forward_inside : (s : Span) (p k : ℕ) → is_at (forward s p k) ≡ tap_inside s p k
unfolding forward is_at
forward_inside s p k = go (tap_inside s p k)
  where
    go : (b : Bool) → is_at (cond b (Some (tap_position s.stride s.dilation p k - s.begin)) None) ≡ b
    go true = refl
    go false = refl
