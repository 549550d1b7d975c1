-- The fold of a window finds the first largest element.
use mathlib.Core.Path.{◌≡◌, refl, sym, ap, ◌∙◌, subst}
use mathlib.Core.Bool.{Bool, true, false, not, cond}
use mathlib.Core.List.{List, [], ◌∷◌, ◌++◌, append_assoc, append-nil}
use Prim.Native.Nat.{ℕ, zero, suc, ◌<◌}
use native.Mathlib.Nat.{not-suc-le-zero, le_of_suc-le-suc}
use lib.Dec.{T}
use lib.ListN.{length, get_or}
use lib.Ieee.{Float, lt}
use Rattle.tensor.specs.declared.Window.{Window}
use Rattle.tensor.specs.declared.Window.TheVariants.{Empty, Best}
use Rattle.tensor.specs.Table.{read}
use Rattle.tensor.specs.Window.{best_of, better_of, All, HoldsBest}
use Rattle.tensor.proofs.Order.{NotNan, lt_trans, lt_split, le_of_not_lt}

-- ---- what holds of each element
pub all_map : {A : Type 0} {P Q : A → Type 0} (f : (x : A) → P x → Q x) (xs : List A) → All P xs → All Q xs
all_map f [] h = tt
all_map f (x ∷ xs) h = (f x h.0, all_map f xs h.1)

pub all_append : {A : Type 0} (P : A → Type 0) (xs ys : List A) → All P xs → All P ys → All P (xs ++ ys)
all_append P [] ys h k = k
all_append P (x ∷ xs) ys h k = (h.0, all_append P xs ys h.1 k)

pub all_get : (P : ℕ → Type 0) (ps : List ℕ) → All P ps → (i : ℕ) → i < length ps → P (get_or ps i 0)
all_get P [] h i l = absurd (not-suc-le-zero l)
all_get P (p ∷ ps) h zero l = h.0
all_get P (p ∷ ps) h (suc i) l = all_get P ps h.1 i (le_of_suc-le-suc l)

-- ---- the fold

-- places one after the other
pub best_append : (xs : List Float) (ps qs : List ℕ) (w : Window) → best_of xs (ps ++ qs) w ≡ best_of xs qs (best_of xs ps w)
unfolding best_of
best_append xs [] qs w = refl
best_append xs (p ∷ ps) qs w = best_append xs ps qs (better_of w (read xs p) p)

module _ (xs : List Float) where
  -- v, at place p, is the best of the places passed so far
  record BestSoFar (ps : List ℕ) (v : Float) (p : ℕ) : Type 0 where
    earlier : List ℕ
    later : List ℕ
    split : ps ≡ earlier ++ p ∷ later
    value : v ≡ read xs p
    number : NotNan v
    below : All (λ q. T (lt (read xs q) v)) earlier
    most : All (λ q. NotNan (read xs q) × T (not (lt v (read xs q)))) later

  abbrev Holds : List ℕ → Window → Type 0
  Holds ps Empty = ps ≡ []
  Holds ps (Best v p) = BestSoFar ps v p

  replaced : (ps : List ℕ) (v : Float) (p q : ℕ) → BestSoFar ps v p → NotNan (read xs q) → T (lt v (read xs q)) → BestSoFar (ps ++ q ∷ []) (read xs q) q
  replaced ps v p q h n l =
      record {
        earlier = ps;
        later = [];
        split = refl;
        value = refl;
        number = n;
        below =
            subst (All (λ r. T (lt (read xs r) (read xs q)))) (sym h.split)
            (all_append (λ r. T (lt (read xs r) (read xs q))) h.earlier (p ∷ h.later)
            (all_map (λ r k. lt_trans (read xs r) v (read xs q) k l) h.earlier h.below) (
              subst (λ (u : Float). T (lt u (read xs q))) h.value l,
              all_map (λ r k. lt_split v (read xs q) (read xs r) k.0 l k.1) h.later h.most,
            ));
        most = tt;
      }

  kept : (ps : List ℕ) (v : Float) (p q : ℕ) → BestSoFar ps v p → NotNan (read xs q) → T (not (lt v (read xs q))) → BestSoFar (ps ++ q ∷ []) v p
  kept ps v p q h n l =
      record {
        earlier = h.earlier;
        later = h.later ++ q ∷ [];
        split = ap (λ (l : List ℕ). l ++ q ∷ []) h.split ∙ append_assoc h.earlier (p ∷ h.later) (q ∷ []);
        value = h.value;
        number = h.number;
        below = h.below;
        most = all_append (λ q. NotNan (read xs q) × T (not (lt v (read xs q)))) h.later (q ∷ []) h.most ((n, l), tt);
      }

  one_more : (ps : List ℕ) (w : Window) (q : ℕ) → Holds ps w → NotNan (read xs q) → Holds (ps ++ q ∷ []) (better_of w (read xs q) q)
  one_more ps Empty q h n =
      record { earlier = []; later = []; split = ap (λ (l : List ℕ). l ++ q ∷ []) h; value = refl; number = n; below = tt; most = tt }
  one_more ps (Best v p) q h n = go (lt v (read xs q)) (λ t. replaced ps v p q h n t) (λ t. kept ps v p q h n t)
    where
      go : (b : Bool) → (T b → BestSoFar (ps ++ q ∷ []) (read xs q) q) → (T (not b) → BestSoFar (ps ++ q ∷ []) v p)
          → Holds (ps ++ q ∷ []) (cond b (Best (read xs q) q) (Best v p))
      go true f g = f tt
      go false f g = g tt

  all_passed : (ps qs : List ℕ) (w : Window) → Holds ps w → All (λ q. NotNan (read xs q)) qs → Holds (ps ++ qs) (best_of xs qs w)
  unfolding best_of
  all_passed ps [] w h n = subst (λ (l : List ℕ). Holds l w) (sym (append-nil ps)) h
  all_passed ps (q ∷ qs) w h n =
      subst (λ (l : List ℕ). Holds l (best_of xs qs (better_of w (read xs q) q))) (append_assoc ps (q ∷ []) qs)
      (all_passed (ps ++ q ∷ []) qs (better_of w (read xs q) q) (one_more ps w q h n.0) n.1)

  finished : (ps : List ℕ) (w : Window) → Holds ps w → HoldsBest xs ps w
  finished ps Empty h = h
  finished ps (Best v p) h =
      record {
        earlier = h.earlier;
        later = h.later;
        split = h.split;
        value = h.value;
        above_earlier = h.below;
        above_later = all_map (λ q k. le_of_not_lt (read xs q) v k.0 h.number k.1) h.later h.most;
      }

  -- the law
  pub first_largest : (ps : List ℕ) → All (λ q. NotNan (read xs q)) ps → HoldsBest xs ps (best_of xs ps Empty)
  first_largest ps n = finished ps (best_of xs ps Empty) (all_passed [] ps Empty refl n)
