-- Laws of tabulated lists and of parts of a list, and the fill law: a loop that writes f 0, f 1, .. into a lent slice leaves `tabulate f n`.
use mathlib.Core.Path.{◌≡◌, refl, sym, ap, ◌∙◌}
use mathlib.Core.List.{List, [], ◌∷◌, ◌++◌}
use Prim.Native.Nat.{ℕ, zero, suc, ◌+◌, ◌≤◌, ◌<◌, zero-le}
use native.Mathlib.Nat.{not-suc-le-zero}
use native.Mathlib.Decide.{dec_lt}
use native.Mathlib.Numerals.{add-one}
use native.Mathlib.Omega.{arith}
use lib.ListN.{length, take, drop, set, get_or, length-set, length-drop, length-append, get_or-append}
use lib.Seq.{take-suc-set, take_all, length-take-le, get_or-take, get_or-drop, get_or_at}
use lib.Ieee.{Float, nan}
use Rattle.tensor.specs.Table.{read, tabulate}

-- ---- tabulated lists
pub tabulate_length : {A : Type 0} (f : ℕ → A) (n : ℕ) → length (tabulate f n) ≡ n
unfolding tabulate
tabulate_length f zero = refl
tabulate_length f (suc n) = length-append (tabulate f n) (f n ∷ []) ∙ ap (λ (k : ℕ). k + 1) (tabulate_length f n) ∙ add-one n

pub tabulate_get : {A : Type 0} (f : ℕ → A) (d : A) (n j : ℕ) → j < n → get_or (tabulate f n) j d ≡ f j
unfolding tabulate
tabulate_get f d zero j h = absurd (not-suc-le-zero h)
tabulate_get f d (suc n) j h = go (λ l. tabulate_get f d n j l) (dec_lt j n)
  where
    go : (j < n → get_or (tabulate f n) j d ≡ f j) → Dec (j < n) → get_or (tabulate f n ++ (f n ∷ [])) j d ≡ f j
    go ih (yes l) = get_or-append (tabulate f n) (f n ∷ []) d j (rw (tabulate_length f n) l) ∙ ih l
    go ih (no l) =
        let e : n ≡ j = omega arith in
        get_or_at (tabulate f n) (f n) [] d j (tabulate_length f n ∙ e) ∙ ap f e

-- functions that are equal below n
pub tabulate_same : {A : Type 0} (f g : ℕ → A) (n : ℕ) → ((k : ℕ) → k < n → f k ≡ g k) → tabulate f n ≡ tabulate g n
unfolding tabulate
tabulate_same f g zero h = refl
tabulate_same f g (suc n) h =
    let front : tabulate f n ≡ tabulate g n = tabulate_same f g n (λ k l. h k (omega arith)) in
    rw (front, h n (omega arith))

-- ---- the fill law

-- the loop's invariant: l, of length n, holds f 0, .., f (j - 1) at its first j places
pub record Filled {A : Type 0} (f : ℕ → A) (n : ℕ) (l : List A) (j : ℕ) : Type 0 where
  pub within : j ≤ length l
  pub kept : length l ≡ n
  pub front : take j l ≡ tabulate f j

module _ {A : Type 0} (f : ℕ → A) where
  -- before the first turn
  pub filled_none : (l : List A) → Filled f (length l) l 0
  unfolding tabulate
  filled_none l = record { within = zero-le; kept = refl; front = refl }

  -- one turn
  pub filled_more : {n : ℕ} {l : List A} {j : ℕ} {v : A} → Filled f n l j → j < length l → v ≡ f j → Filled f n (set l j v) (j + 1)
  unfolding tabulate
  filled_more {n} {l} {j} {v} i h w =
      record {
        within = simp length-set (omega arith);
        kept = length-set l j v ∙ i.kept;
        front = rw add-one (take-suc-set l j v h ∙ λ d. i.front d ++ (w d ∷ []));
      }

  -- after the last
  pub filled_all : {n : ℕ} {l : List A} {j : ℕ} → Filled f n l j → length l ≤ j → l ≡ tabulate f n
  filled_all {n} {l} {j} i h =
      let e : j ≡ n = omega (arith, i.within, i.kept) in
      sym (take_all j l h) ∙ i.front ∙ ap (tabulate f) e

-- ---- parts of a list: n elements from start on
pub part_length : (l : List Float) (start n : ℕ) → start + n ≤ length l → length (take n (drop start l)) ≡ n
part_length l start n h = length-take-le n (drop start l) (rw length-drop (omega arith))

pub part_read : (l : List Float) (start n k : ℕ) → k < n → read (take n (drop start l)) k ≡ read l (start + k)
part_read l start n k h = get_or-take n (drop start l) k nan h ∙ get_or-drop start l k nan

-- a list that has a part of it handed back keeps its length
pub part_back : {A : Type 0} (l ys : List A) (start n : ℕ) → start + n ≤ length l → length ys ≡ n → length (take start l ++ (ys ++ drop n (drop start l))) ≡ length l
part_back l ys start n h e = simp (length-append, length-drop) (omega (arith, length-take-le start l (omega arith)))
