-- Laws of rows of sums: one sum more, a part of the row more, more taps for each, equal taps; a row of outputs.
use mathlib.Core.Path.{◌≡◌, refl, sym, ap, ◌∙◌}
use mathlib.Core.List.{List, ◌++◌}
use Prim.Native.Nat.{ℕ, ◌+◌, ◌-◌, ◌*◌, ◌≤◌, ◌<◌}
use native.Mathlib.Nat.{suc-mul}
use native.Mathlib.Numerals.{add-one}
use native.Mathlib.Decide.{dec_lt}
use native.Mathlib.Omega.{arith}
use lib.ListN.{length, take, drop, set, length-set, length-drop, get_or-append, get_or-eq_default}
use lib.Seq.{get_or-set_same, get_or-set_other, get_or-append-add, get_or-take, get_or-drop, ext_get_or, length-take-le}
use lib.Dec.{T}
use lib.Ieee.{Float, nan}
use lib.Ieee.Scale.{finite}
use Rattle.tensor.specs.Table.{read, plus_zero, tabulate}
use Rattle.tensor.proofs.Table.{tabulate_length, tabulate_get}
use Rattle.sums.specs.Taps.{Factors, none, pair, add_tap, sum_from}
use Rattle.sums.proofs.Sums.{sum_start, sum_more, sum_append, sum_same, sum_none}
use Rattle.sums.proofs.Outside.{zero_from_zero, add_outside}
use Rattle.rows.specs.Rows.{Summed}

-- the sum of one tap
pub sum_one : (start : Float) (taps : ℕ → Factors) → add_tap start (taps 0) ≡ sum_from start taps 1
sum_one start taps = sym (sum_more start taps 0 ∙ ap (λ (s : Float). add_tap s (taps 0)) (sum_start start taps))

-- ---- more sums of a row
module _ (taps : ℕ → ℕ → Factors) (k : ℕ) where
  -- before the first
  pub summed_none : (l : List Float) → Summed taps k 0 l l
  summed_none l = record { kept = refl; done = λ x h. absurd (omega arith); rest = λ x h. refl }

  -- one more
  pub summed_next : {n : ℕ} {before l : List Float} {v : Float} → Summed taps k n before l → n < length before → v ≡ sum_from (read l n) (taps n) k → Summed taps k (n + 1) before (set l n v)
  summed_next {n} {before} {l} {v} i h e =
      record {
        kept = length-set l n v ∙ i.kept;
        done = λ x p. go x p (dec_lt x n);
        rest = λ x p. other x (λ z. omega arith) ∙ i.rest x (omega arith);
      }
    where
      other : (x : ℕ) → (x ≡ n → ⊥) → read (set l n v) x ≡ read l x
      other x m = get_or-set_other l n x v nan m

      go : (x : ℕ) → x < n + 1 → Dec (x < n) → read (set l n v) x ≡ sum_from (read before x) (taps x) k
      go x p (yes m) = other x (λ z. omega arith) ∙ i.done x m
      go x p (no m) =
          let z : x ≡ n = omega arith in
          rw z (get_or-set_same l n v nan (omega (arith, i.kept)) ∙ e ∙ ap (λ (s : Float). sum_from s (taps n) k) (i.rest n (omega arith)))

  -- a part more, of w sums, lent and handed back
  pub summed_part : (a w : ℕ) {before l ys : List Float} → Summed taps k a before l → a + w ≤ length before → Summed (λ x. taps (a + x)) k w (take w (drop a l)) ys
      → length (take a l ++ (ys ++ drop w (drop a l))) ≡ length l → Summed taps k (a + w) before (take a l ++ (ys ++ drop w (drop a l)))
  summed_part a w {before} {l} {ys} i h j e =
      record {
        kept = e ∙ i.kept;
        done = λ x p. go x p (dec_lt x a);
        rest = λ x p. after x p;
      }
    where
      front : length (take a l) ≡ a
      front = length-take-le a l (omega (arith, i.kept))

      part : length ys ≡ w
      part = j.kept ∙ length-take-le w (drop a l) (rw length-drop (omega (arith, i.kept)))

      at_ys : (x : ℕ) → read (take a l ++ (ys ++ drop w (drop a l))) (a + x) ≡ read (ys ++ drop w (drop a l)) x
      at_ys x = ap (λ (n : ℕ). read (take a l ++ (ys ++ drop w (drop a l))) (n + x)) (sym front) ∙ get_or-append-add (take a l) (ys ++ drop w (drop a l)) x nan

      at_rest : (x : ℕ) → read (ys ++ drop w (drop a l)) (w + x) ≡ read l (a + (w + x))
      at_rest x =
          ap (λ (n : ℕ). read (ys ++ drop w (drop a l)) (n + x)) (sym part) ∙ get_or-append-add ys (drop w (drop a l)) x nan
          ∙ get_or-drop w (drop a l) x nan ∙ get_or-drop a l (w + x) nan

      inside : (x : ℕ) → x < w → read (take a l ++ (ys ++ drop w (drop a l))) (a + x) ≡ sum_from (read before (a + x)) (taps (a + x)) k
      inside x p =
          at_ys x ∙ get_or-append ys (drop w (drop a l)) nan x (omega (arith, part)) ∙ j.done x p
          ∙ ap (λ (s : Float). sum_from s (taps (a + x)) k) (get_or-take w (drop a l) x nan p ∙ get_or-drop a l x nan ∙ i.rest (a + x) (omega arith))

      go : (x : ℕ) → x < a + w → Dec (x < a) → read (take a l ++ (ys ++ drop w (drop a l))) x ≡ sum_from (read before x) (taps x) k
      go x p (yes m) = get_or-append (take a l) (ys ++ drop w (drop a l)) nan x (omega (arith, front)) ∙ get_or-take a l x nan m ∙ i.done x m
      go x p (no m) = let z : x ≡ a + (x - a) = omega arith in rw z (inside (x - a) (omega arith))

      after : (x : ℕ) → a + w ≤ x → read (take a l ++ (ys ++ drop w (drop a l))) x ≡ read before x
      after x p =
          let z : x ≡ a + (w + (x - a - w)) = omega arith in
          rw z (at_ys (w + (x - a - w)) ∙ at_rest (x - a - w) ∙ i.rest (a + (w + (x - a - w))) (omega arith))

  -- sums whose taps take no part
  pub summed_skip : {a b : ℕ} {before l : List Float} → a ≤ b → Summed taps k a before l → ((x t : ℕ) → a ≤ x → x < b → t < k → taps x t ≡ none) → Summed taps k b before l
  summed_skip {a} {b} {before} {l} o i h = record { kept = i.kept; done = λ x p. go x p (dec_lt x a); rest = λ x p. i.rest x (omega arith) }
    where
      go : (x : ℕ) → x < b → Dec (x < a) → read l x ≡ sum_from (read before x) (taps x) k
      go x p (yes m) = i.done x m
      go x p (no m) = i.rest x (omega arith) ∙ sym (sum_none (read before x) (taps x) k (λ t q. h x t (omega arith) p q))

  -- no more sums than there are
  pub summed_whole : {n : ℕ} {before l : List Float} → Summed taps k n before l → length before ≤ n → Summed taps k (length before) before l
  summed_whole {n} {before} {l} i h =
      record {
        kept = i.kept;
        done = λ x p. i.done x (omega arith);
        rest = λ x p. get_or-eq_default l nan (omega (arith, i.kept)) ∙ sym (get_or-eq_default before nan p);
      }

-- ---- more taps of each sum

-- no tap yet
pub summed_start : (taps : ℕ → ℕ → Factors) (n : ℕ) (l : List Float) → Summed taps 0 n l l
summed_start taps n l = record { kept = refl; done = λ x h. sym (sum_start (read l x) (taps x)); rest = λ x h. refl }

-- taps that take no part
pub summed_away : {taps : ℕ → ℕ → Factors} {k n : ℕ} {l : List Float} → ((x t : ℕ) → x < n → t < k → taps x t ≡ none) → Summed taps k n l l
summed_away {taps} {k} {n} {l} h = record { kept = refl; done = λ x p. sym (sum_none (read l x) (taps x) k (λ t q. h x t p q)); rest = λ x p. refl }

-- m taps more
pub summed_more : (taps : ℕ → ℕ → Factors) (k m : ℕ) {n : ℕ} {before l o : List Float} → Summed taps k n before l → Summed (λ x j. taps x (k + j)) m n l o → Summed taps (k + m) n before o
summed_more taps k m {n} {before} {l} {o} i j =
    record {
      kept = j.kept ∙ i.kept;
      done = λ x h. j.done x h ∙ ap (λ (s : Float). sum_from s (λ t. taps x (k + t)) m) (i.done x h) ∙ sym (sum_append (read before x) (taps x) k m);
      rest = λ x h. j.rest x h ∙ i.rest x h;
    }

-- one kernel row of m taps more
pub summed_row : (taps : ℕ → ℕ → Factors) (r m : ℕ) {n : ℕ} {before l o : List Float} → Summed taps (r * m) n before l → Summed (λ x j. taps x (r * m + j)) m n l o → Summed taps ((r + 1) * m) n before o
summed_row taps r m i j = rw (add-one r, suc-mul r m) (summed_more taps (r * m) m i j)

-- equal taps
pub summed_same : {taps others : ℕ → ℕ → Factors} {k n : ℕ} {l m : List Float} → Summed taps k n l m → ((x t : ℕ) → x < n → t < k → taps x t ≡ others x t) → Summed others k n l m
summed_same {taps} {others} {k} {n} {l} {m} i h =
    record { kept = i.kept; done = λ x p. i.done x p ∙ sum_same (read l x) (taps x) (others x) k (λ t q. h x t p q); rest = i.rest }

-- ---- a row of outputs: its sums start at +0 and take all their taps
pub line_filled : (f : ℕ → Float) (taps : ℕ → ℕ → Factors) (k n : ℕ) (w : Float) {l m : List Float} → T (finite w) → l ≡ tabulate (λ x. add_tap plus_zero (pair plus_zero w)) n
    → Summed taps k n l m → ((x : ℕ) → x < n → sum_from plus_zero (taps x) k ≡ f x) → m ≡ tabulate f n
line_filled f taps k n w {l} {m} h e i o =
    ext_get_or nan m (tabulate f n) (kept ∙ sym (tabulate_length f n)) (λ x p.
    let q : x < n = omega (arith, kept) in
    i.done x q ∙ ap (λ (s : Float). sum_from s (taps x) k) (zero_at x q) ∙ o x q ∙ sym (tabulate_get f nan n x q))
  where
    kept : length m ≡ n
    kept = i.kept ∙ ap length e ∙ tabulate_length (λ x. add_tap plus_zero (pair plus_zero w)) n

    zero_at : (x : ℕ) → x < n → read l x ≡ plus_zero
    zero_at x p = ap (λ (z : List Float). read z x) e ∙ tabulate_get (λ x. add_tap plus_zero (pair plus_zero w)) nan n x p ∙ add_outside plus_zero w zero_from_zero h
