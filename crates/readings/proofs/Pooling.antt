-- Max pooling in document 01's words: the places of a window by kz, ky and kx; every output of an accepted call is the first largest element of its window, and
-- its index names that element.
use Rattle.std.specs.Prelude.{IsOk, None, Ok, Option, Some}
use Prim.Native.Nat.{ℕ, zero, suc, ◌+◌, ◌*◌, ◌/◌, ◌%◌, ◌<◌}
use native.Mathlib.Nat.{mod-lt, mul-pos}
use native.Mathlib.Omega.{arith}
use mathlib.Core.Path.{◌≡◌, refl, sym, ap, ◌∙◌, subst, fun_ext}
use mathlib.Core.Bool.{false, false≢true}
use mathlib.Core.List.{List, [], ◌∷◌, ◌++◌}
use lib.Dec.{T}
use lib.IntN.{ℤ, pos}
use lib.ListN.{length, get_or}
use lib.Ieee.{Float, nan, le}
use borrow.Author.Tests.{not-false}
use Rattle.layer.specs.declared.Op.TheVariants.{MaxPool}
use Rattle.layer.specs.declared.Layer.{Layer}
use Rattle.layer.proofs.Places.{place_within}
use Rattle.taps.specs.Taps.{any_below}
use Rattle.taps.specs.Joins.{forward, is_at, Below}
use Rattle.taps.specs.Directions.{forward_below}
use Rattle.taps.proofs.Joins.{below_at}
use Rattle.shape.specs.declared.Shape.{Shape}
use Rattle.shape.specs.Counts.{shape_of}
use Rattle.shape.specs.Facts.{Sound, Pooled}
use Rattle.shape.specs.Volumes.{input_rows, kernel_rows, out_rows, input_volume, kernel_volume, out_volume, on_plane}
use Rattle.shape.specs.Windows.{window_empty}
use Rattle.shape.proofs.Volumes.{plane_below}
use Rattle.tensor.specs.declared.Window.{Window}
use Rattle.tensor.specs.declared.Window.TheVariants.{Empty, Best}
use Rattle.tensor.specs.Table.{read}
use Rattle.tensor.specs.Places.{flat_place}
use Rattle.tensor.specs.Window.{All, FirstLargest, HoldsBest}
use Rattle.tensor.proofs.Table.{tabulate_get}
use Rattle.tensor.proofs.Order.{NotNan, le_of_lt, le_refl}
use Rattle.tensor.proofs.Element.{element_number, all_good}
use Rattle.tensor.proofs.Largest.{all_map, all_append, first_largest}
use Rattle.call.proofs.Checked.{zero_run}
use Rattle.call.proofs.Outcome.{run_leaves}
use Rattle.call.proofs.Planes.{output_plane, inputs_are}
use Rattle.pooling.specs.Windows.{at_tap, over_taps, window_places, window_of}
use Rattle.pooling.specs.Call.{value_of, index_of, pooled_value, pooled_index, call_verdict, max_pool_answer}
use Rattle.pooling.proofs.Scan.{over_rows, over_depths}
use Rattle.pooling.proofs.Accepted.{PoolFitting, pool_fitting}
use Rattle.readings.specs.Pooling.{BestOfWindow}
use Rattle.readings.proofs.Shared.{flat_plane, plane_number}

-- ---- the window of output (n, c, z, y, x) of [N, C, OZ, OY, OX], "by kz, then ky, then kx": the depths of the input at which the taps kz lie, in each the rows
-- at which the taps ky lie, and in each of these the columns at which the taps kx lie, in image n and channel c
along : (tap : ℕ → Option ℕ) (k : ℕ) (f g : ℕ → List ℕ) → ((q : ℕ) → f q ≡ g q) → over_taps tap f k ≡ over_taps tap g k
along tap k f g e = ap (λ (h : ℕ → List ℕ). over_taps tap h k) (fun_ext e)

pub reading_window : (s : Shape) (n : ℕ) {c z y x : ℕ} → c < s.c → z < s.z.out → y < s.y.out → x < s.x.out
    → window_places s (flat_place s.c s.z.out s.y.out s.x.out n c z y x)
    ≡ over_taps (forward s.z z) (λ iz. over_taps (forward s.y y) (λ iy. over_taps (forward s.x x) (λ ix.
    flat_place s.c s.z.input s.y.input s.x.input n c iz iy ix ∷ []) s.x.kernel) s.y.kernel) s.z.kernel
unfolding input_rows kernel_rows out_rows
reading_window s n {c} {z} {y} {x} hc hz hy hx =
    let p = n * s.c + c in
    let a = plane_number s.z.out s.y.out s.x.out p hz hy hx in
    rw (a.plane, a.position)
    (over_rows s (z * s.y.out + y) hx (λ q. (p * (s.z.input * s.y.input * s.x.input) + q) ∷ []) (s.z.kernel * s.y.kernel)
    ∙ over_depths s z hy _ s.z.kernel
    ∙ along (forward s.z z) s.z.kernel _ _ (λ iz. along (forward s.y y) s.y.kernel _ _ (λ iy. along (forward s.x x) s.x.kernel _ _ (λ ix.
    ap (λ (m : ℕ). m ∷ []) (flat_plane p s.z.input s.y.input s.x.input iz iy ix)))))

-- ---- the places of a window
module _ (tap : ℕ → Option ℕ) (f : ℕ → List ℕ) where
  -- what holds of the places of each position holds of all
  over_all : (P : ℕ → Type 0) (size : ℕ) → ((k : ℕ) → Below size (tap k)) → ((c : ℕ) → c < size → All P (f c)) → (n : ℕ) → All P (over_taps tap f n)
  unfolding over_taps
  over_all P size below h zero = tt
  over_all P size below h (suc k) = all_append P (over_taps tap f k) (at_tap f (tap k)) (over_all P size below h k) (go (tap k) refl)
    where
      go : (t : Option ℕ) → tap k ≡ t → All P (at_tap f t)
      go None e = tt
      go (Some c) e = h c (below_at size (tap k) c (below k) e)

  -- no place: no tap inside
  over_none : ((c : ℕ) → f c ≡ [] → ⊥) → (n : ℕ) → over_taps tap f n ≡ [] → any_below n (λ k. is_at (tap k)) ≡ false
  unfolding over_taps any_below is_at
  over_none h zero e = refl
  over_none h (suc k) e = let u = both_nil (over_taps tap f k) (at_tap f (tap k)) e in rw (over_none h k u.0) (outside (tap k) u.1)
    where
      both_nil : (ps qs : List ℕ) → ps ++ qs ≡ [] → (ps ≡ []) × (qs ≡ [])
      both_nil [] qs q = (refl, q)
      both_nil (a ∷ ps) qs q = absurd (false≢true cc)

      outside : (t : Option ℕ) → at_tap f t ≡ [] → is_at t ≡ false
      outside None q = refl
      outside (Some c) q = absurd (h c q)

-- the places of a window lie in the input
pub window_within : (s : Shape) → Pooled s → (j : ℕ) → j < s.outputs → All (λ q. q < s.inputs) (window_places s j)
window_within s h j small =
    let plane = subst (λ (c : ℕ). j / out_volume s < s.n * c) h.channels_is (output_plane s h.sound small) in
    over_all (on_plane forward s (j % out_volume s)) _ (λ q. q < s.inputs) (input_volume s) (plane_below forward s forward_below (j % out_volume s))
    (λ c l. (omega (arith, place_within plane l, inputs_are s h.sound), tt)) (kernel_volume s)

-- ---- the first largest of some places
all_middle : (P : ℕ → Type 0) (earlier : List ℕ) (p : ℕ) (later : List ℕ) → All P (earlier ++ p ∷ later) → P p
all_middle P [] p later h = h.0
all_middle P (q ∷ earlier) p later h = all_middle P earlier p later h.1

module _ (xs : List Float) (ps : List ℕ) (p : ℕ) (h : FirstLargest xs ps (read xs p) p) where
  -- what holds of every place holds of it
  at_place : (P : ℕ → Type 0) → All P ps → P p
  at_place P a = all_middle P h.earlier p h.later (subst (All P) h.split a)

  -- no element is above it
  at_most : NotNan (read xs p) → All (λ q. T (le (read xs q) (read xs p))) ps
  at_most n =
      subst (All (λ q. T (le (read xs q) (read xs p)))) (sym h.split)
      (all_append (λ q. T (le (read xs q) (read xs p))) h.earlier (p ∷ h.later)
      (all_map (λ q l. le_of_lt (read xs q) (read xs p) l) h.earlier h.above_earlier)
      (le_refl (read xs p) n, h.above_later))

own_value : (xs : List Float) (ps : List ℕ) (v : Float) (p : ℕ) → FirstLargest xs ps v p → FirstLargest xs ps (read xs p) p
own_value xs ps v p h = subst (λ (u : Float). FirstLargest xs ps u p) h.value h

-- ---- the law

-- the window of output j holds an element of the input, the first largest of its places
pub record Held (input : List Float) (s : Shape) (j : ℕ) : Type 0 where
  pub value : Float
  pub place : ℕ
  pub is : window_of input s j ≡ Best value place
  pub own : value ≡ read input place
  pub first : FirstLargest input (window_places s j) (read input place) place
  pub within : place < length input

module _ (layer : Layer) (input values : List Float) (indices : List ℤ) (s : Shape) (e : call_verdict layer input values indices ≡ Ok s) (j : ℕ) (small : j < s.outputs) where
  fits : PoolFitting s input (length values) (length indices)
  fits = pool_fitting layer input (length values) (length indices) s e

  sound : Sound s
  sound = fits.shape.sound

  -- no window is empty
  window_held : window_places s j ≡ [] → ⊥
  unfolding window_empty
  window_held n =
      let held = fits.shape.window (j % out_volume s) (mod-lt j (mul-pos sound.out_rows_1 sound.x.out_1)) in
      false≢true (sym (over_none (on_plane forward s (j % out_volume s)) _ (λ c q. false≢true cc) (kernel_volume s) n) ∙ not-false _ held)

  places : All (λ q. q < length input) (window_places s j)
  places = subst (λ (n : ℕ). All (λ q. q < n) (window_places s j)) (sym fits.input_length) (window_within s fits.shape j small)

  numbers : All (λ q. NotNan (read input q)) (window_places s j)
  numbers = all_map (λ q l. element_number (read input q) (all_good input fits.good q l)) (window_places s j) places

  of_window : (w : Window) → window_of input s j ≡ w → HoldsBest input (window_places s j) w → Held input s j
  of_window Empty w h = absurd (window_held h)
  of_window (Best v p) w h =
      let f = own_value input (window_places s j) v p h in
      record { value = v; place = p; is = w; own = h.value; first = f; within = at_place input (window_places s j) p f (λ q. q < length input) places }

  pub held_window : Held input s j
  unfolding window_of
  held_window = of_window (window_of input s j) refl (first_largest input (window_places s j) numbers)

  pub best_of_window : BestOfWindow layer input values indices s j
  best_of_window =
      let h = held_window in
      let p = h.place in
      record {
        place = p;
        within = h.within;
        largest = h.first;
        most = at_most input (window_places s j) p h.first (at_place input (window_places s j) p h.first (λ q. NotNan (read input q)) numbers);
        value =
            ap (λ l. read l j) (sym (run_leaves _ (pooled_value input) values s e))
            ∙ tabulate_get (pooled_value input s) nan s.outputs j small ∙ ap value_of h.is ∙ h.own;
        index =
            ap (λ l. get_or l j (pos 0)) (sym (run_leaves _ (pooled_index input) indices s e))
            ∙ tabulate_get (pooled_index input s) (pos 0) s.outputs j small ∙ ap (index_of s.modulus) h.is;
      }

-- every output of a call whose number is 0
pub best_of_windows : (layer : Layer) (input values : List Float) (indices : List ℤ) → IsOk (max_pool_answer layer input values indices)
    → (j : ℕ) → j < length values → BestOfWindow layer input values indices (shape_of MaxPool layer) j
best_of_windows layer input values indices z j h =
    let e = zero_run MaxPool layer _ _ z in
    let f = pool_fitting layer input (length values) (length indices) (shape_of MaxPool layer) e in
    best_of_window layer input values indices (shape_of MaxPool layer) e j (subst (λ (n : ℕ). j < n) f.values_length h)
