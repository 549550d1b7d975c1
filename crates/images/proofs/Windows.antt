-- The windows of an image: those of image n are the windows of the layer with one image, moved by the images before it, so that each holds the same best element.
use Rattle.std.specs.Prelude.{IsOk, None, Ok, Option, Some}
use mathlib.Core.Path.{◌≡◌, refl, sym, ap, ◌∙◌, subst}
use mathlib.Core.Bool.{Bool, true, false, cond}
use mathlib.Core.List.{List, [], ◌∷◌, ◌++◌, map, map-append}
use Prim.Native.Nat.{ℕ, zero, suc, ◌+◌, ◌*◌, ◌/◌, ◌%◌, ◌<◌}
use native.Mathlib.Nat.{add_assoc}
use lib.IntN.{ℤ}
use lib.ListN.{length}
use lib.Ieee.{Float, nan, lt}
use Rattle.layer.specs.declared.Op.TheVariants.{MaxPool}
use Rattle.layer.specs.declared.Layer.{Layer}
use Rattle.taps.specs.Joins.{forward}
use Rattle.shape.specs.declared.Shape.{Shape}
use Rattle.shape.specs.Counts.{shape_of}
use Rattle.shape.specs.Volumes.{input_rows, kernel_rows, out_rows, on_rows, on_plane, input_volume, kernel_volume, out_volume}
use Rattle.shape.proofs.Accepted.{pooled}
use Rattle.tensor.specs.declared.Window.{Window}
use Rattle.tensor.specs.declared.Window.TheVariants.{Empty, Best}
use Rattle.tensor.specs.Table.{read, tabulate}
use Rattle.tensor.specs.Window.{better_of, best_of, All}
use Rattle.tensor.proofs.Table.{tabulate_same}
use Rattle.call.specs.Call.{leaves}
use Rattle.call.proofs.Checked.{zero_run}
use Rattle.call.proofs.Outcome.{run_leaves}
use Rattle.pooling.specs.Windows.{at_tap, over_taps, window_places, window_of}
use Rattle.pooling.specs.Call.{value_of, index_of, call_verdict, max_pool_answer, max_pool_values, max_pool_indices}
use Rattle.pooling.proofs.Accepted.{PoolFitting, pool_fitting}
use Rattle.readings.proofs.Pooling.{window_within}
use Rattle.images.specs.Images.{image_of, one_image}
use Rattle.images.specs.Calls.{SamePooling}
use Rattle.images.proofs.Parts.{image_get, image_tabulate}
use Rattle.images.proofs.Numbers.{input_size, output_size, image_plane, image_position, plane_moved}
use Rattle.images.proofs.Accepted.{Batch, batch}
use Rattle.images.proofs.Places.{volume_1}

-- a window whose place has `more` elements before it
abbrev pub moved_window : ℕ → Window → Window
moved_window more Empty = Empty
moved_window more (Best v p) = Best v (more + p)

-- ---- its places
over_moved : (tap : ℕ → Option ℕ) (a b k : ℕ) → over_taps tap (λ q. (a + b + q) ∷ []) k ≡ map (λ p. a + p) (over_taps tap (λ q. (b + q) ∷ []) k)
unfolding over_taps
over_moved tap a b zero = refl
over_moved tap a b (suc k) =
    (λ d. over_moved tap a b k d ++ one (tap k) d) ∙ sym (map-append (λ p. a + p) (over_taps tap (λ q. (b + q) ∷ []) k) (at_tap (λ q. (b + q) ∷ []) (tap k)))
  where
    one : (t : Option ℕ) → at_tap (λ q. (a + b + q) ∷ []) t ≡ map (λ p. a + p) (at_tap (λ q. (b + q) ∷ []) t)
    one None = refl
    one (Some q) = ap (λ (p : ℕ). p ∷ []) (add_assoc a b q)

-- ---- its best element
module _ (images size n : ℕ) (xs : List Float) (e : length xs ≡ images * size) (h : n < images) where
  better_moved : (w : Window) (p : ℕ) → p < size → better_of (moved_window (n * size) w) (read xs (n * size + p)) (n * size + p) ≡ moved_window (n * size) (better_of w (read (image_of images n xs) p) p)
  better_moved w p l = rw (image_get images size n xs e h p nan l) (go w)
    where
      v : Float
      v = read xs (n * size + p)

      pick : (c : Bool) (b : Float) (q : ℕ) → cond c (Best v (n * size + p)) (Best b (n * size + q)) ≡ moved_window (n * size) (cond c (Best v p) (Best b q))
      pick true b q = refl
      pick false b q = refl

      go : (w : Window) → better_of (moved_window (n * size) w) v (n * size + p) ≡ moved_window (n * size) (better_of w v p)
      go Empty = refl
      go (Best b q) = pick (lt b v) b q

  best_moved : (ps : List ℕ) → All (λ p. p < size) ps → (w : Window)
      → best_of xs (map (λ p. n * size + p) ps) (moved_window (n * size) w) ≡ moved_window (n * size) (best_of (image_of images n xs) ps w)
  unfolding best_of
  best_moved [] a w = refl
  best_moved (p ∷ ps) a w =
      ap (best_of xs (map (λ p. n * size + p) ps)) (better_moved w p a.0) ∙ best_moved ps a.1 (better_of w (read (image_of images n xs) p) p)

-- ---- an accepted call
module _ (l : Layer) (input values : List Float) (indices : List ℤ) (n : ℕ) (h : n < l.n) (z : IsOk (max_pool_answer l input values indices)) where
  abbrev s : Shape
  s = shape_of MaxPool l

  abbrev t : Shape
  t = shape_of MaxPool (one_image l)

  abbrev image : List Float
  image = image_of l.n n input

  abbrev more : ℕ
  more = n * input_size s

  run : call_verdict l input values indices ≡ Ok s
  run = zero_run MaxPool l _ _ z

  pub fits : PoolFitting s input (length values) (length indices)
  fits = pool_fitting l input (length values) (length indices) s run

  pub facts : Batch MaxPool l input
  facts = batch MaxPool l _ input _ run fits.input_length

  -- output q of image n
  start_moved : (q : ℕ) → (n * output_size s + q) / out_volume s * input_volume s ≡ more + q / out_volume s * input_volume s
  start_moved q =
      ap (λ (p : ℕ). p * input_volume s) (image_plane n s.channels (out_volume s) q (volume_1 s fits.shape.sound))
      ∙ plane_moved n s.c (q / out_volume s) (input_volume s)

  places_moved : (q : ℕ) → window_places s (n * output_size s + q) ≡ map (λ p. more + p) (window_places t q)
  unfolding input_rows kernel_rows out_rows on_rows on_plane
  places_moved q =
      rw (start_moved q, image_position n s.channels (out_volume s) q (volume_1 s fits.shape.sound))
      (over_moved (on_plane forward s (q % out_volume s)) more (q / out_volume s * input_volume s) (kernel_volume s))

  window_alone : (q : ℕ) → q < output_size s → window_of input s (n * output_size s + q) ≡ moved_window more (window_of image t q)
  unfolding window_of
  window_alone q small =
      ap (λ (ps : List ℕ). best_of input ps Empty) (places_moved q)
      ∙ best_moved l.n (input_size s) n input facts.inputs h (window_places t q)
      (subst (λ (m : ℕ). All (λ p. p < m) (window_places t q)) facts.one_inputs (window_within t (pooled (one_image l) t facts.one_accepted) q (rw facts.one_outputs small))) Empty

  -- all of them, by the image alone: `of` is `value_of`, or `index_of` with the modulus
  leaves_alone : {A : Type 0} (of : Shape → Window → A) (before : List A)
      → image_of l.n n (leaves (call_verdict l input values indices) (λ s j. of s (window_of input s j)) before)
      ≡ tabulate (λ q. of s (moved_window more (window_of image t q))) (output_size s)
  leaves_alone of before =
      ap (image_of l.n n) (sym (run_leaves _ (λ s j. of s (window_of input s j)) before s run))
      ∙ image_tabulate l.n (output_size s) n (λ j. of s (window_of input s j)) s.outputs facts.outputs h
      ∙ tabulate_same _ _ (output_size s) (λ q small. ap (of s) (window_alone q small))

  pub values_alone : image_of l.n n (max_pool_values l input values indices) ≡ tabulate (λ q. value_of (moved_window more (window_of image t q))) (output_size s)
  values_alone = leaves_alone (λ s. value_of) values

  pub indices_alone : image_of l.n n (max_pool_indices l input values indices) ≡ tabulate (λ q. index_of s.modulus (moved_window more (window_of image t q))) (output_size s)
  indices_alone = leaves_alone (λ s. index_of s.modulus) indices

-- ---- two calls
pub same_pooling : SamePooling
same_pooling l a b values-a values-b indices-a indices-b n h za zb e =
    let s = shape_of MaxPool l in
    let t = shape_of MaxPool (one_image l) in
    let more = n * input_size s in
    record {
      values =
          values_alone l a values-a indices-a n h za
          ∙ ap (λ (image : List Float). tabulate (λ q. value_of (moved_window more (window_of image t q))) (output_size s)) e
          ∙ sym (values_alone l b values-b indices-b n h zb);
      indices =
          indices_alone l a values-a indices-a n h za
          ∙ ap (λ (image : List Float). tabulate (λ q. index_of s.modulus (moved_window more (window_of image t q))) (output_size s)) e
          ∙ sym (indices_alone l b values-b indices-b n h zb);
    }
