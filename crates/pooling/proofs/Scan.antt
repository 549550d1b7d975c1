-- Laws of a window's taps: a scan of them is the fold over the places that they give, and the positions of a kernel are its rows one after the other.
use Rattle.std.specs.Prelude.{None, Option, Some}
use mathlib.Core.Path.{◌≡◌, refl, sym, ap, ap₂, ◌∙◌, fun_ext}
use mathlib.Core.List.{List, [], ◌∷◌, ◌++◌, append_assoc, append-nil}
use Prim.Native.Nat.{ℕ, zero, suc, ◌+◌, ◌-◌, ◌*◌, ◌/◌, ◌%◌, ◌<◌}
use native.Mathlib.Nat.{add-zero, add-suc, zero-mul, suc-mul, add-sub_cancel_left}
use native.Mathlib.Omega.{arith}
use lib.ListN.{take, drop}
use lib.Ieee.{Float}
use Rattle.layer.proofs.Places.{place_div, place_mod}
use Rattle.sizes.specs.declared.Span.{Span}
use Rattle.taps.specs.Joins.{forward, both, Below}
use Rattle.taps.specs.Directions.{forward_below}
use Rattle.taps.proofs.Joins.{below_at}
use Rattle.shape.specs.declared.Shape.{Shape}
use Rattle.shape.specs.Facts.{Sound}
use Rattle.shape.specs.Volumes.{input_rows, kernel_rows, out_rows, out_volume, input_volume, on_rows, on_plane}
use Rattle.shape.proofs.Volumes.{plane_at, rows_at, rows_below}
use Rattle.tensor.specs.declared.Window.{Window}
use Rattle.tensor.specs.declared.Window.TheVariants.{Empty}
use Rattle.tensor.specs.Window.{best_of, better_of}
use Rattle.tensor.proofs.Table.{part_read}
use Rattle.tensor.proofs.Largest.{best_append}
use Rattle.call.proofs.Planes.{plane_parts, line_flat}
use Rattle.pooling.specs.Windows.{at_tap, over_taps, window_of}
use Rattle.pooling.specs.Steps.{after_tap, after_taps, column_step, line_places, row_step, plane_window}

-- ---- a scan of taps passes the elements of their places
module _ (tap : ℕ → Option ℕ) where
  -- where each step passes the elements of its places, the scan passes those of all
  module _ (size : ℕ) (below : (k : ℕ) → Below size (tap k)) (xs : List Float) (step : ℕ → Window → Window) (f : ℕ → List ℕ)
      (same : (c : ℕ) (w : Window) → c < size → step c w ≡ best_of xs (f c) w) where
    after_tap_lem : (k : ℕ) (t : Option ℕ) (w : Window) → tap k ≡ t → after_tap step t w ≡ best_of xs (at_tap f t) w
    unfolding best_of
    after_tap_lem k None w e = refl
    after_tap_lem k (Some c) w e = same c w (below_at size (tap k) c (below k) e)

    pub scan_places : (n : ℕ) (w : Window) → after_taps tap step n w ≡ best_of xs (over_taps tap f n) w
    unfolding after_taps over_taps best_of
    scan_places zero w = refl
    scan_places (suc k) w =
        after_tap_lem k (tap k) (after_taps tap step k w) refl
        ∙ ap (best_of xs (at_tap f (tap k))) (scan_places k w)
        ∙ sym (best_append xs (over_taps tap f k) (at_tap f (tap k)) w)

-- ---- places: taps that agree, and taps one after the other
over_same : (n : ℕ) (tap other : ℕ → Option ℕ) (f : ℕ → List ℕ) → ((k : ℕ) → k < n → tap k ≡ other k) → over_taps tap f n ≡ over_taps other f n
unfolding over_taps
over_same zero tap other f h = refl
over_same (suc n) tap other f h =
    ap₂ (λ (a b : List ℕ). a ++ b) (over_same n tap other f (λ k l. h k (omega arith))) (ap (at_tap f) (h n (omega arith)))

over_append : (n m : ℕ) (tap : ℕ → Option ℕ) (f : ℕ → List ℕ) → over_taps tap f (n + m) ≡ over_taps tap f n ++ over_taps (λ j. tap (n + j)) f m
unfolding over_taps
over_append n zero tap f = rw add-zero (sym (append-nil (over_taps tap f n)))
over_append n (suc m) tap f =
    rw (add-suc, over_append n m tap f) (append_assoc (over_taps tap f n) (over_taps (λ j. tap (n + j)) f m) (at_tap f (tap (n + m))))

-- ---- a kernel row: its taps lie inside where the row does
both_at : (size r : ℕ) (t : Option ℕ) (f : ℕ → List ℕ) → at_tap f (both size (Some r) t) ≡ at_tap (λ c. f (r * size + c)) t
unfolding both
both_at size r (Some c) f = refl
both_at size r None f = refl

both_outside_lem : (size : ℕ) (t : Option ℕ) (f : ℕ → List ℕ) → at_tap f (both size None t) ≡ []
unfolding both
both_outside_lem size t f = refl

row_inside : (size r m : ℕ) (tap : ℕ → Option ℕ) (f : ℕ → List ℕ) → over_taps (λ j. both size (Some r) (tap j)) f m ≡ over_taps tap (λ c. f (r * size + c)) m
unfolding over_taps
row_inside size r zero tap f = refl
row_inside size r (suc m) tap f = ap₂ (λ (a b : List ℕ). a ++ b) (row_inside size r m tap f) (both_at size r (tap m) f)

row_outside : (size m : ℕ) (tap : ℕ → Option ℕ) (f : ℕ → List ℕ) → over_taps (λ j. both size None (tap j)) f m ≡ []
unfolding over_taps
row_outside size zero tap f = refl
row_outside size (suc m) tap f = ap₂ (λ (a b : List ℕ). a ++ b) (row_outside size m tap f) (both_outside_lem size (tap m) f)

over_row : (size m : ℕ) (row : Option ℕ) (tap : ℕ → Option ℕ) (f : ℕ → List ℕ) → over_taps (λ j. both size row (tap j)) f m ≡ at_tap (λ r. over_taps tap (λ c. f (r * size + c)) m) row
over_row size m (Some r) tap f = row_inside size r m tap f
over_row size m None tap f = row_outside size m tap f

-- ---- two axes as one, the inner with m taps and `size` positions: the taps of the inner axis, once for each of the outer
module _ (m size : ℕ) (tap outer inner : ℕ → Option ℕ) (is : (a b : ℕ) → b < m → tap (a * m + b) ≡ both size (outer a) (inner b)) (f : ℕ → List ℕ) where
  pub over_both : (n : ℕ) → over_taps tap f (n * m) ≡ over_taps outer (λ r. over_taps inner (λ c. f (r * size + c)) m) n
  unfolding over_taps
  over_both zero = rw zero-mul
  over_both (suc n) =
      rw suc-mul
      (over_append (n * m) m tap f
      ∙ ap₂ (λ (a b : List ℕ). a ++ b) (over_both n)
      (over_same m _ (λ j. both size (outer n) (inner j)) f (λ j l. is n j l)
      ∙ over_row size m (outer n) inner f))

-- the kernel's positions are its rows, one after the other
pub over_rows : (s : Shape) (p : ℕ) {q : ℕ} → q < s.x.out → (f : ℕ → List ℕ) (n : ℕ)
    → over_taps (on_plane forward s (p * s.x.out + q)) f (n * s.x.kernel)
    ≡ over_taps (on_rows forward s p) (λ r. over_taps (forward s.x q) (λ c. f (r * s.x.input + c)) s.x.kernel) n
over_rows s p {q} hq f n =
    over_both s.x.kernel s.x.input (on_plane forward s (p * s.x.out + q)) (on_rows forward s p) (forward s.x q)
    (λ a b l. plane_at forward s p a hq l) f n

-- and a kernel's rows those of its depths
pub over_depths : (s : Shape) (z : ℕ) {y : ℕ} → y < s.y.out → (f : ℕ → List ℕ) (n : ℕ)
    → over_taps (on_rows forward s (z * s.y.out + y)) f (n * s.y.kernel)
    ≡ over_taps (forward s.z z) (λ r. over_taps (forward s.y y) (λ c. f (r * s.y.input + c)) s.y.kernel) n
over_depths s z {y} hy f n =
    over_both s.y.kernel s.y.input (on_rows forward s (z * s.y.out + y)) (forward s.z z) (forward s.y y)
    (λ a b l. rows_at forward s z a hy l) f n

-- ---- rows as parts of the input

-- a scan of the part that holds a row passes the row's elements in the input
pub row_part : (xs : List Float) (x : Span) (q line : ℕ) (w : Window)
    → let start = line * x.input in
    after_taps (forward x q) (column_step (take (start + x.input - start) (drop start xs)) start) x.kernel w ≡ best_of xs (line_places x q line) w
unfolding best_of
row_part xs x q line w =
    let start = line * x.input in
    rw (add-sub_cancel_left start x.input)
    (scan_places (forward x q) x.input (forward_below x q) xs (column_step (take x.input (drop start xs)) start) (λ c. (start + c) ∷ [])
    (λ c u h. ap (λ v. better_of u v (start + c)) (part_read xs start x.input c h)) x.kernel w)

-- a scan of the rows passes the window of the plane
pub plane_window_lem : (xs : List Float) (first : ℕ) (s : Shape) (p q : ℕ) (w : Window)
    → after_taps (on_rows forward s p) (row_step xs first s.x q) (kernel_rows s) w ≡ plane_window xs first s p q w
unfolding plane_window
plane_window_lem xs first s p q w =
    scan_places (on_rows forward s p) (input_rows s) (rows_below forward s forward_below p) xs (row_step xs first s.x q) (λ r. line_places s.x q (first + r)) (λ c u h. refl) (kernel_rows s) w

-- the window at column q of a line of outputs, in that line's plane, is the window of the output there
pub line_window : (xs : List Float) (s : Shape) → Sound s → (line q : ℕ) → q < s.x.out
    → plane_window xs (line / out_rows s * input_rows s) s (line % out_rows s) q Empty ≡ window_of xs s (line * s.x.out + q)
unfolding plane_window window_of
line_window xs s h line q l =
    let a = plane_parts (out_rows s) s.x.out (line * s.x.out + q) h.out_rows_1 h.x.out_1 in
    let plane : (line * s.x.out + q) / out_volume s ≡ line / out_rows s = a.plane ∙ ap (λ (n : ℕ). n / out_rows s) (place_div line l) in
    let position : (line * s.x.out + q) % out_volume s ≡ line % out_rows s * s.x.out + q =
    a.position ∙ ap₂ (λ (n m : ℕ). n % out_rows s * s.x.out + m) (place_div line l) (place_mod line l) in
    rw (plane, position)
    (ap (λ (ps : List ℕ). best_of xs ps Empty)
    (ap (λ (f : ℕ → List ℕ). over_taps (on_rows forward s (line % out_rows s)) f (kernel_rows s))
    (fun_ext (λ r. ap (λ (g : ℕ → List ℕ). over_taps (forward s.x q) g s.x.kernel)
    (fun_ext (λ c. ap (λ (n : ℕ). n ∷ []) (sym (line_flat (line / out_rows s) (input_rows s) s.x.input r c))))))
    ∙ sym (over_rows s (line % out_rows s) l (λ c. (line / out_rows s * input_volume s + c) ∷ []) (kernel_rows s))))
