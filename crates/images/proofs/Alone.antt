-- Max pooling of one image alone: the windows are those of the batch, moved, so the values are the same; an index is the same, or higher by the images before it.
use Rattle.std.specs.Prelude.{IsOk, Ok}
use mathlib.Core.Path.{◌≡◌, refl, sym, ap, ◌∙◌}
use mathlib.Core.List.{List, [], ◌∷◌, ◌++◌, map, map-append}
use Prim.Native.Nat.{ℕ, zero, suc, ◌+◌, ◌*◌, ◌/◌, ◌%◌, ◌<◌}
use native.Mathlib.Nat.{mul_assoc, zero-mul, zero-add}
use native.Mathlib.Omega.{arith}
use lib.IntN.{ℤ, pos}
use lib.ListN.{length}
use lib.Ieee.{Float}
use Rattle.layer.specs.declared.Op.{Op}
use Rattle.layer.specs.declared.Op.TheVariants.{MaxPool}
use Rattle.layer.specs.declared.Layer.{Layer}
use Rattle.layer.specs.Limits.{rank}
use Rattle.shape.specs.declared.Shape.{Shape}
use Rattle.shape.specs.Counts.{shape_of}
use Rattle.layer.specs.Refusals.{number_of}
use Rattle.shape.specs.Volumes.{input_rows}
use Rattle.shape.proofs.Limits.{Axes, limited}
use Rattle.shape.proofs.Accepted.{allowed}
use Rattle.tensor.specs.declared.Window.{Window}
use Rattle.tensor.specs.declared.Window.TheVariants.{Empty, Best}
use Rattle.tensor.specs.Table.{tabulate}
use Rattle.tensor.proofs.Table.{tabulate_same}
use Rattle.call.proofs.Outcome.{run_answer, run_leaves}
use Rattle.pooling.specs.Windows.{window_of}
use Rattle.pooling.specs.Call.{value_of, index_of, pooled_value, pooled_index, call_verdict, max_pool_answer, max_pool_values, max_pool_indices}
use Rattle.readings.proofs.Pooling.{held_window}
use Rattle.images.specs.Images.{image_of, one_image}
use Rattle.images.specs.Calls.{LaterAxis, FirstAxis, plus, PoolingAlone}
use Rattle.images.proofs.Numbers.{input_size, output_size}
use Rattle.images.proofs.Accepted.{lengths_three, Batch, own_input, own_output, own_run}
use Rattle.images.proofs.Index.{later_axis, first_axis, modulus_behind, modulus_ahead}
use Rattle.images.proofs.Windows.{moved_window, fits, facts, values_alone, indices_alone}

abbrev image_size : Layer → ℕ
image_size l = l.c * l.z.input * l.y.input * l.x.input

size_is : (op : Op) (l : Layer) → input_size (shape_of op l) ≡ image_size l
unfolding input_rows
size_is op l = sym (mul_assoc l.c (l.z.input * l.y.input) l.x.input) ∙ ap (λ (m : ℕ). m * l.x.input) (sym (mul_assoc l.c l.z.input l.y.input))

map_tabulate : {A B : Type 0} (g : A → B) (f : ℕ → A) (n : ℕ) → map g (tabulate f n) ≡ tabulate (λ k. g (f k)) n
unfolding tabulate
map_tabulate g f zero = refl
map_tabulate g f (suc n) = map-append g (tabulate f n) (f n ∷ []) ∙ ap (λ l. l ++ (g (f n) ∷ [])) (map_tabulate g f n)

-- the best element of a moved window
value_moved : (more : ℕ) (w : Window) → value_of (moved_window more w) ≡ value_of w
value_moved more Empty = refl
value_moved more (Best v p) = refl

index_moved : (more a b : ℕ) → ((p : ℕ) → (more + p) % a ≡ p % b) → (w : Window) → index_of a (moved_window more w) ≡ index_of b w
index_moved more a b h Empty = refl
index_moved more a b h (Best v p) = ap pos (h p)

module _ (l : Layer) (input values own-values : List Float) (indices own-indices : List ℤ) (n : ℕ) (h : n < l.n) (z : IsOk (max_pool_answer l input values indices)) (kv : length own-values ≡ length values / l.n) (ki : length own-indices ≡ length indices / l.n) where
  abbrev s : Shape
  s = shape_of MaxPool l

  abbrev t : Shape
  t = shape_of MaxPool (one_image l)

  abbrev image : List Float
  image = image_of l.n n input

  abbrev own : Batch MaxPool l input
  own = facts l input values indices n h z

  run_alone : call_verdict (one_image l) image own-values own-indices ≡ Ok t
  run_alone =
      let f = fits l input values indices n h z in
      own_run MaxPool l input own n h _ _
      (lengths_three _ _ _ (own_input MaxPool l input own n h) (own_output MaxPool l input own n h own-values values f.values_length kv)
      (own_output MaxPool l input own n h own-indices indices f.indices_length ki)) tt

  -- the sizes of unused axes
  axes : Axes MaxPool l
  axes =
      let p = (allowed MaxPool l (ap number_of own.accepted)).fitted.passed in
      (limited MaxPool l p.dimensions p.attributes).axes

  values_are : image_of l.n n (max_pool_values l input values indices) ≡ max_pool_values (one_image l) image own-values own-indices
  values_are =
      values_alone l input values indices n h z
      ∙ tabulate_same _ _ (output_size s) (λ q k. value_moved (n * input_size s) (window_of image t q))
      ∙ ap (tabulate (pooled_value image t)) (sym own.one_outputs)
      ∙ run_leaves _ (pooled_value image) own-values t run_alone

  indices_are : LaterAxis (rank l.axes) l.axis → image_of l.n n (max_pool_indices l input values indices) ≡ max_pool_indices (one_image l) image own-values own-indices
  indices_are b =
      indices_alone l input values indices n h z
      ∙ tabulate_same _ _ (output_size s) (λ q k. index_moved (n * input_size s) s.modulus t.modulus (λ p.
      rw (size_is MaxPool l)
      (modulus_behind l.axes l.axis l.c l.z.input l.y.input l.x.input axes.z_unused axes.y_unused (later_axis (rank l.axes) l.axis b) l.n 1 n p)) (window_of image t q))
      ∙ ap (tabulate (pooled_index image t)) (sym own.one_outputs)
      ∙ run_leaves _ (pooled_index image) own-indices t run_alone

  -- with axis 0 or -R
  index_ahead : FirstAxis (rank l.axes) l.axis → (q : ℕ) → q < output_size s
      → index_of s.modulus (moved_window (n * input_size s) (window_of image t q)) ≡ plus (n * image_size l) (pooled_index image t q)
  index_ahead a q k =
      let w = held_window (one_image l) image own-values own-indices t run_alone q (rw own.one_outputs k) in
      let small : w.place < image_size l = omega (arith, w.within, own_input MaxPool l input own n h, own.one_inputs, size_is MaxPool l) in
      let none = first_axis (rank l.axes) l.axis a in
      let batch = modulus_ahead l.axes l.axis l.c l.z.input l.y.input l.x.input axes.z_unused axes.y_unused none l.n n w.place h small in
      let alone = modulus_ahead l.axes l.axis l.c l.z.input l.y.input l.x.input axes.z_unused axes.y_unused none 1 0 w.place (omega arith) small in
      let same : w.place % t.modulus ≡ w.place = rw (zero-mul (image_size l), zero-add w.place) at alone in
      rw (w.is, size_is MaxPool l) (ap pos (batch ∙ ap (λ (p : ℕ). n * image_size l + p) (sym same)))

  indices_counted : FirstAxis (rank l.axes) l.axis
      → image_of l.n n (max_pool_indices l input values indices) ≡ map (plus (n * image_size l)) (max_pool_indices (one_image l) image own-values own-indices)
  indices_counted a =
      indices_alone l input values indices n h z
      ∙ tabulate_same _ _ (output_size s) (index_ahead a)
      ∙ sym (map_tabulate (plus (n * image_size l)) (pooled_index image t) (output_size s))
      ∙ ap (map (plus (n * image_size l)))
      (ap (tabulate (pooled_index image t)) (sym own.one_outputs) ∙ run_leaves _ (pooled_index image) own-indices t run_alone)

pub pooling_alone : PoolingAlone
pooling_alone l input values own-values indices own-indices n h z kv ki =
    record {
      answer = sym (run_answer _ _ (run_alone l input values own-values indices own-indices n h z kv ki));
      values_same = values_are l input values own-values indices own-indices n h z kv ki;
      indices_same = indices_are l input values own-values indices own-indices n h z kv ki;
      indices_more = indices_counted l input values own-values indices own-indices n h z kv ki;
    }
