-- What two calls have in common that share an image, and what a call has in common with the call on one of its images alone. A call is accepted where its number
-- is 0. "Number 9 and what it tells may depend on every image, so nothing is said where either call is refused"
use Rattle.std.specs.Prelude.{IsOk, ℕ, suc, ◌+◌, ◌*◌, ◌/◌, ◌≤◌, ◌<◌, ◌≡◌, List, map, ℤ, pos, negsuc, length, Float}
use Rattle.layer.specs.declared.Op.{Op}
use Rattle.layer.specs.declared.Layer.{Layer}
use Rattle.layer.specs.Refusals.{done}
use Rattle.layer.specs.Limits.{rank}
use Rattle.shape.specs.declared.Shape.{Shape}
use Rattle.sums.specs.declared.Profile.{Profile}
use Rattle.sums.specs.Taps.{Place}
use Rattle.call.specs.Call.{answer_of, contents_of}
use Rattle.pooling.specs.Call.{max_pool_answer, max_pool_values, max_pool_indices}
use Rattle.images.specs.Images.{image_of, one_image}

-- ---- two calls, with the inputs a and b

-- "the same image n": all of it, every channel
abbrev pub SameImage : Layer → ℕ → List Float → List Float → Type 0
SameImage l n a b = image_of l.n n a ≡ image_of l.n n b

-- "For any two accepted calls of one operator and one profile with the same layer and kernel and the same image n, every output .. of image n is the same, whatever
-- the other images hold": a convolution of either kind, by its place function. The outputs may hold anything at entry.
abbrev pub SameOutputs : Op → Profile → (Shape → ℕ → ℕ → Place) → Type 0
SameOutputs op profile place =
    (l : Layer) (a b kernel before-a before-b : List Float) (n : ℕ) → n < l.n
    → IsOk (answer_of op l a kernel (length before-a))
    → IsOk (answer_of op l b kernel (length before-b))
    → SameImage l n a b
    → image_of l.n n (contents_of op profile place l a kernel before-a) ≡ image_of l.n n (contents_of op profile place l b kernel before-b)

-- "every output and index of image n is the same": max pooling
pub record SamePooled (l : Layer) (a b values-a values-b : List Float) (indices-a indices-b : List ℤ) (n : ℕ) : Type 0 where
  pub values : image_of l.n n (max_pool_values l a values-a indices-a) ≡ image_of l.n n (max_pool_values l b values-b indices-b)
  pub indices : image_of l.n n (max_pool_indices l a values-a indices-a) ≡ image_of l.n n (max_pool_indices l b values-b indices-b)

abbrev pub SamePooling : Type 0
SamePooling =
    (l : Layer) (a b values-a values-b : List Float) (indices-a indices-b : List ℤ) (n : ℕ) → n < l.n
    → IsOk (max_pool_answer l a values-a indices-a)
    → IsOk (max_pool_answer l b values-b indices-b)
    → SameImage l n a b
    → SamePooled l a b values-a values-b indices-a indices-b n

-- ---- a call, and the call on image n alone. The outputs of the latter are as long as one image of the former's, and hold `own` at entry.

-- "These outputs and indices are also those of the call on image n alone, the same layer with N 1, which is accepted too": a convolution of either kind
pub record SummedAlone (op : Op) (profile : Profile) (place : Shape → ℕ → ℕ → Place) (l : Layer) (input kernel before own : List Float) (n : ℕ) : Type 0 where
  pub answer : answer_of op (one_image l) (image_of l.n n input) kernel (length own) ≡ done
  pub outputs : image_of l.n n (contents_of op profile place l input kernel before) ≡ contents_of op profile place (one_image l) (image_of l.n n input) kernel own

abbrev pub OutputsAlone : Op → Profile → (Shape → ℕ → ℕ → Place) → Type 0
OutputsAlone op profile place =
    (l : Layer) (input kernel before own : List Float) (n : ℕ) → n < l.n
    → IsOk (answer_of op l input kernel (length before))
    → length own ≡ length before / l.n
    → SummedAlone op profile place l input kernel before own n

-- "axis 0 or -R"; `negsuc m` is -(m + 1)
abbrev pub FirstAxis : ℕ → ℤ → Type 0
FirstAxis R (pos a) = a ≡ 0
FirstAxis R (negsuc m) = suc m ≡ R

-- any other: an axis above 0, and of those below 0 -R + 1 and above
abbrev pub LaterAxis : ℕ → ℤ → Type 0
LaterAxis R (pos a) = 1 ≤ a
LaterAxis R (negsuc m) = suc m < R

-- an index that is so much more; none is below 0
abbrev pub plus : ℕ → ℤ → ℤ
plus more (pos p) = pos (more + p)
plus more (negsuc m) = negsuc m

-- max pooling: "but an index with axis 0 or -R, and no other, is n·C·Z·Y·X more than there"
pub record PooledAlone (l : Layer) (input values own-values : List Float) (indices own-indices : List ℤ) (n : ℕ) : Type 0 where
  pub answer : max_pool_answer (one_image l) (image_of l.n n input) own-values own-indices ≡ done
  pub values_same : image_of l.n n (max_pool_values l input values indices) ≡ max_pool_values (one_image l) (image_of l.n n input) own-values own-indices
  pub indices_same : LaterAxis (rank l.axes) l.axis
      → image_of l.n n (max_pool_indices l input values indices) ≡ max_pool_indices (one_image l) (image_of l.n n input) own-values own-indices
  pub indices_more : FirstAxis (rank l.axes) l.axis
      → image_of l.n n (max_pool_indices l input values indices)
      ≡ map (plus (n * (l.c * l.z.input * l.y.input * l.x.input))) (max_pool_indices (one_image l) (image_of l.n n input) own-values own-indices)

abbrev pub PoolingAlone : Type 0
PoolingAlone =
    (l : Layer) (input values own-values : List Float) (indices own-indices : List ℤ) (n : ℕ) → n < l.n
    → IsOk (max_pool_answer l input values indices)
    → length own-values ≡ length values / l.n
    → length own-indices ≡ length indices / l.n
    → PooledAlone l input values own-values indices own-indices n
