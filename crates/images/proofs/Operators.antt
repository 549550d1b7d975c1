-- The laws for each operator, and two calls in document 01's indices: where the inputs have the same elements (n, c, z, y, x), so have the outputs and indices.
use Rattle.std.specs.Prelude.{IsOk, Ok, Result}
use mathlib.Core.Path.{◌≡◌, refl, sym, ap, ◌∙◌}
use mathlib.Core.Bool.{false}
use mathlib.Core.List.{List}
use Prim.Native.Nat.{ℕ, ◌<◌}
use lib.IntN.{ℤ, pos}
use lib.ListN.{length}
use lib.Ieee.{Float, nan}
use Rattle.layer.specs.declared.Op.{Op}
use Rattle.layer.specs.declared.Op.TheVariants.{Convolution, Transposed, MaxPool}
use Rattle.layer.specs.declared.Layer.{Layer}
use Rattle.layer.specs.Kinds.{is_pool}
use Rattle.shape.specs.declared.Shape.{Shape}
use Rattle.shape.specs.Counts.{input_count, shape_of}
use Rattle.tensor.proofs.Table.{tabulate_length}
use Rattle.sums.specs.declared.Profile.{Profile}
use Rattle.sums.specs.declared.Profile.TheVariants.{Running}
use Rattle.sums.specs.Taps.{Place, output_of}
use Rattle.call.specs.Call.{leaves, answer_of, contents_of}
use Rattle.call.proofs.Checked.{zero_run}
use Rattle.call.proofs.Outcome.{run_leaves, fitting}
use Rattle.places.specs.Places.{place_of}
use Rattle.places.proofs.Places as convolution
use Rattle.transposed.specs.Transposed.{place_of as transposedPlaceOf}
use Rattle.transposed.proofs.Places as transposed
use Rattle.pooling.specs.Call.{pooled_value, pooled_index, max_pool_answer, max_pool_values, max_pool_indices}
use Rattle.pooling.proofs.Accepted.{pool_fitting}
use Rattle.images.specs.Images.{image_of, SameElements}
use Rattle.images.specs.Calls.{SameImage, SameOutputs, SamePooling, OutputsAlone}
use Rattle.images.proofs.Parts.{same_elements}
use Rattle.images.proofs.Sums.{same_outputs, image_alone}
use Rattle.images.proofs.Places.{convolution_stays, transposed_stays}
use Rattle.layer.specs.declared.Refusal.{Refusal}

-- ---- two calls; max pooling has `same_pooling`
pub same_convolution : (profile : Profile) → SameOutputs Convolution profile place_of
same_convolution profile = same_outputs Convolution refl profile place_of convolution.in_range_lem convolution_stays

pub same_transposed : SameOutputs Transposed Running transposedPlaceOf
same_transposed = same_outputs Transposed refl Running transposedPlaceOf transposed.in_range_lem transposed_stays

-- ---- an image alone; max pooling has `pooling_alone`
pub convolution_alone : (profile : Profile) → OutputsAlone Convolution profile place_of
convolution_alone profile = image_alone Convolution refl profile place_of convolution.in_range_lem convolution_stays

pub transposed_alone : OutputsAlone Transposed Running transposedPlaceOf
transposed_alone = image_alone Transposed refl Running transposedPlaceOf transposed.in_range_lem transposed_stays

-- ---- two calls in document 01's indices

-- the inputs, or the outputs, of two calls with one layer
abbrev SameInputs : Layer → ℕ → List Float → List Float → Type 0
SameInputs l n a b = SameElements nan l.c l.z.input l.y.input l.x.input n a b

abbrev SameIn : {A : Type 0} → A → Op → Layer → ℕ → List A → List A → Type 0
SameIn none op l n a b =
    let s = shape_of op l in
    SameElements none s.channels s.z.out s.y.out s.x.out n a b

input_image : (l : Layer) (n : ℕ) (a b : List Float) → n < l.n → length a ≡ input_count l → length b ≡ input_count l → SameInputs l n a b → SameImage l n a b
input_image l n a b h ea eb e = (same_elements l.n l.c l.z.input l.y.input l.x.input n h a b nan ea eb).0 e

leaves_length : {A : Type 0} (v : Result Shape Refusal) (element : Shape → ℕ → A) (before : List A) (s : Shape) → v ≡ Ok s → length (leaves v element before) ≡ s.outputs
leaves_length v element before s e = ap length (sym (run_leaves v element before s e)) ∙ tabulate_length (element s) s.outputs

left_elements : {A : Type 0} (none : A) (op : Op) (l : Layer) (n : ℕ) (va vb : Result Shape Refusal) (fa fb : Shape → ℕ → A) (before-a before-b : List A) → n < l.n
    → va ≡ Ok (shape_of op l) → vb ≡ Ok (shape_of op l) → image_of l.n n (leaves va fa before-a) ≡ image_of l.n n (leaves vb fb before-b)
    → SameIn none op l n (leaves va fa before-a) (leaves vb fb before-b)
left_elements none op l n va vb fa fb before-a before-b h ra rb e =
    let s = shape_of op l in
    (same_elements l.n s.channels s.z.out s.y.out s.x.out n h (leaves va fa before-a) (leaves vb fb before-b) none
    (leaves_length va fa before-a s ra) (leaves_length vb fb before-b s rb)).1 e

-- a convolution of either kind, by its law
pub output_elements : (op : Op) → is_pool op ≡ false → (profile : Profile) (place : Shape → ℕ → ℕ → Place) → SameOutputs op profile place
    → (l : Layer) (a b kernel before-a before-b : List Float) (n : ℕ) → n < l.n
    → IsOk (answer_of op l a kernel (length before-a))
    → IsOk (answer_of op l b kernel (length before-b))
    → SameInputs l n a b
    → SameIn nan op l n (contents_of op profile place l a kernel before-a) (contents_of op profile place l b kernel before-b)
output_elements op pool profile place same l a b kernel before-a before-b n h za zb e =
    let s = shape_of op l in
    let ra = zero_run op l _ _ za in
    let rb = zero_run op l _ _ zb in
    let fa = (fitting op pool l a kernel (length before-a) s ra).0 in
    let fb = (fitting op pool l b kernel (length before-b) s rb).0 in
    left_elements nan op l n _ _ (λ s. output_of profile (place s) s.taps a kernel) (λ s. output_of profile (place s) s.taps b kernel) before-a before-b h ra rb
    (same l a b kernel before-a before-b n h za zb (input_image l n a b h fa.input_length fb.input_length e))

-- max pooling, by its law
pub pooled_elements : SamePooling → (l : Layer) (a b values-a values-b : List Float) (indices-a indices-b : List ℤ) (n : ℕ) → n < l.n
    → IsOk (max_pool_answer l a values-a indices-a)
    → IsOk (max_pool_answer l b values-b indices-b)
    → SameInputs l n a b
    → SameIn nan MaxPool l n (max_pool_values l a values-a indices-a) (max_pool_values l b values-b indices-b)
    × SameIn (pos 0) MaxPool l n (max_pool_indices l a values-a indices-a) (max_pool_indices l b values-b indices-b)
pooled_elements same l a b values-a values-b indices-a indices-b n h za zb e =
    let s = shape_of MaxPool l in
    let ra = zero_run MaxPool l _ _ za in
    let rb = zero_run MaxPool l _ _ zb in
    let fa = pool_fitting l a (length values-a) (length indices-a) s ra in
    let fb = pool_fitting l b (length values-b) (length indices-b) s rb in
    let pooled = same l a b values-a values-b indices-a indices-b n h za zb (input_image l n a b h fa.input_length fb.input_length e) in (
      left_elements nan MaxPool l n _ _ (pooled_value a) (pooled_value b) values-a values-b h ra rb pooled.values,
      left_elements (pos 0) MaxPool l n _ _ (pooled_index a) (pooled_index b) indices-a indices-b h ra rb pooled.indices,
    )
