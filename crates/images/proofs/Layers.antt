-- The layer with one image: where a layer passes checks 1 to 7 it passes them too, since N is in no test but its own limit and the counts, which are smaller with it.
use Rattle.std.specs.Prelude.{Ok}
use Prim.Native.Nat.{ℕ, ◌*◌, ◌≤◌}
use native.Mathlib.Nat.{one-mul, mul_assoc, mul_comm, le-mul_of_pos_right}
use native.Mathlib.Omega.{arith}
use mathlib.Core.Path.{◌≡◌, refl, sym, ap, ◌∙◌}
use mathlib.Core.Bool.{Bool, true, ◌&&◌, ◌||◌}
use borrow.Author.Tests.{leb-true, le-leb}
use Rattle.layer.specs.declared.Op.{Op}
use Rattle.layer.specs.declared.Layer.{Layer}
use Rattle.layer.specs.Kinds.{is_pool}
use Rattle.layer.specs.Limits.{images_ok, channels_ok, taps_ok, elements_ok}
use Rattle.layer.specs.Axes.{axes_in, uses_y, uses_z}
use Rattle.layer.proofs.Tests.{and_both, and_of}
use Rattle.sizes.specs.Sizing.{axis_dimensions_ok}
use Rattle.shape.specs.Counts.{input_count, kernel_count, tap_count, output_channels, span_on, shape_of}
use Rattle.shape.specs.Volumes.{kernel_rows, out_rows, on_rows, on_plane}
use Rattle.shape.specs.Windows.{window_empty, some_empty}
use Rattle.shape.specs.Checks.{groups_within, axis_within, dimensions_ok, unused_ok, attributes_ok, counts_ok, fits_ok, output_ok, windows_ok}
use Rattle.shape.specs.Judge.{judged}
use Rattle.layer.specs.Refusals.{number_of}
use Rattle.shape.specs.Facts.{Sound}
use Rattle.shape.proofs.Accepted.{Allowed, allowed, allowed_accepted, sound}
use Rattle.images.specs.Images.{one_image}

-- a count with one image is at most that with n
fewer : (n a b c d : ℕ) → 1 ≤ n → elements_ok (n * a * b * c * d) ≡ true → elements_ok (1 * a * b * c * d) ≡ true
fewer n a b c d h e =
    let few : 1 * a * b * c * d ≡ a * b * c * d = simp one-mul in
    let more : n * a * b * c * d ≡ n * (a * b * c * d) = simp mul_assoc in
    le-leb (1 * a * b * c * d) 16777216 (omega (arith, leb-true (n * a * b * c * d) 16777216 e, le-mul_of_pos_right (a * b * c * d) h, mul_comm n (a * b * c * d)))

module _ (op : Op) (l : Layer) (a : Allowed op l) (s : Sound (shape_of op l)) where
  images_pass : images_ok l.n ≡ true
  images_pass = and_of _ _ (le-leb 1 l.n s.n_1) (le-leb l.n 16 s.n_16)

  -- number 1
  dimensions_pass : dimensions_ok op (one_image l) ≡ true
  unfolding dimensions_ok
  dimensions_pass =
      ap (λ (b : Bool).
      axes_in l.axes && b && channels_ok l.c && axis_within (uses_z l.axes) l.z && axis_within (uses_y l.axes) l.y && axis_dimensions_ok l.x
      && groups_within op l.g l.o l.i) (sym images_pass)
      ∙ a.fitted.passed.dimensions

  -- number 2
  attributes_pass : attributes_ok op (one_image l) ≡ true
  unfolding attributes_ok unused_ok
  attributes_pass = a.fitted.passed.attributes

  -- number 4
  counts_pass : counts_ok op (one_image l) ≡ true
  unfolding counts_ok
  counts_pass =
      let u = and_both _ (elements_ok (kernel_count l)) a.fitted.passed.counts in
      let v = and_both (is_pool op || taps_ok (tap_count l)) (elements_ok (input_count l)) u.0 in
      and_of _ _ (and_of _ _ v.0 (fewer l.n l.c l.z.input l.y.input l.x.input s.n_1 v.1)) u.1

  -- number 5
  fits_pass : fits_ok op (one_image l) ≡ true
  unfolding fits_ok
  fits_pass = a.fitted.fits

  -- number 6
  output_pass : output_ok op (one_image l) ≡ true
  unfolding output_ok
  output_pass =
      fewer l.n (output_channels op l.c l.g l.o) (span_on op l l.z).out (span_on op l l.y).out (span_on op l l.x).out s.n_1 a.output

  -- number 7
  windows_pass : windows_ok op (one_image l) ≡ true
  unfolding windows_ok some_empty window_empty kernel_rows out_rows on_rows on_plane
  windows_pass = a.windows

-- an accepted layer is accepted with one image too
pub layer_accepted : (op : Op) (l : Layer) → judged op l ≡ Ok (shape_of op l) → judged op (one_image l) ≡ Ok (shape_of op (one_image l))
layer_accepted op l e =
    let a = allowed op l (ap number_of e) in
    let s = sound op l (shape_of op l) e in
    allowed_accepted op (one_image l)
    (record {
      fitted =
          record {
            passed =
                record {
                  dimensions = dimensions_pass op l a s;
                  attributes = attributes_pass op l a s;
                  groups = a.fitted.passed.groups;
                  counts = counts_pass op l a s;
                };
            fits = fits_pass op l a s;
            z_is = refl;
            y_is = refl;
            x_is = refl;
          };
      output = output_pass op l a s;
      windows = windows_pass op l a s;
    })
