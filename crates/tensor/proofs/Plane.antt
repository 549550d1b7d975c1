-- Laws of the plane picker: what its tests tell of the numbers, and where a plane's elements stand in the tensor.
use mathlib.Core.Path.{◌≡◌, ap, ◌∙◌}
use mathlib.Core.Bool.{true, ◌&&◌}
use mathlib.Core.List.{List}
use Prim.Native.Nat.{ℕ, ◌+◌, ◌*◌, ◌≤◌, ◌<◌}
use native.Mathlib.Nat.{mul-le-mul, mul_assoc, add-mul}
use native.Mathlib.Omega.{arith}
use lib.Dec.{ltb, eqb}
use lib.ListN.{length}
use lib.Ieee.{Float}
use borrow.Author.Tests.{ltb-true, eqb-true}
use Rattle.layer.specs.Limits.{images_ok, channels_ok, size_ok}
use Rattle.tensor.specs.Table.{read}
use Rattle.tensor.specs.Places.{flat_place}
use Rattle.tensor.specs.Plane.{sizes_ok, has_plane, plane_start, plane_of}
use Rattle.tensor.proofs.Table.{part_read}
use Rattle.layer.proofs.Places.{part_within, place_within}
use Rattle.layer.proofs.Tests.{and_both, within_both}

-- sizes within their limits have products that the code can form
pub record SizesIn (n c z y x : ℕ) : Type 0 where
  pub channels : n * c ≤ 16384
  pub planes : n * c * z ≤ 67108864
  pub rows : n * c * z * y ≤ 274877906944
  pub all : n * c * z * y * x ≤ 1125899906842624
  pub plane : y * x ≤ 16777216

pub sizes_in : (n c z y x : ℕ) → sizes_ok n c z y x ≡ true → SizesIn n c z y x
unfolding sizes_ok
sizes_in n c z y x e =
    let a = and_both (images_ok n) (channels_ok c && (size_ok z && (size_ok y && size_ok x))) e in
    let b = and_both (channels_ok c) (size_ok z && (size_ok y && size_ok x)) a.1 in
    let d = and_both (size_ok z) (size_ok y && size_ok x) b.1 in
    let f = and_both (size_ok y) (size_ok x) d.1 in
    let hy : y ≤ 4096 = (within_both 1 4096 y f.0).1 in
    let hx : x ≤ 4096 = (within_both 1 4096 x f.1).1 in
    let p : n * c ≤ 16 * 1024 = mul-le-mul (within_both 1 16 n a.0).1 (within_both 1 1024 c b.0).1 in
    let q : n * c * z ≤ 16384 * 4096 = mul-le-mul p (within_both 1 4096 z d.0).1 in
    let r : n * c * z * y ≤ 67108864 * 4096 = mul-le-mul q hy in
    record { channels = p; planes = q; rows = r; all = mul-le-mul r hx; plane = mul-le-mul hy hx }

-- a plane that is there lies within the slice
pub record PlaneIn (len n c z y x image channel depth : ℕ) : Type 0 where
  pub sizes : SizesIn n c z y x
  pub channels : image * c + channel < n * c
  pub planes : (image * c + channel) * z + depth < n * c * z
  pub fits : plane_start c z y x image channel depth + y * x ≤ len

pub plane_in : (len n c z y x image channel depth : ℕ) → has_plane len n c z y x image channel depth ≡ true → PlaneIn len n c z y x image channel depth
unfolding has_plane
plane_in len n c z y x image channel depth e =
    let a = and_both (sizes_ok n c z y x) (eqb len (n * c * z * y * x) && (ltb image n && (ltb channel c && ltb depth z))) e in
    let b = and_both (eqb len (n * c * z * y * x)) (ltb image n && (ltb channel c && ltb depth z)) a.1 in
    let d = and_both (ltb image n) (ltb channel c && ltb depth z) b.1 in
    let f = and_both (ltb channel c) (ltb depth z) d.1 in
    let l : len ≡ n * c * z * (y * x) = eqb-true len (n * c * z * y * x) b.0 ∙ mul_assoc (n * c * z) y x in
    let k : image * c + channel < n * c = place_within (ltb-true image n d.0) (ltb-true channel c f.0) in
    let j : (image * c + channel) * z + depth < n * c * z = place_within k (ltb-true depth z f.1) in
    record { sizes = sizes_in n c z y x a.0; channels = k; planes = j; fits = omega (arith, part_within (y * x) j) }

-- place (row, column) of the plane is the tensor's at that image, channel, depth, row and column
pub plane_place : (c z y x image channel depth row column : ℕ)
    → plane_start c z y x image channel depth + (row * x + column) ≡ flat_place c z y x image channel depth row column
plane_place c z y x image channel depth row column =
    let p = (image * c + channel) * z + depth in
    omega (arith, mul_assoc p y x, add-mul (p * y) row x)

-- and so is the element there
pub plane_element : (tensor : List Float) (n c z y x image channel depth row column : ℕ)
    → has_plane (length tensor) n c z y x image channel depth ≡ true → row < y → column < x
    → read (plane_of tensor n c z y x image channel depth) (row * x + column) ≡ read tensor (flat_place c z y x image channel depth row column)
plane_element tensor n c z y x image channel depth row column e h k =
    rw e
    (part_read tensor (plane_start c z y x image channel depth) (y * x) (row * x + column) (place_within h k)
    ∙ ap (read tensor) (plane_place c z y x image channel depth row column))
