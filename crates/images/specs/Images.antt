-- An image of a tensor, and a layer for one image alone.
use Rattle.std.specs.Prelude.{ℕ, ◌*◌, ◌/◌, ◌<◌, ◌≡◌, List, length, take, drop, get_or}
use Rattle.layer.specs.declared.Layer.{Layer}
use Rattle.tensor.specs.Places.{flat_place}
use Rattle.readings.specs.Layers.{layer_with}

-- "Row-major, last axis fastest. Input [N, C, Z, Y, X]": N stands first, and so it does in an output, so that a tensor holds its images one after another, each a
-- part of the same length. Image n of a tensor of that many images:
abbrev pub image_of : {A : Type 0} → ℕ → ℕ → List A → List A
image_of images n tensor = let size = length tensor / images in take size (drop (n * size) tensor)

-- Two tensors [N, C, Z, Y, X] have the same image n, by document 01's indices: element (n, c, z, y, x) of the one is that of the other. `same_elements` says that this
-- is what two equal images are.
abbrev pub SameElements : {A : Type 0} → A → ℕ → ℕ → ℕ → ℕ → ℕ → List A → List A → Type 0
SameElements none C Z Y X n a b =
    (c z y x : ℕ) → c < C → z < Z → y < Y → x < X → get_or a (flat_place C Z Y X n c z y x) none ≡ get_or b (flat_place C Z Y X n c z y x) none

-- "the same layer with N 1"
abbrev pub one_image : Layer → Layer
one_image l = layer_with l.version 1 l
