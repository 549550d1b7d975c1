-- "Plane picker: from a tensor slice, its five sizes, an image, a channel and a depth": the part of the slice that it hands back. "Sizes of axes that a tensor
-- lacks are 1, so its depth is 0".
use Rattle.std.specs.Prelude.{ℕ, ◌+◌, ◌*◌, Bool, ◌&&◌, cond, List, ltb, eqb, length, take, drop, Float}
use Rattle.layer.specs.Limits.{images_ok, channels_ok, size_ok}
use Rattle.tensor.specs.declared.Part.{Part}

-- number 1's limits of the five sizes of a tensor, and no limit of their product: "A tensor of more than 16,777,216 elements is taken"
unfoldable pub sizes_ok : ℕ → ℕ → ℕ → ℕ → ℕ → Bool
sizes_ok n c z y x = images_ok n && (channels_ok c && (size_ok z && (size_ok y && size_ok x)))

-- Whether a tensor slice of len elements with the sizes [n, c, z, y, x] has the plane of this image, channel and depth. It has none "exactly if a size breaks
-- number 1's limits, the length is wrong, or image, channel or depth is not below its count".
unfoldable pub has_plane : ℕ → ℕ → ℕ → ℕ → ℕ → ℕ → ℕ → ℕ → ℕ → Bool
has_plane len n c z y x image channel depth =
    sizes_ok n c z y x && (eqb len (n * c * z * y * x) && (ltb image n && (ltb channel c && ltb depth z)))

-- the place where the plane begins: that of its row 0 and column 0
abbrev pub plane_start : ℕ → ℕ → ℕ → ℕ → ℕ → ℕ → ℕ → ℕ
plane_start c z y x image channel depth = ((image * c + channel) * z + depth) * (y * x)

-- "the plane is handed back as that part of the caller's own slice, the rows and columns at that depth; it is the empty part, its one refusal and without a
-- number": where the part begins and how long it is, in elements. The empty part begins where the slice does.
abbrev pub part_of : ℕ → ℕ → ℕ → ℕ → ℕ → ℕ → ℕ → ℕ → ℕ → Part
part_of len n c z y x image channel depth =
    cond (has_plane len n c z y x image channel depth) (record { start = plane_start c z y x image channel depth; length = y * x }) (record { start = 0; length = 0 })

-- what a part of a slice holds
abbrev pub part_in : List Float → Part → List Float
part_in tensor p = take p.length (drop p.start tensor)

abbrev pub plane_of : List Float → ℕ → ℕ → ℕ → ℕ → ℕ → ℕ → ℕ → ℕ → List Float
plane_of tensor n c z y x image channel depth = part_in tensor (part_of (length tensor) n c z y x image channel depth)
