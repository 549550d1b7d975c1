-- The limits of document 01, "Tensors and numbers": each a test of one number.
use Rattle.std.specs.Prelude.{ℕ, ◌+◌, Bool, ◌&&◌, leb, ℤ, pos, neg_ℤ}
use Rattle.std.specs.Int.Signed.{le_z, lt_z}

-- lo..hi, both ends included
abbrev pub within : ℕ → ℕ → ℕ → Bool
within lo hi v = leb lo v && leb v hi

-- "Limits: N 1..16"
abbrev pub images_ok : ℕ → Bool
images_ok n = within 1 16 n

-- "C, G, O, I 1..1,024"
abbrev pub channels_ok : ℕ → Bool
channels_ok c = within 1 1024 c

-- "Z, Y, X 1..4,096"
abbrev pub size_ok : ℕ → Bool
size_ok size = within 1 4096 size

-- "KZ, KY, KX 1..64"
abbrev pub kernel_ok : ℕ → Bool
kernel_ok k = within 1 64 k

-- "strides and dilations 1..16 (000 allows 0 in words; 0 is refused)"
abbrev pub step_ok : ℕ → Bool
step_ok s = within 1 16 s

-- "explicit pads 0..1,024"
abbrev pub pad_ok : ℕ → Bool
pad_ok p = leb p 1024

-- "output padding 0..15"
abbrev pub output_padding_ok : ℕ → Bool
output_padding_ok p = leb p 15

-- "taps K = I·KZ·KY·KX at most 4,096"
abbrev pub taps_ok : ℕ → Bool
taps_ok k = leb k 4096

-- "each tensor at most 16,777,216 elements"
abbrev pub elements_ok : ℕ → Bool
elements_ok n = leb n 16777216

-- "axis runs from -R to R - 1, R being the number of axes plus 2"
abbrev pub rank : ℕ → ℕ
rank axes = axes + 2

abbrev pub axis_ok : ℕ → ℤ → Bool
axis_ok axes z = le_z (neg_ℤ (pos (rank axes))) z && lt_z z (pos (rank axes))
