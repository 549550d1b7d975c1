-- The images of a tensor by places: where it has so many images of one size, image n is that part of it, element by element.
use mathlib.Core.Path.{◌≡◌, sym, ap, ◌∙◌}
use mathlib.Core.List.{List}
use mathlib.Core.Logic.{◌↔◌}
use Prim.Native.Nat.{ℕ, ◌+◌, ◌-◌, ◌*◌, ◌/◌, ◌%◌, ◌≤◌, ◌<◌}
use native.Mathlib.Nat.{mul_comm, mul_assoc, add_assoc, add-mul, div-add-mod'}
use native.Mathlib.Omega.{arith}
use lib.ListN.{length, take, drop, get_or, length-drop}
use lib.Seq.{take_at, drop_at, length-take-le, get_or-take, get_or-drop, ext_get_or}
use Rattle.layer.proofs.Places.{part_within, place_within, div_within, mod_within}
use Rattle.tensor.specs.Table.{tabulate}
use Rattle.tensor.specs.Places.{flat_place}
use Rattle.tensor.proofs.Table.{tabulate_length}
use Rattle.tensor.proofs.Lines.{line_start, tabulate_more}
use Rattle.images.specs.Images.{image_of, SameElements}

flat_is : (C Z Y X n c z y x : ℕ) → n * (C * Z * Y * X) + (((c * Z + z) * Y + y) * X + x) ≡ flat_place C Z Y X n c z y x
flat_is C Z Y X n c z y x = simp (add-mul, mul_assoc, add_assoc)

-- a number by the numbers of its place
parts_are : (Z Y X k : ℕ) → ((k / X / Y / Z * Z + k / X / Y % Z) * Y + k / X % Y) * X + k % X ≡ k
parts_are Z Y X k = rw (div-add-mod' (k / X / Y) Z, div-add-mod' (k / X) Y, div-add-mod' k X)

module _ {A : Type 0} where
  -- a part of a tabulated list
  tabulate_part : (f : ℕ → A) (a m k : ℕ) → a + m ≤ k → take m (drop a (tabulate f k)) ≡ tabulate (λ q. f (a + q)) m
  tabulate_part f a m k h = go (k - (a + m)) (omega arith)
    where
      go : (r : ℕ) → k ≡ a + (m + r) → take m (drop a (tabulate f k)) ≡ tabulate (λ q. f (a + q)) m
      go r e =
          ap (λ (l : List A). take m (drop a l)) (ap (tabulate f) e ∙ sym (tabulate_more f a (m + r)))
          ∙ ap (take m) (drop_at (tabulate f a) _ a (tabulate_length f a) ∙ sym (tabulate_more (λ q. f (a + q)) m r))
          ∙ take_at (tabulate (λ q. f (a + q)) m) _ m (tabulate_length (λ q. f (a + q)) m)

  module _ (images size n : ℕ) (tensor : List A) (e : length tensor ≡ images * size) (h : n < images) where
    pub image_size_lem : length tensor / images ≡ size
    image_size_lem = ap (λ (k : ℕ). k / images) (e ∙ mul_comm images size) ∙ line_start size (omega arith)

    pub image_part : image_of images n tensor ≡ take size (drop (n * size) tensor)
    image_part = rw image_size_lem

    pub image_length : length (image_of images n tensor) ≡ size
    image_length = ap length image_part ∙ length-take-le size (drop (n * size) tensor) (rw length-drop (omega (arith, part_within size h)))

    pub image_get : (k : ℕ) (d : A) → k < size → get_or (image_of images n tensor) k d ≡ get_or tensor (n * size + k) d
    image_get k d l = ap (λ (t : List A). get_or t k d) image_part ∙ get_or-take size (drop (n * size) tensor) k d l ∙ get_or-drop (n * size) tensor k d

  pub image_tabulate : (images size n : ℕ) (f : ℕ → A) (k : ℕ) → k ≡ images * size → n < images → image_of images n (tabulate f k) ≡ tabulate (λ q. f (n * size + q)) size
  image_tabulate images size n f k e h =
      image_part images size n (tabulate f k) (tabulate_length f k ∙ e) h ∙ tabulate_part f (n * size) size k (omega (arith, part_within size h))

  -- ---- in document 01's indices
  module _ (N C Z Y X n : ℕ) (h : n < N) where
    size_is : (tensor : List A) → length tensor ≡ N * C * Z * Y * X → length tensor ≡ N * (C * Z * Y * X)
    size_is tensor e = e ∙ simp mul_assoc

    -- element (c, z, y, x) of image n of a tensor [N, C, Z, Y, X] is the tensor's element (n, c, z, y, x)
    pub image_element : (tensor : List A) (d : A) → length tensor ≡ N * C * Z * Y * X → (c z y x : ℕ) → c < C → z < Z → y < Y → x < X
        → get_or (image_of N n tensor) (((c * Z + z) * Y + y) * X + x) d ≡ get_or tensor (flat_place C Z Y X n c z y x) d
    image_element tensor d e c z y x hc hz hy hx =
        image_get N (C * Z * Y * X) n tensor (size_is tensor e) h _ d (place_within (place_within (place_within hc hz) hy) hx)
        ∙ ap (λ (p : ℕ). get_or tensor p d) (flat_is C Z Y X n c z y x)

    -- two images are the same exactly if their elements are
    pub same_elements : (a b : List A) (d : A) → length a ≡ N * C * Z * Y * X → length b ≡ N * C * Z * Y * X
        → SameElements d C Z Y X n a b ↔ (image_of N n a ≡ image_of N n b)
    same_elements a b d ea eb = (
      λ f. ext_get_or d (image_of N n a) (image_of N n b) (image_long a ea ∙ sym (image_long b eb)) (λ k l. element f k (omega (arith, image_long a ea))),
      λ e c z y x hc hz hy hx.
          sym (image_element a d ea c z y x hc hz hy hx) ∙ ap (λ (t : List A). get_or t (((c * Z + z) * Y + y) * X + x) d) e ∙ image_element b d eb c z y x hc hz hy hx,
    )
      where
        image_long : (t : List A) → length t ≡ N * C * Z * Y * X → length (image_of N n t) ≡ C * Z * Y * X
        image_long t e = image_length N (C * Z * Y * X) n t (size_is t e) h

        element : SameElements d C Z Y X n a b → (k : ℕ) → k < C * Z * Y * X → get_or (image_of N n a) k d ≡ get_or (image_of N n b) k d
        element f k l =
            let hx = mod_within (C * Z * Y) X l in
            let u = div_within (C * Z * Y) X l in
            let hy = mod_within (C * Z) Y u in
            let v = div_within (C * Z) Y u in
            let hz = mod_within C Z v in
            let hc = div_within C Z v in
            let c = k / X / Y / Z in
            let z = k / X / Y % Z in
            let y = k / X % Y in
            let x = k % X in
            ap (λ (p : ℕ). get_or (image_of N n a) p d) (sym (parts_are Z Y X k))
            ∙ image_element a d ea c z y x hc hz hy hx ∙ f c z y x hc hz hy hx ∙ sym (image_element b d eb c z y x hc hz hy hx)
            ∙ ap (λ (p : ℕ). get_or (image_of N n b) p d) (parts_are Z Y X k)
