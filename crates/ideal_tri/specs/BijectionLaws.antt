-- What holds of the images of labels, of bijections of labels, and of their inverse images.
use Rattle.std.specs.Prelude.{◌≡◌, ◌<◌, ◌≤◌, ℕ, ℤ, pos, List, length, map, slice_index_or, All}
use Rattle.ideal_tri.specs.Labels.{inverse, edge_of, with_sign_of}
use Rattle.ideal_tri.specs.Words.{IsReduced, IsCyclicallyReduced}
use Rattle.ideal_tri.specs.Relabellings.{image_of, hits, IsBijection, origin_of, inverse_images}

-- the labels of as many edges as there are images
abbrev pub AreMapped : List ℤ → List ℤ → Type 0
AreMapped images w = All (λ x. edge_of x < length images) w

pub record BijectionLaws : Type 0 where
  -- ---- images
  pub inverse : (images : List ℤ) (x : ℤ)
      → image_of images (inverse x) ≡ inverse (image_of images x)
  pub is : (images : List ℤ) (x : ℤ)
      → image_of images x ≡ with_sign_of x (slice_index_or images (edge_of x) (pos 0))
  pub edge : (images : List ℤ) (x : ℤ)
      → edge_of (image_of images x) ≡ edge_of (slice_index_or images (edge_of x) (pos 0))
  pub in_range : (images : List ℤ) (n : ℕ) (x : ℤ) → All (λ y. edge_of y < n) images
      → edge_of x < length images
      → edge_of (image_of images x) < n
  pub through : (images others : List ℤ) (x : ℤ) → edge_of x < length images
      → image_of (map (image_of others) images) x ≡ image_of others (image_of images x)
  -- ---- bijections
  pub once : (images : List ℤ) → IsBijection images → (e : ℕ) → hits images e ≤ 1
  pub one_edge : (images : List ℤ) (x y : ℤ) → IsBijection images → edge_of x < length images
      → edge_of y < length images
      → edge_of (image_of images x) ≡ edge_of (image_of images y) → edge_of x ≡ edge_of y
  pub one : (images : List ℤ) (x y : ℤ) → IsBijection images → edge_of x < length images
      → edge_of y < length images
      → image_of images x ≡ image_of images y → x ≡ y
  pub onto : (images : List ℤ) (y : ℤ) → IsBijection images → edge_of y < length images
      → (x : ℤ) × (edge_of x < length images) × (image_of images x ≡ y)
  pub composed : (images others : List ℤ) → IsBijection images → IsBijection others
      → length images ≡ length others
      → IsBijection (map (image_of others) images)
  -- ---- the images of words
  pub hits : (images w : List ℤ) (e : ℕ) → IsBijection images → AreMapped images w
      → e < length images
      → hits (map (image_of images) w) (edge_of (image_of images (pos e))) ≡ hits w e
  pub reduced : (images w : List ℤ) → IsBijection images → AreMapped images w → IsReduced w
      → IsReduced (map (image_of images) w)
  pub cyclically_reduced : (images w : List ℤ) → IsBijection images → AreMapped images w
      → IsCyclicallyReduced w → IsCyclicallyReduced (map (image_of images) w)
  -- ---- the inverse images are the bijection backwards, and the only such images
  pub origin : (images : List ℤ) (x : ℤ) → edge_of x < length images
      → image_of (inverse_images images) x ≡ origin_of images x
  pub back : (images : List ℤ) → IsBijection images → IsBijection (inverse_images images)
  pub as_many : (images : List ℤ) → length (inverse_images images) ≡ length images
  pub there_and_back : (images : List ℤ) (x : ℤ) → IsBijection images → edge_of x < length images
      → image_of (inverse_images images) (image_of images x) ≡ x
  pub back_and_there : (images : List ℤ) (x : ℤ) → IsBijection images → edge_of x < length images
      → image_of images (image_of (inverse_images images) x) ≡ x
  pub only_back : (images others : List ℤ) → IsBijection images → length others ≡ length images
      → ((x : ℤ) → edge_of x < length images → image_of others (image_of images x) ≡ x)
      → others ≡ inverse_images images
  pub twice : (images : List ℤ) → IsBijection images
      → inverse_images (inverse_images images) ≡ images
