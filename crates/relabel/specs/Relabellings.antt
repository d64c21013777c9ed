-- Relabellings that take one label to a given one.
use Rattle.std.specs.Prelude.{◌≡◌, ◌≢◌, ℤ, List}
use Rattle.ideal_tri.specs.Relabellings.{image_of, IsRelabelling}

-- the one relabelling that takes x to y
pub record IsTheOne (from to : List (List ℤ)) (x y : ℤ) (images : List ℤ) : Type 0 where
  pub relabels : IsRelabelling from to images
  pub takes : image_of images x ≡ y
  pub only : (others : List ℤ) → IsRelabelling from to others → image_of others x ≡ y
      → others ≡ images

-- no relabelling takes x to y
abbrev pub NoneTakes : List (List ℤ) → List (List ℤ) → ℤ → ℤ → Type 0
NoneTakes from to x y = (images : List ℤ) → IsRelabelling from to images → image_of images x ≢ y
