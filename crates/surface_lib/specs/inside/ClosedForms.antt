-- Generators with flips and a relabelling that have no fault.
use Rattle.std.specs.Prelude.{◌≡◌, ◌++◌, [], ◌∷◌, ℕ, ℤ, List, Ok}
use Rattle.ideal_tri.specs.Relabellings.{IsRelabelling}
use Rattle.tri_atlas.specs.Moves.{Move}
use Rattle.surface_lib.specs.Described.{Described}
use Rattle.surface_lib.specs.FlipsForms.{Flipped, flips_in}

-- the edges can be flipped, one after another, and the images are those of a relabelling of what
-- the flips lead to onto the base
pub record IsClosedForm (base : List (List ℤ)) (edges images : List ℤ) : Type 0 where
  pub flips : Flipped
  pub flipped : flips_in base edges ≡ Ok flips
  pub relabelling : IsRelabelling flips.reached base images

-- one more generator, behind the others
abbrev pub with_generator : Described → List ℕ → List Move → Described
with_generator before spelt moves = record {
  name = before.name;
  triangles = before.triangles;
  generators = before.generators ++ record { spelt = spelt; moves = moves } ∷ [];
}
