-- The steps to a built-in surface: its base, and one generator after another.
use Rattle.std.proofs.Common.{◌≡◌, ◌∙◌, sym, ap, subst, refl, ℤ, pos, negsuc, List, [], ◌∷◌, Ok, true}
use Rattle.tri_atlas.specs.Moves.{flip}
use Rattle.surface_lib.specs.BuiltinSurfaces.{once_punctured_torus}
use Rattle.surface_lib.specs.Described.{Described}
use Rattle.surface_lib.specs.FlipsForms.{Flipped, flips_in}
use Rattle.surface_lib.specs.inside.ClosedForms.{IsClosedForm}
use Rattle.surface_lib.proofs.TestedRelabellings.{is_relabelling, tested}

-- the surface before its generators
abbrev pub start : Described → Described
start d = record { name = d.name; triangles = d.triangles; generators = [] }

pub started : (d s : Described) (base : List (List ℤ)) → s ≡ record { name = d.name; triangles = base; generators = [] }
    → base ≡ d.triangles → s ≡ start d
started d s base is same =
    is ∙ ap (λ (ts : List (List ℤ)). record { name = d.name; triangles = ts; generators = [] }) same

-- a form that passes the tests, on the triangles of a surface
pub closed : (d s : Described) (edges images : List ℤ) (f : Flipped) → s ≡ d → flips_in d.triangles edges ≡ Ok f
    → is_relabelling f.reached d.triangles images ≡ true → IsClosedForm s.triangles edges images
closed d s edges images f is made passes =
    subst (λ (t : Described). IsClosedForm t.triangles edges images) (sym is)
    (record {
      flips = f;
      flipped = made;
      relabelling = tested f.reached d.triangles images passes;
    })

-- the flip of edge 0 of the torus
abbrev pub torus_flip : Flipped
torus_flip = record {
  moves = flip (pos 0) (pos 1) (pos 2) (negsuc 1) (negsuc 2) ∷ [];
  reached = (pos 0 ∷ negsuc 2 ∷ pos 1 ∷ []) ∷ (negsuc 0 ∷ pos 2 ∷ negsuc 1 ∷ []) ∷ [];
}

pub flipped : flips_in once_punctured_torus.triangles (pos 0 ∷ []) ≡ Ok torus_flip
flipped = refl

abbrev pub none : List (List ℤ) → Flipped
none base = record { moves = []; reached = base }
