-- Worked drawings: curves that draw three multicurves, and their images under a relabelling.
use Rattle.std.specs.Prelude.{◌≡◌, ◌<◌, ℕ, ℤ, pos, negsuc, List, [], ◌∷◌, slice_index}
use Rattle.ideal_tri.specs.Curves.{crossings}
use Rattle.ideal_tri.specs.Strands.{State, IsDrawing, state_at, words_of}
use Rattle.tri_atlas.specs.Maps.{images_under, path_map}
use Rattle.tri_atlas.specs.Moves.{relabel}

-- ---- the once-punctured torus

abbrev pub torus : List (List ℤ)
torus = (pos 0 ∷ pos 1 ∷ pos 2 ∷ []) ∷ (negsuc 0 ∷ negsuc 1 ∷ negsuc 2 ∷ []) ∷ []

-- the curve that crosses the edges 0 and 1 once, at this place
abbrev pub torus_curve : ℕ → List State
torus_curve place = state_at (pos 0) place ∷ state_at (negsuc 1) place ∷ []

-- ---- the three-punctured sphere

abbrev pub sphere : List (List ℤ)
sphere = (pos 0 ∷ pos 1 ∷ pos 2 ∷ []) ∷ (negsuc 0 ∷ negsuc 2 ∷ negsuc 1 ∷ []) ∷ []

-- the images of its rotation
abbrev pub rotation : List ℤ
rotation = pos 1 ∷ pos 2 ∷ pos 0 ∷ []

-- two curves: across the edges 0 and 2, and across 0 and 1
abbrev pub sphere_curves : List (List State)
sphere_curves =
    (state_at (pos 0) 0 ∷ state_at (negsuc 2) 0 ∷ [])
    ∷ (state_at (pos 0) 1 ∷ state_at (negsuc 1) 0 ∷ []) ∷ []

-- their images: across the edges 1 and 0, and across 1 and 2
abbrev pub rotated_curves : List (List State)
rotated_curves =
    (state_at (pos 1) 0 ∷ state_at (negsuc 0) 0 ∷ [])
    ∷ (state_at (pos 1) 1 ∷ state_at (negsuc 2) 0 ∷ []) ∷ []

-- ---- the drawings

pub record WorkedDrawings : Type 0 where
  -- a curve, and two curves side by side
  pub one_curve : IsDrawing torus (1 ∷ 1 ∷ 0 ∷ []) (torus_curve 0 ∷ [])
  pub two_curves : IsDrawing torus (2 ∷ 2 ∷ 0 ∷ []) (torus_curve 0 ∷ torus_curve 1 ∷ [])
  -- two curves that part, and their images, which draw the vector that is printed
  pub parting : IsDrawing sphere (2 ∷ 1 ∷ 1 ∷ []) sphere_curves
  pub rotated : IsDrawing sphere (1 ∷ 2 ∷ 1 ∷ []) rotated_curves
  pub images : images_under (path_map (relabel rotation ∷ [])) (words_of sphere_curves)
      ≡ words_of rotated_curves
  pub counts : (e : ℕ) → e < 3
      → slice_index (1 ∷ 2 ∷ 1 ∷ []) e ≡ crossings e (words_of rotated_curves)
