-- From any label of a connected triangulation to all others: by sides of one triangle, and over edges.
use Rattle.std.proofs.Common.{ℕ, ℤ, List, [], ◌∷◌, ◌++◌, ◌≡◌, inl, inr, refl, sym, subst}
use Rattle.ideal_tri.specs.Labels.{inverse}
use Rattle.ideal_tri.specs.LabelLaws.{LabelLaws}
use Rattle.ideal_tri.specs.Words.{inverse_word}
use Rattle.ideal_tri.specs.Triangulations.{IsTriangulation, IsConnected, IsLabel, IsWalk, triangle_of, next}
use Rattle.ideal_tri.specs.SurfaceLaws.{SurfaceLaws, TriangleLaws, WalkLaws}

-- what holds of a label, of the one after each, and of the inverse of each, holds of all where the triangles are
-- connected
module _ (labels : LabelLaws) (surfaces : SurfaceLaws) (triples : List (List ℤ)) (h : IsTriangulation triples)
    (P : ℤ → Type 0) (goes_on : (x : ℤ) → IsLabel triples x → P x → P (next triples x))
    (goes_over : (x : ℤ) → P x → P (inverse x)) where
  triangles : TriangleLaws triples
  triangles = surfaces.triangles triples h

  walks : WalkLaws triples
  walks = surfaces.walks triples h

  -- it holds of all labels of the triangle t
  abbrev Throughout : ℕ → Type 0
  Throughout t = (z : ℤ) → IsLabel triples z → triangle_of triples z ≡ t → P z

  throughout : (x : ℤ) → IsLabel triples x → P x → Throughout (triangle_of triples x)
  throughout x label p z z_label same =
      elim (triangles.sides x z label z_label same) [
        | inl e ↦ subst P (sym e) p
        | inr (inl e) ↦ subst P (sym e) (goes_on x label p)
        | inr (inr e) ↦ subst P (sym e) (goes_on (next triples x) (triangles.label x label) (goes_on x label p))
      ]

  along_walk : (w : List ℤ) (s t : ℕ) → IsWalk triples s w t → Throughout s → Throughout t
  along_walk [] s t walk q = subst Throughout walk q
  along_walk (x ∷ w) s t walk q =
      along_walk w (triangle_of triples (inverse x)) t walk.2
      (throughout (inverse x) (labels.label triples x walk.0) (goes_over x (q x walk.0 walk.1)))

  pub holds_of_all : IsConnected triples → (x : ℤ) → IsLabel triples x → P x → (z : ℤ) → IsLabel triples z → P z
  holds_of_all connected x label p z z_label =
      let to_x = connected.reached (triangle_of triples x) (triangles.triangle x label) in
      let to_z = connected.reached (triangle_of triples z) (triangles.triangle z z_label) in
      along_walk (inverse_word to_x.letters ++ to_z.letters) (triangle_of triples x) (triangle_of triples z)
      (walks.join (triangle_of triples x) 0 (triangle_of triples z) (inverse_word to_x.letters) to_z.letters
      (walks.back 0 (triangle_of triples x) to_x.letters to_x.walk) to_z.walk)
      (throughout x label p) z z_label refl
