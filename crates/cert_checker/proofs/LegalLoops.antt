-- A closed legal walk is a closed walk from the triangle of its first letter: two letters that use a corner meet in its
-- triangle.
use Rattle.std.proofs.Common.{◌≡◌, ℕ, ℤ, List, [], ◌∷◌, ◌++◌, inl, inr, refl, sym, ◌∙◌, ap, subst}
use Rattle.std.specs.List.{All}
use Rattle.std.proofs.lemmas.List.Elements.{All-head, All-tail}
use Rattle.ideal_tri.specs.LabelLaws.{LabelLaws}
use Rattle.ideal_tri.specs.Labels.{inverse}
use Rattle.ideal_tri.specs.SurfaceLaws.{TriangleLaws}
use Rattle.ideal_tri.specs.Triangulations.{IsLabel, IsWalk, triangle_of}
use Rattle.train_track.specs.Tracks.{IsLegal, IsLegalPair}
use Rattle.carry_map.specs.Iterates.{IsLegalLoop}

module _ (triples : List (List ℤ)) (left_out : List ℤ) (labels : LabelLaws) (triangles : TriangleLaws triples) where
  meet : (u v : ℤ) → IsLabel triples u → IsLabel triples v → IsLegalPair triples left_out u v
      → triangle_of triples v ≡ triangle_of triples (inverse u)
  meet u v here there pair = elim pair.used [
    | inl (is, corner) ↦ ap (triangle_of triples) is ∙ triangles.stays (inverse u) (labels.label triples u here)
    | inr (is, corner) ↦ sym (ap (triangle_of triples) is ∙ triangles.stays v there)
  ]

  legal_walk : (x : ℤ) (w : List ℤ) (y : ℤ) → All (IsLabel triples) (x ∷ w) → IsLabel triples y
      → IsLegal triples left_out (x ∷ (w ++ (y ∷ [])))
      → IsWalk triples (triangle_of triples x) (x ∷ w) (triangle_of triples y)
  legal_walk x [] y are label legal =
      let here : IsLabel triples x = All-head (IsLabel triples) x [] are in (
        here,
        refl,
        sym (meet x y here label legal.0),
      )
  legal_walk x (z ∷ w) y are label legal =
      let here : IsLabel triples x = All-head (IsLabel triples) x (z ∷ w) are in
      let others : All (IsLabel triples) (z ∷ w) = All-tail (IsLabel triples) x (z ∷ w) are in (
        here,
        refl,
        subst (λ (t : ℕ). IsWalk triples t (z ∷ w) (triangle_of triples y))
            (meet x z here (All-head (IsLabel triples) z w others) legal.0)
            (legal_walk z w y others label legal.1),
      )

  pub closed_walk : (w : List ℤ) → IsLegalLoop triples left_out w → (t : ℕ) × IsWalk triples t w t
  closed_walk [] h = absurd (h.legal.0 refl)
  closed_walk (x ∷ w) h = (
    triangle_of triples x,
    legal_walk x w x h.labels (All-head (IsLabel triples) x w h.labels) h.legal.1,
  )
