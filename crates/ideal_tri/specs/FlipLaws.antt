-- What holds of the flip of an edge.
use Rattle.std.specs.Prelude.{◌≡◌, ◌≢◌, ℕ, ℤ, List, [], ◌∷◌}
use Rattle.ideal_tri.specs.Labels.{inverse}
use Rattle.ideal_tri.specs.Triangulations.{IsTriangulation, IsConnected, IsLabel, IsReached}
use Rattle.ideal_tri.specs.Triangulations.{edge_count, triangle_of, next, previous}
use Rattle.ideal_tri.specs.Flips.{IsFlippable, flipped}
use Rattle.ideal_tri.specs.Refusals.{IsDistinct}

-- the six sides of the two triangles (e,a,b) and (~e,c,d)
abbrev pub quadrilateral : List (List ℤ) → ℤ → List ℤ
quadrilateral triples e =
    e ∷ (next triples e ∷ (previous triples e ∷
    (inverse e ∷ (next triples (inverse e) ∷ (previous triples (inverse e) ∷ [])))))

-- x is none of the six
abbrev pub IsOutside : List (List ℤ) → ℤ → ℤ → Type 0
IsOutside triples e x =
    (x ≢ e) × (x ≢ next triples e) × (x ≢ previous triples e)
    × (x ≢ inverse e) × (x ≢ next triples (inverse e)) × (x ≢ previous triples (inverse e))

-- one flip: (e,a,b) and (~e,c,d) become (e,d,a) and (~e,b,c)
pub record OneFlipLaws (triples : List (List ℤ)) (e : ℤ) : Type 0 where
  pub triangulation : IsTriangulation (flipped triples e)
  pub edges : edge_count (flipped triples e) ≡ edge_count triples
  -- what a walk joins stays joined
  pub reached : (s t : ℕ) → IsReached triples s t → IsReached (flipped triples e) s t
  pub connected : IsConnected triples → IsConnected (flipped triples e)
  pub other_side : flipped triples (inverse e) ≡ flipped triples e
  pub different : IsDistinct (quadrilateral triples e)
  pub after_e : next (flipped triples e) e ≡ previous triples (inverse e)
  pub after_d : next (flipped triples e) (previous triples (inverse e)) ≡ next triples e
  pub after_a : next (flipped triples e) (next triples e) ≡ e
  pub after_inverse : next (flipped triples e) (inverse e) ≡ previous triples e
  pub after_b : next (flipped triples e) (previous triples e) ≡ next triples (inverse e)
  pub after_c : next (flipped triples e) (next triples (inverse e)) ≡ inverse e
  pub after_other : (x : ℤ) → IsLabel triples x → IsOutside triples e x
      → next (flipped triples e) x ≡ next triples x
  pub moved_b : triangle_of (flipped triples e) (previous triples e)
      ≡ triangle_of triples (inverse e)
  pub moved_d : triangle_of (flipped triples e) (previous triples (inverse e))
      ≡ triangle_of triples e
  pub stays : (x : ℤ) → IsLabel triples x → x ≢ previous triples e
      → x ≢ previous triples (inverse e)
      → triangle_of (flipped triples e) x ≡ triangle_of triples x

-- for every flippable label of a triangulation
pub record FlipLaws : Type 0 where
  pub flips : (triples : List (List ℤ)) (e : ℤ) → IsTriangulation triples → IsLabel triples e
      → IsFlippable triples e → OneFlipLaws triples e
