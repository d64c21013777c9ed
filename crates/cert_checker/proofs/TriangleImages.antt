-- Where a map of walks sends the triangles: the first letter of the image of a side fixes it. And the map of a path
-- sends no letter to the empty walk, since the path and the way back give each letter back.
use Rattle.std.proofs.Common.{ℕ, ℤ, pos, List, [], ◌∷◌, ◌≡◌, ◌≢◌, ◌<◌, refl, sym, ◌∙◌, ap, arith}
use Rattle.std.proofs.Common.{length, get_or}
use Rattle.std.specs.List.{flat_map}
use Rattle.std.proofs.lemmas.List.Elements.{Contains-get_or}
use Rattle.ideal_tri.specs.Words.{reduce}
use Rattle.ideal_tri.specs.SurfaceLaws.{SurfaceLaws}
use Rattle.ideal_tri.specs.Triangulations.{IsTriangulation, IsLabel, IsWalk, triangle_of}
use Rattle.tri_atlas.specs.MapLaws.{PathLaws}
use Rattle.tri_atlas.specs.Maps.{IsMap, path_map}
use Rattle.tri_atlas.specs.Moves.{Move, ArePath, back_along}

-- a walk that is not empty starts in one triangle alone
starts_once : (triples : List (List ℤ)) (w : List ℤ) (s s' t t' : ℕ) → w ≢ [] → IsWalk triples s w t
    → IsWalk triples s' w t' → s ≡ s'
starts_once triples [] s s' t t' some here there = absurd (some refl)
starts_once triples (x ∷ w) s s' t t' some here there = sym here.1 ∙ there.1

-- each triangle has a side
pub side_of_triangle : SurfaceLaws → (triples : List (List ℤ)) → IsTriangulation triples → (t : ℕ)
    → t < length triples → (x : ℤ) × IsLabel triples x × (triangle_of triples x ≡ t)
side_of_triangle surface triples sound t inside =
    let three : length (get_or triples t []) ≡ 3 = sound.three_sides t [] inside in
    let (label, here) = (surface.triangles triples sound).listed t (get_or (get_or triples t []) 0 (pos 0)) inside
    (Contains-get_or (get_or triples t []) 0 (pos 0) (omega (arith, three))) in
    (get_or (get_or triples t []) 0 (pos 0), label, here)

-- a map sends the triangles to one place each
pub unique : SurfaceLaws → (triples target : List (List ℤ)) (f : ℤ → List ℤ) (g h : ℕ → ℕ) → IsTriangulation triples
    → IsMap triples target f g → IsMap triples target f h
    → ((x : ℤ) → IsLabel triples x → f x ≢ []) → (t : ℕ) → t < length triples → g t ≡ h t
unique surface triples target f g h sound first second some t inside =
    let (x, label, here) = side_of_triangle surface triples sound t inside in
    ap g (sym here)
    ∙ starts_once target (f x) _ _ _ _ (some x label) (first.walks x label) (second.walks x label)
    ∙ ap h here

pub nonempty : PathLaws → (triples target : List (List ℤ)) (moves : List Move) → IsTriangulation triples
    → ArePath triples moves target → (x : ℤ) → IsLabel triples x → path_map moves x ≢ []
nonempty laws triples target moves sound path x label none =
    let back : List Move = back_along moves in
    let no_letter : [] ≡ x ∷ [] =
    ap (λ (w : List ℤ). reduce (flat_map (path_map back) w)) (sym none) ∙ sym (laws.join moves back x)
    ∙ laws.undo triples target moves x sound path label in
    let long : length {A = ℤ} [] ≡ length (x ∷ []) = ap (λ (w : List ℤ). length w) no_letter in
    absurd (omega (arith, long))
