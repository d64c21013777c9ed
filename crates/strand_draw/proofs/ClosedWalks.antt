-- The walks along words, and along closed words.
use Rattle.std.proofs.Common.{ℕ, ℤ, List, [], ◌∷◌, ◌≡◌, refl, sym, ap, subst, map}
use Rattle.std.specs.List.{All}
use Rattle.std.proofs.lemmas.List.Elements.{All-map, All-weaker}
use Rattle.ideal_tri.specs.Triangulations.{IsTriangulation, IsWalk}
use Rattle.ideal_tri.specs.SurfaceLaws.{TriangleLaws}
use Rattle.free_groupoid.specs.Walks.{IsClosedOn, walk_of_letters}

module _ (triples : List (List ℤ)) (sound : IsTriangulation triples) (laws : TriangleLaws triples) where
  closed_along : (word : List ℤ) → (t : ℕ) × IsWalk triples t word t → IsClosedOn triples (walk_of_letters triples word)
  closed_along [] h = record { start_in = sound.some; closed = refl }
  closed_along (x ∷ word) (t, walk) = record {
    start_in = laws.triangle x walk.0;
    closed = subst (λ (s : ℕ). IsWalk triples s (x ∷ word) s) (sym walk.1) walk;
  }

  pub all_closed : (words : List (List ℤ)) → All (λ word. (t : ℕ) × IsWalk triples t word t) words
      → All (IsClosedOn triples) (map (walk_of_letters triples) words)
  all_closed words h =
      All-map (IsClosedOn triples) (walk_of_letters triples) words
      (All-weaker (λ word. (t : ℕ) × IsWalk triples t word t) (λ word. IsClosedOn triples (walk_of_letters triples word))
      closed_along words h)

pub letters-along : (triples : List (List ℤ)) (words : List (List ℤ))
    → map (λ v. v.letters) (map (walk_of_letters triples) words) ≡ words
letters-along triples [] = refl
letters-along triples (word ∷ words) = ap (λ (z : List (List ℤ)). word ∷ z) (letters-along triples words)
