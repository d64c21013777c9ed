-- Maps of walks: the image of a walk is a walk, and one map may follow another.
use Rattle.std.proofs.Common.{ℕ, ℤ, List, [], ◌∷◌, ◌≡◌, refl, sym, ◌∙◌, ap, subst}
use Rattle.std.specs.List.{flat_map}
use Rattle.ideal_tri.specs.Labels.{inverse}
use Rattle.ideal_tri.specs.Words.{inverse_word, reduce}
use Rattle.ideal_tri.specs.Triangulations.{IsTriangulation, IsWalk, triangle_of}
use Rattle.tri_atlas.specs.Maps.{identity, after, IsMap}
use Rattle.tri_atlas.specs.MapLaws.{WalkMapLaws}
use Rattle.tri_atlas.proofs.LowerLaws.{LowerLaws}
use Rattle.tri_atlas.proofs.Substitutions.{IsOdd-after}

pub IsMap-identity : (triples : List (List ℤ)) → IsMap triples triples identity (λ t. t)
IsMap-identity triples = record { odd = λ x. refl; within = λ t l. l; walks = λ x l. (l, refl, refl) }

-- the same map, by another name
pub IsMap-same : (source target : List (List ℤ)) (f f' : ℤ → List ℤ) (g : ℕ → ℕ) → ((x : ℤ) → f x ≡ f' x)
    → IsMap source target f g → IsMap source target f' g
IsMap-same source target f f' g e h = record {
  odd = λ x. sym (e (inverse x)) ∙ h.odd x ∙ ap inverse_word (e x);
  within = h.within;
  walks = λ x l. subst (λ (w : List ℤ). IsWalk target (g (triangle_of source x)) w (g (triangle_of source (inverse x))))
      (e x) (h.walks x l);
}

module _ (laws : LowerLaws) where
  pub image_of_walk : (source target : List (List ℤ)) (f : ℤ → List ℤ) (g : ℕ → ℕ) (s t : ℕ) (w : List ℤ)
      → IsTriangulation target → IsMap source target f g → IsWalk source s w t
      → IsWalk target (g s) (flat_map f w) (g t)
  image_of_walk source target f g s t [] sound h walk = ap g walk
  image_of_walk source target f g s t (x ∷ w) sound h (label, at, rest) =
      (laws.surfaces.walks target sound).join (g s) (g (triangle_of source (inverse x))) (g t) (f x) (flat_map f w)
      (subst (λ (r : ℕ). IsWalk target (g r) (f x) (g (triangle_of source (inverse x)))) at (h.walks x label))
      (image_of_walk source target f g (triangle_of source (inverse x)) t w sound h rest)

  pub reduced_image_of_walk : (source target : List (List ℤ)) (f : ℤ → List ℤ) (g : ℕ → ℕ) (s t : ℕ) (w : List ℤ)
      → IsTriangulation target → IsMap source target f g → IsWalk source s w t
      → IsWalk target (g s) (reduce (flat_map f w)) (g t)
  reduced_image_of_walk source target f g s t w sound h walk =
      (laws.surfaces.walks target sound).reduced (g s) (g t) (flat_map f w)
      (image_of_walk source target f g s t w sound h walk)

  pub IsMap-after : (source between target : List (List ℤ)) (f f' : ℤ → List ℤ) (g g' : ℕ → ℕ)
      → IsTriangulation target → IsMap source between f g → IsMap between target f' g'
      → IsMap source target (after f' f) (λ t. g' (g t))
  IsMap-after source between target f f' g g' sound h k = record {
    odd = IsOdd-after laws f f' h.odd k.odd;
    within = λ t l. k.within (g t) (h.within t l);
    walks = λ x l. reduced_image_of_walk between target f' g' _ _ (f x) sound k (h.walks x l);
  }

  pub walk_map_laws : WalkMapLaws
  walk_map_laws = record {
    walks = image_of_walk;
    reduced = reduced_image_of_walk;
    identity = IsMap-identity;
    compose = IsMap-after;
  }
