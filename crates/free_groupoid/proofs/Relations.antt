-- Related maps: the equation along walks, an equivalence, and what a map before or after both does.
--
-- The equation p g(x) = f(x) q at letters, up to reduction, extends to walks letter by letter. Maps are related to
-- themselves by empty walks; backwards by the inverse walks, solving the equation for the other side; and along a
-- third map by the walks one after the other. A map applied to the equation gives that of the two maps followed by
-- it; the equation along the images of letters gives that of the two maps after it. A map is inner exactly where it
-- is related to the identity: the two definitions say the same.
use Rattle.std.proofs.Common.{ℕ, ℤ, List, [], ◌∷◌, ◌++◌, ◌≡◌, refl, sym, ◌∙◌, ap, append_assoc}
use Rattle.std.specs.List.{flat_map}
use Rattle.std.proofs.lemmas.List.{append-nil}
use Rattle.std.proofs.lemmas.List.Concat.{flat_map-append}
use Rattle.ideal_tri.specs.Labels.{inverse}
use Rattle.ideal_tri.specs.Words.{inverse_word, reduce}
use Rattle.ideal_tri.specs.Triangulations.{IsTriangulation, IsWalk, triangle_of}
use Rattle.ideal_tri.specs.SurfaceLaws.{SurfaceLaws, WalkLaws}
use Rattle.tri_atlas.specs.Maps.{IsMap, identity, after}
use Rattle.free_groupoid.specs.Inner.{IsInner}
use Rattle.free_groupoid.specs.Related.{IsRelated}
use Rattle.free_groupoid.specs.RelatedLaws.{RelationLaws}
use Rattle.free_groupoid.proofs.Known.{Known}
use Rattle.free_groupoid.proofs.Names.{+0, -0, +1, +2, +3, -3, +4, +5, +6, by_fact, flat_map-respects}

module _ (known : Known) where
  -- the equation holds for each walk
  pub related_along : (source target : List (List ℤ)) (f g : ℤ → List ℤ) (f0 g0 : ℕ → ℕ) (p : ℕ → List ℤ)
      → IsRelated source target f f0 g g0 p → (i j : ℕ) (w : List ℤ) → IsWalk source i w j
      → reduce (p i ++ flat_map g w) ≡ reduce (flat_map f w ++ p j)
  related_along source target f g f0 g0 p h i j [] walk = ap reduce (append-nil (p i) ∙ ap p walk)
  related_along source target f g f0 g0 p h i j (x ∷ w) walk =
      by_fact known names (+0 ∷ +1 ∷ +2 ∷ []) (+3 ∷ +4 ∷ +2 ∷ []) [] (+0 ∷ +1 ∷ []) (+3 ∷ +4 ∷ []) (+2 ∷ []) refl
      (ap (λ (k : ℕ). reduce (p k ++ g x)) (sym walk.1) ∙ h.equations x walk.0) refl
      ∙ by_fact known names (+3 ∷ +4 ∷ +2 ∷ []) (+3 ∷ +5 ∷ +6 ∷ []) (+3 ∷ []) (+4 ∷ +2 ∷ []) (+5 ∷ +6 ∷ []) [] refl
      (related_along source target f g f0 g0 p h between j w walk.2) refl
      ∙ ap reduce (sym (append_assoc (f x) (flat_map f w) (p j)))
    where
      between : ℕ
      between = triangle_of source (inverse x)

      names : List (List ℤ)
      names = p i ∷ g x ∷ flat_map g w ∷ f x ∷ p between ∷ flat_map f w ∷ p j ∷ []

  -- ---- an equivalence

  related_same : (source target : List (List ℤ)) (f : ℤ → List ℤ) (f0 : ℕ → ℕ)
      → IsRelated source target f f0 f f0 (λ t. [])
  related_same source target f f0 =
      record { walks = λ t below. refl; equations = λ x label. ap reduce (sym (append-nil (f x))) }

  related_back : (source target : List (List ℤ)) → WalkLaws target → (f g : ℤ → List ℤ) (f0 g0 : ℕ → ℕ) (p : ℕ → List ℤ)
      → IsRelated source target f f0 g g0 p → IsRelated source target g g0 f f0 (λ t. inverse_word (p t))
  related_back source target walks f g f0 g0 p h = record {
    walks = λ t below. walks.back (f0 t) (g0 t) (p t) (h.walks t below);
    equations = λ x label.
        by_fact known (p (triangle_of source x) ∷ g x ∷ f x ∷ p (triangle_of source (inverse x)) ∷ []) (-0 ∷ +2 ∷ [])
        (+1 ∷ -3 ∷ [])
        (-0 ∷ []) (+2 ∷ +3 ∷ []) (+0 ∷ +1 ∷ []) (-3 ∷ []) refl (sym (h.equations x label)) refl;
  }

  related_join : (source target : List (List ℤ)) → WalkLaws target
      → (f g k : ℤ → List ℤ) (f0 g0 k0 : ℕ → ℕ) (p q : ℕ → List ℤ)
      → IsRelated source target f f0 g g0 p → IsRelated source target g g0 k k0 q
      → IsRelated source target f f0 k k0 (λ t. p t ++ q t)
  related_join source target walks f g k f0 g0 k0 p q h m = record {
    walks = λ t below. walks.join (f0 t) (g0 t) (k0 t) (p t) (q t) (h.walks t below) (m.walks t below);
    equations = λ x label.
        ap reduce (append_assoc (p (triangle_of source x)) (q (triangle_of source x)) (k x))
        ∙ known.words.reduction.right (p (triangle_of source x)) (q (triangle_of source x) ++ k x)
        (g x ++ q (triangle_of source (inverse x))) (m.equations x label)
        ∙ ap reduce (sym (append_assoc (p (triangle_of source x)) (g x) (q (triangle_of source (inverse x)))))
        ∙ known.words.reduction.left (p (triangle_of source x) ++ g x) (f x ++ p (triangle_of source (inverse x)))
        (q (triangle_of source (inverse x))) (h.equations x label)
        ∙ ap reduce (append_assoc (f x) (p (triangle_of source (inverse x))) (q (triangle_of source (inverse x))));
  }

  -- ---- a map after both, and before both

  related_followed : (source target last : List (List ℤ)) → IsTriangulation last
      → (f g k : ℤ → List ℤ) (f0 g0 k0 : ℕ → ℕ) (p : ℕ → List ℤ)
      → IsMap target last k k0 → IsRelated source target f f0 g g0 p
      → IsRelated source last (after k f) (λ t. k0 (f0 t)) (after k g) (λ t. k0 (g0 t)) (λ t. flat_map k (p t))
  related_followed source target last tri f g k f0 g0 k0 p m h = record {
    walks = λ t below. known.maps.walks.walks target last k k0 (f0 t) (g0 t) (p t) tri m (h.walks t below);
    equations = λ x label.
        let before : List ℤ = p (triangle_of source x) in
        let behind : List ℤ = p (triangle_of source (inverse x)) in
        known.words.reduction.right (flat_map k before) (after k g x) (flat_map k (g x))
        (known.words.reduction.twice (flat_map k (g x)))
        ∙ ap reduce (sym (flat_map-append k before (g x)))
        ∙ flat_map-respects known k (before ++ g x) (f x ++ behind) m.odd (h.equations x label)
        ∙ ap reduce (flat_map-append k (f x) behind)
        ∙ known.words.reduction.left (flat_map k (f x)) (after k f x) (flat_map k behind)
        (sym (known.words.reduction.twice (flat_map k (f x))));
  }

  related_preceded : (first source target : List (List ℤ)) (k f g : ℤ → List ℤ) (k0 f0 g0 : ℕ → ℕ) (p : ℕ → List ℤ)
      → IsMap first source k k0 → IsRelated source target f f0 g g0 p
      → IsRelated first target (after f k) (λ t. f0 (k0 t)) (after g k) (λ t. g0 (k0 t)) (λ t. p (k0 t))
  related_preceded first source target k f g k0 f0 g0 p m h = record {
    walks = λ t below. h.walks (k0 t) (m.within t below);
    equations = λ x label.
        let before : List ℤ = p (k0 (triangle_of first x)) in
        let behind : List ℤ = p (k0 (triangle_of first (inverse x))) in
        known.words.reduction.right before (after g k x) (flat_map g (k x))
        (known.words.reduction.twice (flat_map g (k x)))
        ∙ related_along source target f g f0 g0 p h (k0 (triangle_of first x)) (k0 (triangle_of first (inverse x)))
        (k x) (m.walks x label)
        ∙ known.words.reduction.left (flat_map f (k x)) (after f k x) behind
        (sym (known.words.reduction.twice (flat_map f (k x))));
  }

-- ---- inner maps are those related to the identity

pub related_inner : (triples : List (List ℤ)) (f : ℤ → List ℤ) (f0 : ℕ → ℕ) (p : ℕ → List ℤ)
    → IsRelated triples triples identity (λ t. t) f f0 p → IsInner triples f f0 p
related_inner triples f f0 p h = record { walks = h.walks; equations = h.equations }

pub inner_related : (triples : List (List ℤ)) (f : ℤ → List ℤ) (f0 : ℕ → ℕ) (p : ℕ → List ℤ)
    → IsInner triples f f0 p → IsRelated triples triples identity (λ t. t) f f0 p
inner_related triples f f0 p h = record { walks = h.walks; equations = h.equations }

pub relation_laws : Known → SurfaceLaws → RelationLaws
relation_laws known surface = record {
  same = related_same known;
  back = λ source target f g f0 g0 p tri. related_back known source target (surface.walks target tri) f g f0 g0 p;
  join =
      λ source target f g k f0 g0 k0 p q tri. related_join known source target (surface.walks target tri) f g k f0 g0
      k0 p q;
  followed = λ source target last f g k f0 g0 k0 p tri. related_followed known source target last tri f g k f0 g0 k0 p;
  preceded = related_preceded known;
  inner = related_inner;
}
