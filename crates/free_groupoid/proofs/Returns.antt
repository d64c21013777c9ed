-- Maps that undo each other, on walks; and inner maps from related ones.
use Rattle.std.proofs.Common.{ℕ, ℤ, List, [], ◌∷◌, ◌++◌, ◌≡◌, refl, sym, ◌∙◌, ap, subst}
use Rattle.std.specs.List.{flat_map}
use Rattle.std.proofs.lemmas.List.Concat.{flat_map-append}
use Rattle.ideal_tri.specs.Labels.{inverse}
use Rattle.ideal_tri.specs.Words.{reduce}
use Rattle.ideal_tri.specs.Triangulations.{IsLabel, IsWalk, triangle_of}
use Rattle.tri_atlas.specs.Maps.{IsMap, after}
use Rattle.free_groupoid.specs.Inner.{IsInner}
use Rattle.free_groupoid.specs.Related.{IsRelated}
use Rattle.free_groupoid.proofs.Known.{Known, Glued}
use Rattle.free_groupoid.proofs.Names.{flat_map-respects}
use Rattle.free_groupoid.proofs.InnerMaps.{triangle_returns}

-- two maps, each of which undoes the other
pub record AreInverse (source target : List (List ℤ)) (f g : ℤ → List ℤ) (f0 g0 : ℕ → ℕ) : Type 0 where
  pub there : IsMap source target f f0
  pub back : IsMap target source g g0
  pub there_back : (x : ℤ) → IsLabel source x → after g f x ≡ x ∷ []
  pub back_there : (x : ℤ) → IsLabel target x → after f g x ≡ x ∷ []

module _ (known : Known) where
  -- a walk there and back
  pub walk_returns : (source : List (List ℤ)) (f g : ℤ → List ℤ) → ((x : ℤ) → IsLabel source x → after g f x ≡ x ∷ [])
      → (i j : ℕ) (w : List ℤ) → IsWalk source i w j → reduce (flat_map g (flat_map f w)) ≡ reduce w
  walk_returns source f g h i j [] walk = refl
  walk_returns source f g h i j (x ∷ w) walk =
      ap reduce (flat_map-append g (f x) (flat_map f w))
      ∙ known.words.reduction.left (flat_map g (f x)) (x ∷ []) (flat_map g (flat_map f w))
      (sym (known.words.reduction.twice (flat_map g (f x))) ∙ ap reduce (h x walk.0))
      ∙ known.words.reduction.right (x ∷ []) (flat_map g (flat_map f w)) w
      (walk_returns source f g h (triangle_of source (inverse x)) j w walk.2)

  module _ (source target : List (List ℤ)) (from_glue : Glued source) (to_glue : Glued target) (f b : ℤ → List ℤ)
      (f0 b0 : ℕ → ℕ)
      (o : AreInverse source target f b f0 b0) (g : ℤ → List ℤ) (g0 : ℕ → ℕ) (m : IsMap source target g g0) where
    -- the second map and back along the first
    pub around_map : IsMap source source (after b g) (λ t. b0 (g0 t))
    around_map = known.maps.walks.compose source target source g b g0 b0 from_glue.triangulation m o.back

    -- is inner where the two are related
    pub related_around : (p : ℕ → List ℤ) → IsRelated source target f f0 g g0 p
        → IsInner source (after b g) (λ t. b0 (g0 t)) (λ t. flat_map b (p t))
    related_around p h = record {
      walks = λ t below.
          subst (λ (i : ℕ). IsWalk source i (flat_map b (p t)) (b0 (g0 t)))
          (triangle_returns source target from_glue f b f0 b0 o.there o.back o.there_back t below)
          (known.maps.walks.walks target source b b0 (f0 t) (g0 t) (p t) from_glue.triangulation o.back
          (h.walks t below));
      equations = λ x label.
          let here : List ℤ = p (triangle_of source x) in
          let there : List ℤ = p (triangle_of source (inverse x)) in
          known.words.reduction.right (flat_map b here) (after b g x) (flat_map b (g x))
          (known.words.reduction.twice (flat_map b (g x)))
          ∙ ap reduce (sym (flat_map-append b here (g x)))
          ∙ flat_map-respects known b (here ++ g x) (f x ++ there) o.back.odd (h.equations x label)
          ∙ ap reduce (flat_map-append b (f x) there)
          ∙ known.words.reduction.left (flat_map b (f x)) (x ∷ []) (flat_map b there)
          (sym (known.words.reduction.twice (flat_map b (f x))) ∙ ap reduce (o.there_back x label));
    }

    -- and where it is inner, the two are related
    pub around_related : (q : ℕ → List ℤ) → IsInner source (after b g) (λ t. b0 (g0 t)) q
        → IsRelated source target f f0 g g0 (λ t. flat_map f (q t))
    around_related q h = record {
      walks = λ t below.
          subst (IsWalk target (f0 t) (flat_map f (q t)))
          (triangle_returns target source to_glue b f b0 f0 o.back o.there o.back_there (g0 t) (m.within t below))
          (known.maps.walks.walks source target f f0 t (b0 (g0 t)) (q t) to_glue.triangulation o.there
          (h.walks t below));
      equations = λ x label.
          let here : List ℤ = q (triangle_of source x) in
          let there : List ℤ = q (triangle_of source (inverse x)) in
          let returns : reduce (flat_map f (flat_map b (g x))) ≡ reduce (g x) =
          walk_returns target b f o.back_there (g0 (triangle_of source x)) (g0 (triangle_of source (inverse x))) (g x)
          (m.walks x label) in
          known.words.reduction.right (flat_map f here) (g x) (flat_map f (after b g x))
          (sym returns ∙ sym (known.maps.substitutions.reduced_before f (flat_map b (g x)) o.there.odd))
          ∙ ap reduce (sym (flat_map-append f here (after b g x)))
          ∙ flat_map-respects known f (here ++ after b g x) (x ∷ there) o.there.odd (h.equations x label);
    }
