-- Two maps, the first with an inverse, are related exactly where they are alike at each test walk.
use Rattle.std.proofs.Common.{ℕ, ℤ, List, [], ◌∷◌, ◌≡◌, ◌<◌, sym, ◌∙◌, subst, length, slice_index_or}
use Rattle.std.specs.List.{All, flat_map}
use Rattle.ideal_tri.specs.Words.{reduce, cyclic_reduce, IsRotation}
use Rattle.ideal_tri.specs.Triangulations.{IsWalk, triangle_of}
use Rattle.tri_atlas.specs.Maps.{IsMap, after}
use Rattle.free_groupoid.specs.TestWalks.{test_walks}
use Rattle.free_groupoid.specs.Inner.{IsKept}
use Rattle.free_groupoid.specs.InnerLaws.{IsReducedLoop}
use Rattle.free_groupoid.specs.Related.{IsRelated, AreAlikeAt}
use Rattle.free_groupoid.specs.inside.InnerPaths.{inner_path}
use Rattle.free_groupoid.proofs.Names.{flat_map-respects}
use Rattle.free_groupoid.proofs.Carrying.{Carries, carries_image, carries_same, carries-rotation, rotation-carries}
use Rattle.free_groupoid.proofs.Carrying.{carries-alike}
use Rattle.free_groupoid.proofs.Known.{Glued, Laws, glue_of}
use Rattle.free_groupoid.proofs.Relations.{related_along}
use Rattle.free_groupoid.proofs.ClosedWords.{each_closed, test_loops}
use Rattle.free_groupoid.proofs.ComputedPaths.{kept_inner}
use Rattle.free_groupoid.proofs.InnerTest.{same_walks}
use Rattle.free_groupoid.proofs.Returns.{AreInverse, walk_returns, around_map, related_around, around_related}

module _ (source target : List (List ℤ)) (l : Laws source) (to_glue : Glued target) (f g : ℤ → List ℤ) (f0 g0 : ℕ → ℕ)
    (of_f : IsMap source target f f0) (of_g : IsMap source target g g0) where
  -- ---- related maps are alike

  closed_alike : (p : ℕ → List ℤ) → IsRelated source target f f0 g g0 p → (t : ℕ) (w : List ℤ) → IsWalk source t w t
      → AreAlikeAt f g (cyclic_reduce w)
  closed_alike p h t w walk =
      carries-alike l.known f g (p t) w of_f.odd of_g.odd
      (sym (related_along l.known source target f g f0 g0 p h t t w walk))

  pub related_alike : (p : ℕ → List ℤ) → IsRelated source target f f0 g g0 p → All (AreAlikeAt f g) (test_walks source)
  related_alike p h = each_closed source l (AreAlikeAt f g) (closed_alike p h)

  -- ---- maps that are alike are related

  module _ (b : ℤ → List ℤ) (b0 : ℕ → ℕ) (o : AreInverse source target f b f0 b0) where
    -- where the two are alike at a reduced loop, the one map around keeps it
    alike_kept : (v : List ℤ) → IsReducedLoop source v → AreAlikeAt f g v → IsKept (after b g) v
    alike_kept (x ∷ v) shape alike =
        let w : List ℤ = x ∷ v in
        let (q, carries) = rotation-carries l.known (flat_map f w) (flat_map g w) alike in
        let returned : Carries (flat_map b q) w (flat_map (after b g) w) =
        carries_same l.known (flat_map b q) (flat_map b (flat_map f w)) (flat_map b (flat_map g w)) w
        (flat_map (after b g) w)
        (walk_returns l.known source f b o.there_back (triangle_of source x) (triangle_of source x) w shape.0)
        (sym (l.known.maps.substitutions.compose g b w of_g.odd o.back.odd))
        (carries_image l.known b q (flat_map f w) (flat_map g w) o.back.odd carries) in
        l.known.words.rotations.back w (cyclic_reduce (flat_map (after b g) w))
        (subst (λ (z : List ℤ). IsRotation z (cyclic_reduce (flat_map (after b g) w)))
        (l.known.words.cyclic.fixed w shape.1)
        (carries-rotation l.known (flat_map b q) w (flat_map (after b g) w) returned))
    alike_kept [] shape alike = absurd shape

    all_kept : All (AreAlikeAt f g) (test_walks source) → All (IsKept (after b g)) (test_walks source)
    all_kept alike =
        λ k d below. alike_kept (slice_index_or (test_walks source) k d) (test_loops source l k d below)
        (alike k d below)

    pub alike_related : All (AreAlikeAt f g) (test_walks source)
        → (p : ℕ → List ℤ) × IsRelated source target f f0 g g0 p
    alike_related alike =
        let p : ℕ → List ℤ = inner_path source (after b g) (λ t. b0 (g0 t)) in (
          λ t. flat_map f (p t),
          around_related l.known source target (glue_of source l) to_glue f b f0 b0 o g g0 of_g p
              (kept_inner source l (after b g) (λ t. b0 (g0 t))
              (around_map l.known source target (glue_of source l) to_glue f b f0 b0 o g g0 of_g) (all_kept alike)),
        )

    -- ---- by one list of reduced walks

    pub same_relation : (p q : ℕ → List ℤ) → IsRelated source target f f0 g g0 p → IsRelated source target f f0 g g0 q
        → (t : ℕ) → t < length source → reduce (p t) ≡ reduce (q t)
    same_relation p q h k t below =
        sym (there p h)
        ∙ flat_map-respects l.known f (flat_map b (p t)) (flat_map b (q t)) o.there.odd
        (same_walks source l (after b g) (λ i. b0 (g0 i)) (λ i. flat_map b (p i)) (λ i. flat_map b (q i))
        (related_around l.known source target (glue_of source l) to_glue f b f0 b0 o g g0 of_g p h)
        (related_around l.known source target (glue_of source l) to_glue f b f0 b0 o g g0 of_g q k) t below)
        ∙ there q k
      where
        there : (a : ℕ → List ℤ) → IsRelated source target f f0 g g0 a
            → reduce (flat_map f (flat_map b (a t))) ≡ reduce (a t)
        there a n = walk_returns l.known target b f o.back_there (f0 t) (g0 t) (a t) (n.walks t below)
