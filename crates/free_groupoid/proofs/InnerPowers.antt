-- Maps of paths that are inner: by one list of reduced walks alone, and closed walks are kept by them.
--
-- Two lists of walks come each with its own images of the triangles. These are the same: the map of the path
-- backwards undoes that of the path, so the image of a side isn't empty, and its first letter tells where it starts.
use Rattle.std.proofs.Common.{ℕ, ℤ, List, [], ◌∷◌, ◌++◌, ◌≡◌, ◌<◌, refl, sym, ◌∙◌, ap, subst, length, get_or}
use Rattle.std.specs.List.{flat_map, repeat}
use Rattle.std.proofs.lemmas.List.{ext_get_or}
use Rattle.ideal_tri.specs.Labels.{inverse}
use Rattle.ideal_tri.specs.LabelLaws.{LabelLaws}
use Rattle.ideal_tri.specs.Words.{reduce, cyclic_reduce, IsRotation}
use Rattle.ideal_tri.specs.Triangulations.{IsTriangulation, IsLabel, IsWalk, triangle_of}
use Rattle.ideal_tri.specs.SurfaceLaws.{SurfaceLaws, TriangleLaws}
use Rattle.tri_atlas.specs.Moves.{Move, ArePath, back_along}
use Rattle.tri_atlas.specs.Maps.{IsMap, after, path_map}
use Rattle.free_groupoid.specs.Inner.{IsInner, IsKept}
use Rattle.free_groupoid.specs.InnerLaws.{InnerLaws, InnerMapLaws, IsReducedLoop}
use Rattle.free_groupoid.specs.RelatedLaws.{IsPathMap}
use Rattle.free_groupoid.specs.Periodic.{AreInnerWalks, IsInnerPath}
use Rattle.free_groupoid.specs.PeriodicLaws.{PeriodicLaws}
use Rattle.free_groupoid.proofs.Known.{Known, Glued, glued}
use Rattle.free_groupoid.proofs.Sides.{side_of_triangle}
use Rattle.free_groupoid.proofs.PathMaps.{path_inverse}

-- ---- maps and walks that are the same

-- to be inner asks for the images of labels and triangles, and for the walks from triangles
pub inner_same : (triples : List (List ℤ)) (f g : ℤ → List ℤ) (f0 g0 : ℕ → ℕ) (p q : ℕ → List ℤ) → LabelLaws
    → TriangleLaws triples
    → ((x : ℤ) → IsLabel triples x → f x ≡ g x) → ((t : ℕ) → t < length triples → f0 t ≡ g0 t)
    → ((t : ℕ) → t < length triples → p t ≡ q t)
    → IsInner triples f f0 p → IsInner triples g g0 q
inner_same triples f g f0 g0 p q labels triangles letters places paths h = record {
  walks = λ t below.
      subst (λ (w : List ℤ). IsWalk triples t w (g0 t)) (paths t below)
      (subst (λ (end : ℕ). IsWalk triples t (p t) end) (places t below) (h.walks t below));
  equations = λ x label.
      let here : ℕ = triangle_of triples x in
      let there : ℕ = triangle_of triples (inverse x) in
      ap (λ (w : List ℤ). reduce (w ++ g x)) (sym (paths here (triangles.triangle x label)))
      ∙ ap (λ (w : List ℤ). reduce (p here ++ w)) (sym (letters x label))
      ∙ h.equations x label
      ∙ ap (λ (w : List ℤ). reduce (x ∷ w))
      (paths there (triangles.triangle (inverse x) (labels.label triples x label)));
}

-- ---- the images of the triangles

-- a walk with a letter starts at one triangle
one_start : (triples : List (List ℤ)) (s s' t t' : ℕ) (w : List ℤ) → (w ≡ [] → ⊥) → IsWalk triples s w t
    → IsWalk triples s' w t' → s ≡ s'
one_start triples s s' t t' [] some h k = absurd (some refl)
one_start triples s s' t t' (x ∷ w) some h k = sym h.1 ∙ k.1

-- what comes back was something
image_some : (f g : ℤ → List ℤ) (x : ℤ) → after g f x ≡ x ∷ [] → f x ≡ [] → ⊥
image_some f g x back none =
    let empty : x ∷ [] ≡ [] = sym back ∙ ap (λ (w : List ℤ). reduce (flat_map g w)) none in cc

-- a map that is undone determines where the triangles go
same_triangles : (source target : List (List ℤ)) → Glued source → (f g : ℤ → List ℤ) (f0 f0' : ℕ → ℕ)
    → IsMap source target f f0 → IsMap source target f f0' → ((x : ℤ) → IsLabel source x → after g f x ≡ x ∷ [])
    → (t : ℕ) → t < length source → f0 t ≡ f0' t
same_triangles source target glue f g f0 f0' m m' back t below =
    let side = side_of_triangle source glue t below in
    let x : ℤ = side.side in
    sym (ap f0 side.at)
    ∙ one_start target (f0 (triangle_of source x)) (f0' (triangle_of source x))
    (f0 (triangle_of source (inverse x))) (f0' (triangle_of source (inverse x))) (f x)
    (image_some f g x (back x side.label)) (m.walks x side.label) (m'.walks x side.label)
    ∙ ap f0' side.at

-- ---- the laws

module _ (known : Known) (surface : SurfaceLaws) (test : InnerLaws) (maps : InnerMapLaws) where
  one_list : (triples : List (List ℤ)) (moves : List Move) (walks others : List (List ℤ)) → IsTriangulation triples
      → ArePath triples moves triples
      → AreInnerWalks triples moves walks → AreInnerWalks triples moves others → walks ≡ others
  one_list triples moves walks others tri path h k =
      ext_get_or [] walks others (h.one_per_triangle ∙ sym k.one_per_triangle)
      (λ t below. same_walk t (subst (λ (n : ℕ). t < n) h.one_per_triangle below))
    where
      path_h : IsPathMap triples triples moves h.inner.triangles
      path_h = record { start = tri; end = tri; path = path; map = h.inner.map }

      same_places : (t : ℕ) → t < length triples → k.inner.triangles t ≡ h.inner.triangles t
      same_places =
          let (back_triangles, undone) = path_inverse known.maps triples triples moves h.inner.triangles path_h in
          same_triangles triples triples (glued known surface triples tri) (path_map moves)
          (path_map (back_along moves)) k.inner.triangles h.inner.triangles k.inner.map h.inner.map undone.there_back

      same_walk : (t : ℕ) → t < length triples → get_or walks t [] ≡ get_or others t []
      same_walk t below =
          sym (known.words.reduction.fixed (get_or walks t []) (h.reduced t below))
          ∙ test.only triples (path_map moves) h.inner.triangles (λ i. get_or walks i []) (λ i. get_or others i []) tri
          h.inner.inner
          (inner_same triples (path_map moves) (path_map moves) k.inner.triangles h.inner.triangles
          (λ i. get_or others i []) (λ i. get_or others i []) known.labels (surface.triangles triples tri)
          (λ x label. refl) same_places (λ i inside. refl) k.inner.inner)
          t below
          ∙ known.words.reduction.fixed (get_or others t []) (k.reduced t below)

  loop_kept : (triples : List (List ℤ)) (moves : List Move) (w : List ℤ) → IsTriangulation triples
      → IsInnerPath triples moves → IsReducedLoop triples w → IsKept (path_map moves) w
  loop_kept triples moves [] tri (p, h) loop = absurd loop
  loop_kept triples moves (x ∷ w) tri (p, h) (walk, reduced) =
      subst (IsRotation (cyclic_reduce (flat_map (path_map moves) (x ∷ w)))) (known.words.cyclic.fixed (x ∷ w) reduced)
      (maps.closed triples (path_map moves) h.triangles p (triangle_of triples x) (x ∷ w) h.inner walk)

  pub power_laws : PeriodicLaws
  power_laws = record {
    only = one_list;
    kept = loop_kept;
    least = λ triples moves order tri positive inner moved. record {
      positive = positive;
      inner = inner;
      least = λ j some below is_inner.
          let (w, loop, not_kept) = moved j some below in
          not_kept (loop_kept triples (repeat j moves) w tri is_inner loop);
    };
  }
