-- Inner maps compose, have inner inverses, stay inner where they are carried along a map, and fix closed walks up to
-- rotation.
--
-- The equation at letters extends to walks: p f(w) and w q have the same reduction, with the walks p and q of the two
-- ends of w. For f and then g the walk of f and that of g at the image, one after the other, serve: g is inner along
-- f(x). If g undoes f, apply g to the equation of f and solve for g(x). Along a map h with k before it, where h
-- undoes k, apply h to the equation along k(x). For a closed walk the equation says that p carries it to its image,
-- so their cyclic reductions are rotations of each other; and a list of closed words has the same curves as its
-- images, word by word.
use Rattle.std.proofs.Common.{ℕ, ℤ, Bool, true, false, List, [], ◌∷◌, ◌++◌, ◌≡◌, ◌<◌, ◌+◌, inl, refl, sym, ◌∙◌, ap}
use Rattle.std.proofs.Common.{subst, append_assoc, length, cond}
use Rattle.std.specs.List.{All, flat_map, count_by}
use Rattle.std.proofs.lemmas.List.{map-id}
use Rattle.std.proofs.lemmas.List.Concat.{flat_map-append, flat_map_single}
use Rattle.std.proofs.lemmas.List.Elements.{All-head, All-tail}
use Rattle.std.proofs.lemmas.List.Sums.{sum_by-cons}
use Rattle.ideal_tri.specs.Labels.{inverse}
use Rattle.ideal_tri.specs.Words.{inverse_word, reduce, cyclic_reduce, IsRotation, IsCyclicallyReduced}
use Rattle.ideal_tri.specs.Curves.{IsSameCurve, is_same_curve}
use Rattle.ideal_tri.specs.Triangulations.{IsLabel, IsWalk, triangle_of}
use Rattle.ideal_tri.specs.SurfaceLaws.{SurfaceLaws, WalkLaws}
use Rattle.tri_atlas.specs.Maps.{IsMap, identity, after, images_under}
use Rattle.free_groupoid.specs.Inner.{IsInner}
use Rattle.free_groupoid.specs.InnerLaws.{InnerMapLaws}
use Rattle.free_groupoid.proofs.Known.{Known, Glued, glued}
use Rattle.free_groupoid.proofs.Names.{+0, -0, +1, +2, +3, -3, +4, +5, +6, +7, by_fact, flat_map-respects}
use Rattle.free_groupoid.proofs.Carrying.{Carries, carries-rotation}
use Rattle.free_groupoid.proofs.Sides.{side_of_triangle}
use Rattle.free_groupoid.proofs.Relations.{related_along, inner_related}

-- ---- there and back

-- maps that lead each letter there and back lead each triangle there and back
pub triangle_returns : (source target : List (List ℤ)) → Glued source → (f g : ℤ → List ℤ) (f0 g0 : ℕ → ℕ)
    → IsMap source target f f0 → IsMap target source g g0 → ((x : ℤ) → IsLabel source x → after g f x ≡ x ∷ [])
    → (t : ℕ) → t < length source → g0 (f0 t) ≡ t
triangle_returns source target glue f g f0 g0 of_f of_g back t below =
    let side = side_of_triangle source glue t below in
    let x : ℤ = side.side in
    let start : ℕ = f0 (triangle_of source x) in
    let end : ℕ = f0 (triangle_of source (inverse x)) in
    let step : IsWalk source (g0 start) (x ∷ []) (g0 end) =
    subst (λ (w : List ℤ). IsWalk source (g0 start) w (g0 end)) (back x side.label)
    (glue.known.maps.walks.reduced target source g g0 start end (f x) glue.triangulation of_g
    (of_f.walks x side.label)) in
    ap (λ (i : ℕ). g0 (f0 i)) (sym side.at) ∙ sym step.1 ∙ side.at

module _ (known : Known) where
  -- ---- along walks

  pub inner_along : (triples : List (List ℤ)) (f : ℤ → List ℤ) (f0 : ℕ → ℕ) (p : ℕ → List ℤ) (i j : ℕ) (w : List ℤ)
      → IsInner triples f f0 p
      → IsWalk triples i w j → reduce (p i ++ flat_map f w) ≡ reduce (w ++ p j)
  inner_along triples f f0 p i j w h walk =
      related_along known triples triples identity f (λ t. t) f0 p (inner_related triples f f0 p h) i j w walk
      ∙ ap (λ (z : List ℤ). reduce (z ++ p j)) (flat_map_single (λ (x : ℤ). x) w ∙ map-id w)

  -- the walk of the start carries a closed walk to its image
  pub inner_carries : (triples : List (List ℤ)) (f : ℤ → List ℤ) (f0 : ℕ → ℕ) (p : ℕ → List ℤ) (t : ℕ) (w : List ℤ)
      → IsInner triples f f0 p
      → IsWalk triples t w t → Carries (p t) w (flat_map f w)
  inner_carries triples f f0 p t w h walk = sym (inner_along triples f f0 p t t w h walk)

  -- ---- one after another, backwards, and along a map

  inner_compose : (triples : List (List ℤ)) → WalkLaws triples → (f g : ℤ → List ℤ) (f0 g0 : ℕ → ℕ) (p q : ℕ → List ℤ)
      → IsMap triples triples f f0 → IsInner triples f f0 p → IsInner triples g g0 q
      → IsInner triples (after g f) (λ t. g0 (f0 t)) (λ t. p t ++ q (f0 t))
  inner_compose triples walks f g f0 g0 p q m h k = record {
    walks =
        λ t below. walks.join t (f0 t) (g0 (f0 t)) (p t) (q (f0 t)) (h.walks t below)
        (k.walks (f0 t) (m.within t below));
    equations = λ x label.
        let i : ℕ = triangle_of triples x in
        let j : ℕ = triangle_of triples (inverse x) in
        let names : List (List ℤ) =
        p i ∷ q (f0 i) ∷ after g f x ∷ flat_map g (f x) ∷ f x ∷ q (f0 j) ∷ (x ∷ []) ∷ p j ∷ [] in
        ap reduce (append_assoc (p i) (q (f0 i)) (after g f x))
        ∙ by_fact known names (+0 ∷ +1 ∷ +2 ∷ []) (+0 ∷ +1 ∷ +3 ∷ []) (+0 ∷ +1 ∷ []) (+2 ∷ []) (+3 ∷ []) [] refl
        (known.words.reduction.twice (flat_map g (f x))) refl
        ∙ by_fact known names (+0 ∷ +1 ∷ +3 ∷ []) (+0 ∷ +4 ∷ +5 ∷ []) (+0 ∷ []) (+1 ∷ +3 ∷ []) (+4 ∷ +5 ∷ []) [] refl
        (inner_along triples g g0 q (f0 i) (f0 j) (f x) k (m.walks x label)) refl
        ∙ by_fact known names (+0 ∷ +4 ∷ +5 ∷ []) (+6 ∷ +7 ∷ +5 ∷ []) [] (+0 ∷ +4 ∷ []) (+6 ∷ +7 ∷ []) (+5 ∷ []) refl
        (h.equations x label) refl;
  }

  inner_inverse : (triples : List (List ℤ)) → Glued triples → (f g : ℤ → List ℤ) (f0 g0 : ℕ → ℕ) (p : ℕ → List ℤ)
      → IsMap triples triples f f0 → IsMap triples triples g g0 → ((x : ℤ) → IsLabel triples x → after g f x ≡ x ∷ [])
      → IsInner triples f f0 p → IsInner triples g g0 (λ t. inverse_word (flat_map g (p t)))
  inner_inverse triples glue f g f0 g0 p of_f of_g back h = record {
    walks = λ t below.
        subst (λ (i : ℕ). IsWalk triples i (inverse_word (flat_map g (p t))) (g0 t))
        (triangle_returns triples triples glue f g f0 g0 of_f of_g back t below)
        (glue.walks.back (g0 t) (g0 (f0 t)) (flat_map g (p t))
        (known.maps.walks.walks triples triples g g0 t (f0 t) (p t) glue.triangulation of_g (h.walks t below)));
    equations = λ x label.
        let i : ℕ = triangle_of triples x in
        let j : ℕ = triangle_of triples (inverse x) in
        let names : List (List ℤ) = flat_map g (p i) ∷ g x ∷ (x ∷ []) ∷ flat_map g (p j) ∷ flat_map g (f x) ∷ [] in
        let image : reduce (g x ++ flat_map g (p j)) ≡ reduce (flat_map g (p i) ++ flat_map g (f x)) =
        sym (flat_map-respects known g (p i ++ f x) (x ∷ p j) of_g.odd (h.equations x label)) ∙ ap reduce
        (flat_map-append g (p i) (f x)) in
        let there : reduce (flat_map g (f x)) ≡ reduce (x ∷ []) =
        sym (known.words.reduction.twice (flat_map g (f x))) ∙ ap reduce (back x label) in
        by_fact known names (-0 ∷ +1 ∷ []) (+4 ∷ -3 ∷ []) (-0 ∷ []) (+1 ∷ +3 ∷ []) (+0 ∷ +4 ∷ []) (-3 ∷ []) refl image
        refl
        ∙ by_fact known names (+4 ∷ -3 ∷ []) (+2 ∷ -3 ∷ []) [] (+4 ∷ []) (+2 ∷ []) (-3 ∷ []) refl there refl;
  }

  inner_transport : (source target : List (List ℤ)) → Glued target
      → (f g b : ℤ → List ℤ) (f0 g0 b0 : ℕ → ℕ) (p : ℕ → List ℤ)
      → IsMap source source f f0 → IsMap source target g g0 → IsMap target source b b0
      → ((x : ℤ) → IsLabel target x → after g b x ≡ x ∷ [])
      → IsInner source f f0 p → IsInner target (after g (after f b)) (λ t. g0 (f0 (b0 t))) (λ t. flat_map g (p (b0 t)))
  inner_transport source target glue f g b f0 g0 b0 p of_f of_g of_b back h = record {
    walks = λ t below.
        subst (λ (i : ℕ). IsWalk target i (flat_map g (p (b0 t))) (g0 (f0 (b0 t))))
        (triangle_returns target source glue b g b0 g0 of_b of_g back t below)
        (known.maps.walks.walks source target g g0 (b0 t) (f0 (b0 t)) (p (b0 t)) glue.triangulation of_g
        (h.walks (b0 t) (of_b.within t below)));
    equations = λ x label.
        let i : ℕ = b0 (triangle_of target x) in
        let j : ℕ = b0 (triangle_of target (inverse x)) in
        let there : reduce (flat_map g (b x)) ≡ reduce (x ∷ []) =
        sym (known.words.reduction.twice (flat_map g (b x))) ∙ ap reduce (back x label) in
        let image : reduce (after g (after f b) x) ≡ reduce (flat_map g (flat_map f (b x))) =
        known.words.reduction.twice (flat_map g (after f b x)) ∙ known.maps.substitutions.reduced_before g
        (flat_map f (b x)) of_g.odd in
        known.words.reduction.right (flat_map g (p i)) (after g (after f b) x) (flat_map g (flat_map f (b x))) image
        ∙ ap reduce (sym (flat_map-append g (p i) (flat_map f (b x))))
        ∙ flat_map-respects known g (p i ++ flat_map f (b x)) (b x ++ p j) of_g.odd
        (inner_along source f f0 p i j (b x) h (of_b.walks x label))
        ∙ ap reduce (flat_map-append g (b x) (p j))
        ∙ known.words.reduction.left (flat_map g (b x)) (x ∷ []) (flat_map g (p j)) there;
  }

-- ---- closed walks and curves

-- the test tells no curve from its image
same_test : Known → (c u v : List ℤ) → IsSameCurve u v → is_same_curve c u ≡ is_same_curve c v
same_test known c u v h =
    equal (is_same_curve c u) (is_same_curve c v)
    (λ e. (known.words.curves.curve_test c v).1
    (known.words.curves.along c u v ((known.words.curves.curve_test c u).0 e) h))
    (λ e. (known.words.curves.curve_test c u).1
    (known.words.curves.along c v u ((known.words.curves.curve_test c v).0 e) (known.words.curves.back u v h)))
  where
    equal : (a b : Bool) → (a ≡ true → b ≡ true) → (b ≡ true → a ≡ true) → a ≡ b
    equal true b f g = sym (f refl)
    equal false true f g = g refl
    equal false false f g = refl

module _ (known : Known) where
  inner_closed : (triples : List (List ℤ)) (f : ℤ → List ℤ) (f0 : ℕ → ℕ) (p : ℕ → List ℤ) (t : ℕ) (w : List ℤ)
      → IsInner triples f f0 p
      → IsWalk triples t w t → IsRotation (cyclic_reduce (flat_map f w)) (cyclic_reduce w)
  inner_closed triples f f0 p t w h walk =
      known.words.rotations.back (cyclic_reduce w) (cyclic_reduce (flat_map f w))
      (carries-rotation known (p t) w (flat_map f w) (inner_carries known triples f f0 p t w h walk))

  -- a closed walk, as it is where nothing is left to reduce
  abbrev IsClosedWord : List (List ℤ) → List ℤ → Type 0
  IsClosedWord triples w = (t : ℕ) × IsWalk triples t w t × IsCyclicallyReduced w

  image_same : (triples : List (List ℤ)) (f : ℤ → List ℤ) (f0 : ℕ → ℕ) (p : ℕ → List ℤ) (w : List ℤ)
      → IsInner triples f f0 p
      → IsClosedWord triples w → IsSameCurve (cyclic_reduce (flat_map f w)) w
  image_same triples f f0 p w h (t, walk, reduced) =
      inl (subst (IsRotation (cyclic_reduce (flat_map f w))) (known.words.cyclic.fixed w reduced)
      (inner_closed triples f f0 p t w h walk))

  images_counted : (triples : List (List ℤ)) (f : ℤ → List ℤ) (f0 : ℕ → ℕ) (p : ℕ → List ℤ) → IsInner triples f f0 p
      → (words : List (List ℤ)) → All (IsClosedWord triples) words → (v : List ℤ)
      → count_by (is_same_curve v) (images_under f words) ≡ count_by (is_same_curve v) words
  images_counted triples f f0 p h [] all v = refl
  images_counted triples f f0 p h (w ∷ words) all v =
      sum_by-cons one image (images_under f words)
      ∙ ap (λ (b : Bool). cond b 1 0 + count_by (is_same_curve v) (images_under f words))
      (same_test known v image w (image_same triples f f0 p w h (All-head (IsClosedWord triples) w words all)))
      ∙ ap (λ (n : ℕ). one w + n)
      (images_counted triples f f0 p h words (All-tail (IsClosedWord triples) w words all) v)
      ∙ sym (sum_by-cons one w words)
    where
      image : List ℤ
      image = cyclic_reduce (flat_map f w)

      one : List ℤ → ℕ
      one u = cond (is_same_curve v u) 1 0

  pub inner_map_laws : SurfaceLaws → InnerMapLaws
  inner_map_laws surface = record {
    identity = λ triples. record { walks = λ t below. refl; equations = λ x label. refl };
    compose =
        λ triples f g f0 g0 p q tri of_f of_g. inner_compose known triples (surface.walks triples tri) f g f0 g0 p q
        of_f;
    inverse = λ triples f g f0 g0 p tri. inner_inverse known triples (glued known surface triples tri) f g f0 g0 p;
    transport = λ source target f g b f0 g0 b0 p source_tri target_tri.
        inner_transport known source target (glued known surface target target_tri) f g b f0 g0 b0 p;
    along = inner_along known;
    closed = inner_closed;
    curves = λ triples f f0 p words h all. record { counts = images_counted triples f f0 p h words all };
  }
