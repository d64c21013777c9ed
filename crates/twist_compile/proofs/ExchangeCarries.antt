-- The exchange is a relabelling of the flipped triangulation onto that before the flip.
use Rattle.std.proofs.Common.{ℕ, ℤ, pos, List, [], ◌∷◌, ◌≡◌, ◌≢◌, ◌<◌, ◌⊎◌, inl, inr, refl, sym, ◌∙◌, ap, subst}
use Rattle.std.proofs.Common.{arith, length}
use Rattle.std.specs.List.{All}
use Rattle.std.specs.Prelude.{slice_index_or}
use Rattle.std.proofs.lemmas.List.{get_or_default}
use Rattle.curve_shorten.specs.Twists.{IsAnnulus}
use Rattle.ideal_tri.specs.DrawingLaws.{DrawingLaws}
use Rattle.ideal_tri.specs.FlipLaws.{FlipLaws, OneFlipLaws}
use Rattle.ideal_tri.specs.Flips.{IsFlippable, flipped}
use Rattle.ideal_tri.specs.HitLaws.{HitLaws}
use Rattle.ideal_tri.specs.LabelLaws.{LabelLaws}
use Rattle.ideal_tri.specs.Labels.{inverse, edge_of}
use Rattle.ideal_tri.specs.Relabellings.{image_of, hits, IsCarried, IsRelabelling, IsTriangleOf}
use Rattle.ideal_tri.specs.SurfaceLaws.{SurfaceLaws, TriangleLaws}
use Rattle.ideal_tri.specs.TripleLaws.{TripleLaws}
use Rattle.ideal_tri.specs.Triangulations.{IsTriangulation, IsLabel, edge_count, next, previous, triangle_of}
use Rattle.twist_compile.proofs.AnnulusSides as sides
use Rattle.twist_compile.proofs.Exchange as exchange
use Rattle.twist_compile.proofs.Exchange.{at_q, at_q_inverse, at_p, at_p_inverse, elsewhere}
use Rattle.twist_compile.specs.TwistPaths.{exchanged, exchange_images}
use Rattle.twist_compile.specs.inside.EndSteps.{HasTotalTwo}

-- the laws that are used
pub record Given : Type 0 where
  pub labels : LabelLaws
  pub surfaces : SurfaceLaws
  pub triples : TripleLaws
  pub flips : FlipLaws
  pub hits : HitLaws
  pub drawings : (triples : List (List ℤ)) → IsTriangulation triples → DrawingLaws triples

module _ (g : Given) (triples : List (List ℤ)) (sound : IsTriangulation triples) (w : List ℕ)
    (two : HasTotalTwo triples w) (p q : ℤ) (annulus : IsAnnulus triples w p q) where
  t : TriangleLaws triples
  t = g.surfaces.triangles triples sound

  d : DrawingLaws triples
  d = g.drawings triples sound

  abbrev n : ℕ
  n = edge_count triples

  lp : IsLabel triples p
  lp = annulus.label

  lq : IsLabel triples q
  lq = subst (IsLabel triples) annulus.after (t.label p lp)

  apart : edge_of q ≢ edge_of p
  apart = sides.edges_apart g.labels triples t d w two p q lp annulus.once annulus.other_once annulus.after

  opposite : next triples (inverse p) ≡ inverse q
  opposite = sides.opposite g.labels triples t d w two p q lp annulus.once annulus.other_once annulus.after

  -- ---- the flip of q

  flippable_q : IsFlippable triples q
  flippable_q same =
      sides.triangles_apart g.labels triples t d w two p q lp annulus.once annulus.other_once annulus.after
      (sym (sides.other_triangle g.labels triples t d w two p q lp annulus.once annulus.other_once annulus.after)
      ∙ sym same
      ∙ sides.one_triangle g.labels triples t d w two p q lp annulus.once annulus.other_once annulus.after)

  f : OneFlipLaws triples q
  f = g.flips.flips triples q sound lq flippable_q

  -- q, or its inverse, is the label of its edge that isn't negative
  edge_label : (pos (edge_of q) ≡ q) ⊎ (pos (edge_of q) ≡ inverse q)
  edge_label = g.labels.of_edge (pos (edge_of q)) q refl

  pub flippable : IsFlippable triples (pos (edge_of q))
  flippable =
      elim edge_label [
        | inl k ↦ subst (IsFlippable triples) (sym k) flippable_q
        | inr k ↦
            subst (IsFlippable triples) (sym k)
            (λ same. flippable_q (sym (same ∙ ap (triangle_of triples) (g.labels.twice q))))
      ]

  pub either_side : flipped triples (pos (edge_of q)) ≡ flipped triples q
  either_side =
      elim edge_label [
        | inl k ↦ ap (flipped triples) k
        | inr k ↦ ap (flipped triples) k ∙ f.other_side
      ]

  abbrev after : List (List ℤ)
  after = flipped triples q

  abbrev σ : ℤ → ℤ
  σ x = exchanged p q x

  -- ---- the exchange goes with the sides after each other

  lr : IsLabel triples (inverse p)
  lr = g.labels.label triples p lp

  before_q : previous triples q ≡ p
  before_q = ap (previous triples) (sym annulus.after) ∙ t.round p lp

  before_q_inverse : previous triples (inverse q) ≡ inverse p
  before_q_inverse = ap (previous triples) (sym opposite) ∙ t.round (inverse p) lr

  third : previous triples p ≡ next triples q
  third = ap (next triples) annulus.after

  fourth : previous triples (inverse p) ≡ next triples (inverse q)
  fourth = ap (next triples) opposite

  third_stays : σ (next triples q) ≡ next triples q
  third_stays =
      exchange.image_other g.labels p q apart (next triples q)
      (λ k. sides.third_apart g.labels triples t d w two p q lp annulus.once annulus.other_once annulus.after
      (ap edge_of third ∙ k))
      (λ k. sides.third_other g.labels triples t d w two p q lp annulus.once annulus.other_once annulus.after
      (ap edge_of third ∙ k))

  fourth_stays : σ (next triples (inverse q)) ≡ next triples (inverse q)
  fourth_stays =
      exchange.image_other g.labels p q apart (next triples (inverse q))
      (λ k. sides.fourth_apart g.labels triples t d w two p q lp annulus.once annulus.other_once annulus.after
      (ap edge_of fourth ∙ k))
      (λ k. sides.fourth_other g.labels triples t d w two p q lp annulus.once annulus.other_once annulus.after
      (ap edge_of fourth ∙ k))

  -- from the images of x and of the side after it
  goes_at : (x y a b : ℤ) → x ≡ y → σ y ≡ a → σ (next after y) ≡ b → next triples a ≡ b
      → next triples (σ x) ≡ σ (next after x)
  goes_at x y a b k here there is =
      ap (λ (u : ℤ). next triples (σ u)) k ∙ ap (next triples) here ∙ is ∙ sym there
      ∙ sym (ap (λ (u : ℤ). σ (next after u)) k)

  goes_q : (x : ℤ) → x ≡ q → next triples (σ x) ≡ σ (next after x)
  goes_q x k =
      goes_at x q p q k (exchange.image_q g.labels p q apart)
      (ap (λ (u : ℤ). σ u) (f.after_e ∙ before_q_inverse) ∙ exchange.image_p_inverse g.labels p q apart) annulus.after

  goes_q_inverse : (x : ℤ) → x ≡ inverse q → next triples (σ x) ≡ σ (next after x)
  goes_q_inverse x k =
      goes_at x (inverse q) (inverse p) (inverse q) k (exchange.image_q_inverse g.labels p q apart)
      (ap (λ (u : ℤ). σ u) (f.after_inverse ∙ before_q) ∙ exchange.image_p g.labels p q apart) opposite

  goes_p : (x : ℤ) → x ≡ p → next triples (σ x) ≡ σ (next after x)
  goes_p x k =
      goes_at x p (inverse q) (next triples (inverse q)) k (exchange.image_p g.labels p q apart)
      (ap (λ (u : ℤ). σ u) (ap (next after) (sym before_q) ∙ f.after_b) ∙ fourth_stays) refl

  goes_p_inverse : (x : ℤ) → x ≡ inverse p → next triples (σ x) ≡ σ (next after x)
  goes_p_inverse x k =
      goes_at x (inverse p) q (next triples q) k (exchange.image_p_inverse g.labels p q apart)
      (ap (λ (u : ℤ). σ u) (ap (next after) (sym before_q_inverse) ∙ f.after_d) ∙ third_stays) refl

  goes_third : (x : ℤ) → x ≡ next triples q → next triples (σ x) ≡ σ (next after x)
  goes_third x k =
      goes_at x (next triples q) (next triples q) p k third_stays
      (ap (λ (u : ℤ). σ u) f.after_a ∙ exchange.image_q g.labels p q apart) before_q

  goes_fourth : (x : ℤ) → x ≡ next triples (inverse q) → next triples (σ x) ≡ σ (next after x)
  goes_fourth x k =
      goes_at x (next triples (inverse q)) (next triples (inverse q)) (inverse p) k fourth_stays
      (ap (λ (u : ℤ). σ u) f.after_c ∙ exchange.image_q_inverse g.labels p q apart) before_q_inverse

  -- the side before y
  cancel : (x y : ℤ) → IsLabel triples x → next triples x ≡ y → x ≡ previous triples y
  cancel x y l k = sym (t.round x l) ∙ ap (previous triples) k

  goes_other : (x : ℤ) → IsLabel triples x → edge_of x ≢ edge_of p → edge_of x ≢ edge_of q → x ≢ next triples q
      → x ≢ next triples (inverse q) → next triples (σ x) ≡ σ (next after x)
  goes_other x l a b c e =
      goes_at x x x (next triples x) refl (exchange.image_other g.labels p q apart x a b)
      (ap (λ (u : ℤ). σ u) same ∙ exchange.image_other g.labels p q apart (next triples x) not_p not_q) refl
    where
      same : next after x ≡ next triples x
      same =
          f.after_other x l (
            λ k. b (ap edge_of k),
            c,
            λ k. a (ap edge_of (k ∙ before_q)),
            λ k. b (ap edge_of k ∙ g.labels.edge q),
            e,
            λ k. a (ap edge_of (k ∙ before_q_inverse) ∙ g.labels.edge p),
          )

      not_p : edge_of (next triples x) ≢ edge_of p
      not_p k =
          elim (g.labels.of_edge (next triples x) p k) [
            | inl k ↦ c (cancel x p l k ∙ third)
            | inr k ↦ e (cancel x (inverse p) l k ∙ fourth)
          ]

      not_q : edge_of (next triples x) ≢ edge_of q
      not_q k =
          elim (g.labels.of_edge (next triples x) q k) [
            | inl k ↦ a (ap edge_of (cancel x q l k ∙ before_q))
            | inr k ↦ a (ap edge_of (cancel x (inverse q) l k ∙ before_q_inverse) ∙ g.labels.edge p)
          ]

  goes : (x : ℤ) → IsLabel triples x → next triples (σ x) ≡ σ (next after x)
  goes x l =
      elim (exchange.place_of g.labels p q apart x) [
        | at_q k ↦ goes_q x k
        | at_q_inverse k ↦ goes_q_inverse x k
        | at_p k ↦ goes_p x k
        | at_p_inverse k ↦ goes_p_inverse x k
        | elsewhere a b ↦ elim (g.labels.same_or_not x (next triples q)) [
          | inl k ↦ goes_third x k
          | inr c ↦ elim (g.labels.same_or_not x (next triples (inverse q))) [
            | inl k ↦ goes_fourth x k
            | inr e ↦ goes_other x l a b c e
          ]
        ]
      ]

  -- ---- the relabelling

  abbrev images : List ℤ
  images = exchange_images triples p q

  image : (x : ℤ) → IsLabel triples x → image_of images x ≡ σ x
  image x l = exchange.image g.labels p q apart n x l

  label_after : (x : ℤ) → IsLabel after x → IsLabel triples x
  label_after x l = subst (λ (k : ℕ). edge_of x < k) f.edges l

  as_many : length images ≡ n
  as_many = exchange.as_many g.labels p q apart n

  at : (i : ℕ) → i < n → slice_index_or images i (pos 0) ≡ σ (pos i)
  at i b = exchange.at g.labels p q apart n i (pos 0) b

  labels_in : All (IsLabel triples) images
  labels_in i e b =
      let small : i < n = omega (arith, b, as_many) in
      subst (IsLabel triples) (sym (exchange.at g.labels p q apart n i e small))
      (exchange.below g.labels p q apart n (pos i) lp lq small)

  bijective : (e : ℕ) → e < n → hits images e ≡ 1
  bijective =
      g.hits.each_once images n labels_in as_many (λ e. g.hits.at_most_once images e (λ i j b c h k.
      let bi : i < n = omega (arith, b, as_many) in
      let bj : j < n = omega (arith, c, as_many) in
      exchange.one_edge g.labels p q apart (pos i) (pos j)
      (ap edge_of (sym (at i bi)) ∙ h ∙ sym k ∙ ap edge_of (at j bj))))

  -- a triangle behind the flip goes to one before it
  carried_sides : (x y z : ℤ) → IsTriangleOf after (x ∷ (y ∷ (z ∷ [])))
      → IsTriangleOf triples (image_of images x ∷ (image_of images y ∷ (image_of images z ∷ [])))
  carried_sides x y z there =
      let (lx, xy, yz) = g.triples.sides after x y z f.triangulation there in
      let at_x : IsLabel triples x = label_after x lx in
      let after_x : next triples (σ x) ≡ σ y = goes x at_x ∙ ap (λ (u : ℤ). σ u) xy in
      let ly : IsLabel triples y =
      label_after y (subst (IsLabel after) xy ((g.surfaces.triangles after f.triangulation).label x lx)) in
      let lz : IsLabel triples z =
      label_after z (subst (IsLabel after) (ap (next after) xy ∙ yz)
      ((g.surfaces.triangles after f.triangulation).label (next after x)
      ((g.surfaces.triangles after f.triangulation).label x lx))) in
      let after_y : next triples (σ y) ≡ σ z = goes y ly ∙ ap (λ (u : ℤ). σ u) yz in
      let whole : IsTriangleOf triples (σ x ∷ (next triples (σ x) ∷ (previous triples (σ x) ∷ []))) =
      g.triples.at_label triples (σ x) sound (exchange.below g.labels p q apart n x lp lq at_x) in
      subst (IsTriangleOf triples)
      (ap (λ (u : ℤ). σ x ∷ (u ∷ (next triples u ∷ []))) after_x
      ∙ ap (λ (u : ℤ). σ x ∷ (σ y ∷ (u ∷ []))) after_y
      ∙ ap (λ (u : ℤ). u ∷ (σ y ∷ (σ z ∷ []))) (sym (image x at_x))
      ∙ ap (λ (u : ℤ). image_of images x ∷ (u ∷ (σ z ∷ []))) (sym (image y ly))
      ∙ ap (λ (u : ℤ). image_of images x ∷ (image_of images y ∷ (u ∷ []))) (sym (image z lz)))
      whole

  carried : All (IsCarried triples images) after
  carried k e b =
      let here : List ℤ = slice_index_or after k [] in
      let stands : IsTriangleOf after here = g.triples.stands after k b in
      let (x, y, z, is) = g.triples.listed here (f.triangulation.three_sides k [] b) in
      subst (IsCarried triples images) (get_or_default after k [] e b)
      (subst (IsCarried triples images) (sym is) (carried_sides x y z (subst (IsTriangleOf after) is stands)))

  carries_q : IsRelabelling after triples images
  carries_q = record {
    one_per_edge = as_many ∙ sym f.edges;
    labels = labels_in;
    bijective = bijective;
    triangles = carried;
  }

  pub carries : IsRelabelling (flipped triples (pos (edge_of q))) triples images
  carries = subst (λ (z : List (List ℤ)). IsRelabelling z triples images) (sym either_side) carries_q
