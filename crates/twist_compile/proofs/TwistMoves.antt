-- The flip and the relabelling of a twist: they lead from a triangulation to itself and fix the vector.
--
-- Let (p,q,r) and (~p,~q,s) be the two triangles. The flip of the edge of q makes them (q,~p,r) and (~q,p,s), and
-- the exchange of the two edges takes these to (p,q,r) and (~p,~q,s). Nothing else changes. The new number of the edge
-- is the greater of r + s = 0 and p + p = 2, less 1: so each number stays.
use Rattle.std.proofs.Common.{ℕ, ℤ, List, [], ◌∷◌, ◌≡◌, ◌≢◌, ◌<◌, ◌+◌, ◌-◌, ◌⊎◌, inl, inr, refl, sym, ◌∙◌, ap, subst}
use Rattle.std.proofs.Common.{length, set, get_or}
use Rattle.std.specs.Prelude.{max}
use Rattle.std.specs.List.{All}
use Rattle.std.proofs.lemmas.List.{set-get_or}
use Rattle.std.proofs.lemmas.List.Elements.{All-from_get_or}
use Rattle.ideal_tri.specs.Labels.{inverse, edge_of}
use Rattle.ideal_tri.specs.FlipLaws.{OneFlipLaws}
use Rattle.ideal_tri.specs.Flips.{IsFlippable, flipped}
use Rattle.ideal_tri.specs.Relabellings.{image_of, IsTriangleOf, IsCarried, IsRelabelling}
use Rattle.ideal_tri.specs.SurfaceLaws.{TriangleLaws}
use Rattle.ideal_tri.specs.Triangulations.{IsTriangulation, IsLabel, edge_count, triangle_of, next, previous}
use Rattle.ideal_tri.specs.Vectors.{weight}
use Rattle.tri_atlas.specs.Arena.{flip_of}
use Rattle.tri_atlas.specs.Moves.{Move, relabel, IsFlip, ArePath}
use Rattle.tri_atlas.specs.MovedVectors.{vector_after, vector_along, flipped_number}
use Rattle.twist_compile.specs.TwistPaths.{exchanged, exchange_images}
use Rattle.twist_compile.proofs.LowerLaws.{LowerLaws}
use Rattle.twist_compile.proofs.Annuli.{IsAside, IsAnnulusOf, weight-inverse}
use Rattle.twist_compile.proofs.ExchangedLabels.{Which, which, is_p, is_p_back, is_q, is_q_back, is_other}
use Rattle.twist_compile.proofs.ExchangedLabels.{exchanged-p, exchanged-p_back, exchanged-q, exchanged-q_back}
use Rattle.twist_compile.proofs.ExchangedLabels.{exchanged-other}
use Rattle.twist_compile.proofs.ExchangeImages.{exchanged-label, images-as_many, images-bijection, image_of-exchange}
use Rattle.twist_compile.proofs.ExchangeImages.{exchange-fixes}
use Rattle.twist_compile.proofs.Slides.{Slides, at_b, at_d}

-- e is one of the two labels of the edge of q
abbrev pub IsOf : ℤ → ℤ → Type 0
IsOf e q = (e ≡ q) ⊎ (e ≡ inverse q)

-- the flip, and the relabelling behind it
abbrev pub annulus_moves : List (List ℤ) → ℤ → ℤ → ℤ → List Move
annulus_moves triples p q e = flip_of triples e ∷ (relabel (exchange_images triples p q) ∷ [])

-- a bijection that goes with `next` carries triangles to triangles
pub carried : LowerLaws → (from to : List (List ℤ)) (images : List ℤ) → IsTriangulation from → IsTriangulation to
    → ((x : ℤ) → IsLabel from x → IsLabel to (image_of images x))
    → ((x : ℤ) → IsLabel from x → next to (image_of images x) ≡ image_of images (next from x))
    → All (IsCarried to images) from
carried laws from to images t u label follow =
    All-from_get_or (IsCarried to images) from [] (λ k inside.
    let (x, y, z, is) = laws.triples.listed (get_or from k []) (t.three_sides k [] inside) in
    let (l, second, third) = laws.triples.sides from x y z t
    (subst (IsTriangleOf from) is (laws.triples.stands from k inside)) in
    subst (IsCarried to images) (sym is) (at x y z l second third))
  where
    at : (x y z : ℤ) → IsLabel from x → next from x ≡ y → next from y ≡ z
        → IsTriangleOf to (image_of images x ∷ (image_of images y ∷ (image_of images z ∷ [])))
    at x y z l second third =
        let to_y : next to (image_of images x) ≡ image_of images y = follow x l ∙ ap (image_of images) second in
        let l' : IsLabel from y = subst (IsLabel from) second ((laws.surfaces.triangles from t).label x l) in
        let to_z : next to (image_of images y) ≡ image_of images z = follow y l' ∙ ap (image_of images) third in
        subst (λ (v : ℤ). IsTriangleOf to (image_of images x ∷ (image_of images y ∷ (v ∷ []))))
        (ap (next to) to_y ∙ to_z)
        (subst (λ (v : ℤ). IsTriangleOf to (image_of images x ∷ (v ∷ (previous to (image_of images x) ∷ []))))
        to_y (laws.triples.at_label to (image_of images x) u (label x l)))

module _ (laws : LowerLaws) (triples : List (List ℤ)) (t : IsTriangulation triples) (w : List ℕ) (p q : ℤ)
    (h : IsAnnulusOf triples w p q) where
  abbrev triangles : TriangleLaws triples
  triangles = laws.surfaces.triangles triples t

  label_p_back : IsLabel triples (inverse p)
  label_p_back = laws.labels.label triples p h.band.label

  label_q_back : IsLabel triples (inverse q)
  label_q_back = laws.labels.label triples q h.band.other_label

  -- ---- the sides of the triangles of q and ~q

  pub previous-q : previous triples q ≡ p
  previous-q = ap (previous triples) (sym h.band.after) ∙ triangles.round p h.band.label

  pub previous-q_back : previous triples (inverse q) ≡ inverse p
  previous-q_back = ap (previous triples) (sym h.band.after_back) ∙ triangles.round (inverse p) label_p_back

  next-q : previous triples p ≡ next triples q
  next-q = ap (next triples) h.band.after

  next-q_back : previous triples (inverse p) ≡ next triples (inverse q)
  next-q_back = ap (next triples) h.band.after_back

  aside-q : IsAside p q (next triples q)
  aside-q = subst (IsAside p q) next-q h.third

  aside-q_back : IsAside p q (next triples (inverse q))
  aside-q_back = subst (IsAside p q) next-q_back h.other_third

  -- ---- the flip

  pub flippable : (e : ℤ) → IsOf e q → IsFlippable triples e
  flippable e (inl is) = subst (IsFlippable triples) (sym is) h.band.two_triangles
  flippable e (inr is) =
      subst (IsFlippable triples) (sym is)
      (λ k. h.band.two_triangles (sym (k ∙ ap (triangle_of triples) (laws.labels.twice q))))

  one : OneFlipLaws triples q
  one = laws.flips.flips triples q t h.band.other_label h.band.two_triangles

  -- both labels of the edge have the same flip
  pub flipped-same : (e : ℤ) → IsOf e q → flipped triples q ≡ flipped triples e
  flipped-same e (inl is) = ap (flipped triples) (sym is)
  flipped-same e (inr is) = sym one.other_side ∙ ap (flipped triples) (sym is)

  pub slides : (e : ℤ) → IsOf e q → Slides p q e (previous triples e) (previous triples (inverse e))
  slides e (inl is) =
      at_b is (ap (previous triples) is ∙ previous-q)
      (ap (λ (x : ℤ). previous triples (inverse x)) is ∙ previous-q_back)
  slides e (inr is) =
      at_d is (ap (previous triples) is ∙ previous-q_back)
      (ap (λ (x : ℤ). previous triples (inverse x)) is ∙ ap (previous triples) (laws.labels.twice q) ∙ previous-q)

  -- ---- the relabelling takes the sides after the flip to those before it

  abbrev exchange : ℤ → ℤ
  exchange x = exchanged p q x

  -- the side after x, after the flip
  abbrev next_flipped : ℤ → ℤ
  next_flipped x = next (flipped triples q) x

  stays : (x : ℤ) → IsAside p q x → exchanged p q x ≡ x
  stays x a = exchanged-other laws.labels p q h.band.apart x a.from_p a.from_p_back a.from_q a.from_q_back

  follows-p : next triples (exchanged p q p) ≡ exchanged p q (next (flipped triples q) p)
  follows-p =
      ap (next triples) (exchanged-p laws.labels p q h.band.apart)
      ∙ sym (stays (next triples (inverse q)) aside-q_back)
      ∙ ap exchange (sym one.after_b ∙ ap next_flipped previous-q)

  follows-p_back : next triples (exchanged p q (inverse p)) ≡ exchanged p q (next (flipped triples q) (inverse p))
  follows-p_back =
      ap (next triples) (exchanged-p_back laws.labels p q h.band.apart)
      ∙ sym (stays (next triples q) aside-q)
      ∙ ap exchange (sym one.after_d ∙ ap next_flipped previous-q_back)

  follows-q : next triples (exchanged p q q) ≡ exchanged p q (next (flipped triples q) q)
  follows-q =
      ap (next triples) (exchanged-q laws.labels p q h.band.apart)
      ∙ h.band.after
      ∙ sym (exchanged-p_back laws.labels p q h.band.apart)
      ∙ ap exchange (sym previous-q_back ∙ sym one.after_e)

  follows-q_back : next triples (exchanged p q (inverse q)) ≡ exchanged p q (next (flipped triples q) (inverse q))
  follows-q_back =
      ap (next triples) (exchanged-q_back laws.labels p q h.band.apart)
      ∙ h.band.after_back
      ∙ sym (exchanged-p laws.labels p q h.band.apart)
      ∙ ap exchange (sym previous-q ∙ sym one.after_inverse)

  -- the third sides
  follows-third : next triples (next triples q) ≡ exchanged p q (next (flipped triples q) (next triples q))
  follows-third =
      previous-q ∙ sym (exchanged-q laws.labels p q h.band.apart) ∙ ap exchange (sym one.after_a)

  follows-other_third : next triples (next triples (inverse q))
      ≡ exchanged p q (next (flipped triples q) (next triples (inverse q)))
  follows-other_third =
      previous-q_back ∙ sym (exchanged-q_back laws.labels p q h.band.apart) ∙ ap exchange (sym one.after_c)

  -- a side is the one that comes two after the next
  from_next : (x y : ℤ) → IsLabel triples x → next triples x ≡ y → x ≡ previous triples y
  from_next x y l k = sym (triangles.round x l) ∙ ap (previous triples) k

  -- what follows a side outside the two triangles is aside
  aside-next : (x : ℤ) → IsLabel triples x → IsAside p q x → x ≢ next triples q → x ≢ next triples (inverse q)
      → IsAside p q (next triples x)
  aside-next x l a n m = record {
    from_p = λ k. n (from_next x p l k ∙ next-q);
    from_p_back = λ k. m (from_next x (inverse p) l k ∙ next-q_back);
    from_q = λ k. a.from_p (from_next x q l k ∙ previous-q);
    from_q_back = λ k. a.from_p_back (from_next x (inverse q) l k ∙ previous-q_back);
  }

  follows-outside : (x : ℤ) → IsLabel triples x → IsAside p q x → x ≢ next triples q → x ≢ next triples (inverse q)
      → next triples x ≡ exchanged p q (next (flipped triples q) x)
  follows-outside x l a n m =
      sym (stays (next triples x) (aside-next x l a n m))
      ∙ ap exchange
      (sym
      (one.after_other x l (
        a.from_q,
        n,
        λ k. a.from_p (k ∙ previous-q),
        a.from_q_back,
        m,
        λ k. a.from_p_back (k ∙ previous-q_back),
      )))

  follows-aside : (x : ℤ) → IsLabel triples x → IsAside p q x
      → next triples x ≡ exchanged p q (next (flipped triples q) x)
  follows-aside x l a =
      elim (laws.labels.same_or_not x (next triples q)) [
        | inl is ↦
            subst (λ (y : ℤ). next triples y ≡ exchanged p q (next (flipped triples q) y)) (sym is) follows-third
        | inr n ↦
            elim (laws.labels.same_or_not x (next triples (inverse q))) [
              | inl is ↦
                  subst (λ (y : ℤ). next triples y ≡ exchanged p q (next (flipped triples q) y)) (sym is)
                  follows-other_third
              | inr m ↦ follows-outside x l a n m
            ]
      ]

  pub follows : (x : ℤ) → IsLabel triples x
      → next triples (exchanged p q x) ≡ exchanged p q (next (flipped triples q) x)
  follows x l = go (which laws.labels p q x)
    where
      at : (y : ℤ) → x ≡ y → next triples (exchanged p q y) ≡ exchanged p q (next (flipped triples q) y)
          → next triples (exchanged p q x) ≡ exchanged p q (next (flipped triples q) x)
      at y is k =
          subst (λ (z : ℤ). next triples (exchanged p q z) ≡ exchanged p q (next (flipped triples q) z)) (sym is) k

      go : Which p q x → next triples (exchanged p q x) ≡ exchanged p q (next (flipped triples q) x)
      go (is_p is) = at p is follows-p
      go (is_p_back is) = at (inverse p) is follows-p_back
      go (is_q is) = at q is follows-q
      go (is_q_back is) = at (inverse q) is follows-q_back
      go (is_other a b c d) =
          let aside : IsAside p q x = record { from_p = a; from_p_back = b; from_q = c; from_q_back = d } in
          ap (next triples) (stays x aside) ∙ follows-aside x l aside

  -- ---- the relabelling

  label_before : (x : ℤ) → IsLabel (flipped triples q) x → IsLabel triples x
  label_before x l = subst (λ (n : ℕ). edge_of x < n) one.edges l

  image_is : (x : ℤ) → IsLabel triples x → image_of (exchange_images triples p q) x ≡ exchanged p q x
  image_is x l = image_of-exchange laws p q h.band.apart triples h.band.label h.band.other_label x l

  image_label : (x : ℤ) → IsLabel triples x → IsLabel triples (image_of (exchange_images triples p q) x)
  image_label x l =
      subst (IsLabel triples) (sym (image_is x l))
      (exchanged-label laws p q h.band.apart triples x h.band.label h.band.other_label l)

  follows-image : (x : ℤ) → IsLabel triples x
      → next triples (image_of (exchange_images triples p q) x)
      ≡ image_of (exchange_images triples p q) (next (flipped triples q) x)
  follows-image x l =
      ap (next triples) (image_is x l)
      ∙ follows x l
      ∙ sym (image_is (next (flipped triples q) x) (label_before (next (flipped triples q) x) after))
    where
      after : IsLabel (flipped triples q) (next (flipped triples q) x)
      after =
          (laws.surfaces.triangles (flipped triples q) one.triangulation).label x
          (subst (λ (n : ℕ). edge_of x < n) (sym one.edges) l)

  pub relabelling : (e : ℤ) → IsOf e q → IsRelabelling (flipped triples e) triples (exchange_images triples p q)
  relabelling e is =
      subst (λ (u : List (List ℤ)). IsRelabelling u triples (exchange_images triples p q)) (flipped-same e is)
      (laws.relabellings.made (flipped triples q) triples (exchange_images triples p q)
      (images-bijection laws p q h.band.apart triples h.band.label h.band.other_label)
      (images-as_many laws p q h.band.apart triples h.band.label h.band.other_label ∙ sym one.edges) one.edges
      (carried laws (flipped triples q) triples (exchange_images triples p q) one.triangulation t
      (λ x l. image_label x (label_before x l)) (λ x l. follows-image x (label_before x l))))

  -- ---- the two moves

  label_of : (e : ℤ) → IsOf e q → IsLabel triples e
  label_of e (inl is) = subst (IsLabel triples) (sym is) h.band.other_label
  label_of e (inr is) = subst (IsLabel triples) (sym is) label_q_back

  is_flip : (e : ℤ) → IsOf e q
      → IsFlip triples (flipped triples e) e (next triples e) (previous triples e) (next triples (inverse e))
      (previous triples (inverse e))
  is_flip e is = record {
    label = label_of e is;
    flippable = flippable e is;
    side_a = refl;
    side_b = refl;
    side_c = refl;
    side_d = refl;
    result = refl;
  }

  pub annulus_path : (e : ℤ) → IsOf e q → ArePath triples (annulus_moves triples p q e) triples
  annulus_path e is = (
    flipped triples e,
    subst IsTriangulation (flipped-same e is) one.triangulation,
    is_flip e is,
    (triples, t, relabelling e is, refl),
  )

  -- ---- the vector

  -- the numbers at the sides of the two triangles
  pub record HasNumbers (e : ℤ) : Type 0 where
    pub here : weight w e ≡ 1
    pub at_a : weight w (next triples e) ≡ 0
    pub at_b : weight w (previous triples e) ≡ 1
    pub at_c : weight w (next triples (inverse e)) ≡ 0
    pub at_d : weight w (previous triples (inverse e)) ≡ 1

  numbers-q : HasNumbers q
  numbers-q = record {
    here = h.other_once;
    at_a = ap (weight w) (sym next-q) ∙ h.none;
    at_b = ap (weight w) previous-q ∙ h.once;
    at_c = ap (weight w) (sym next-q_back) ∙ h.none_there;
    at_d = ap (weight w) previous-q_back ∙ weight-inverse laws w p ∙ h.once;
  }

  numbers-q_back : HasNumbers (inverse q)
  numbers-q_back = record {
    here = weight-inverse laws w q ∙ numbers-q.here;
    at_a = numbers-q.at_c;
    at_b = numbers-q.at_d;
    at_c = ap (λ (x : ℤ). weight w (next triples x)) (laws.labels.twice q) ∙ numbers-q.at_a;
    at_d = ap (λ (x : ℤ). weight w (previous triples x)) (laws.labels.twice q) ∙ numbers-q.at_b;
  }

  numbers : (e : ℤ) → IsOf e q → HasNumbers e
  numbers e (inl is) = subst HasNumbers (sym is) numbers-q
  numbers e (inr is) = subst HasNumbers (sym is) numbers-q_back

  -- the new number is the old one
  same_number : (e : ℤ) → HasNumbers e
      → flipped_number w e (next triples e) (previous triples e) (next triples (inverse e))
      (previous triples (inverse e))
      ≡ weight w e
  same_number e n =
      ap (λ (k : ℕ). max (k + weight w (next triples (inverse e)))
      (weight w (previous triples e) + weight w (previous triples (inverse e))) - weight w e) n.at_a
      ∙ ap (λ (k : ℕ). max (0 + k) (weight w (previous triples e) + weight w (previous triples (inverse e))) - weight w e)
      n.at_c
      ∙ ap (λ (k : ℕ). max 0 (k + weight w (previous triples (inverse e))) - weight w e) n.at_b
      ∙ ap (λ (k : ℕ). max 0 (1 + k) - weight w e) n.at_d
      ∙ ap (λ (k : ℕ). 2 - k) n.here
      ∙ sym n.here

  pub annulus_fixes : (e : ℤ) → IsOf e q → length w ≡ edge_count triples → vector_along (annulus_moves triples p q e) w ≡ w
  annulus_fixes e is long =
      ap (vector_after (relabel (exchange_images triples p q)))
      (ap (λ (n : ℕ). set w (edge_of e) n) (same_number e (numbers e is)) ∙ set-get_or w (edge_of e) 0)
      ∙ exchange-fixes laws p q h.band.apart triples h.band.label h.band.other_label w long
      (h.once ∙ sym h.other_once)
