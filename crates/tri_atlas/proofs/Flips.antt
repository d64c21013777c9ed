-- What the sides of a flip say: the flipped edge is apart from b and d, labels stay labels, and images of letters are
-- walks.
--
-- The edge e is not folded, so its labels lie in two triangles, e in that of a and b, ~e in that of c and d. A side
-- of its own triangle other than e is not e, and a side of the other triangle lies elsewhere: so e and ~e are neither
-- b nor d. The flip replaces two triples by two others, and the numbers of triangles and edges stay.
--
-- Only b and d change triangles: b leaves that of e for that of ~e, and d goes the other way. Let u(x) be what is put
-- before x. Then u(x) is a walk in the new triangulation from where x was to where x is now: a step across e for b,
-- one across ~e for d, none for the others. So u(x) x u(~x)^-1 is a walk from where x was to where ~x was. Backwards
-- the same holds with ~e for e, and both cases are one lemma on such an exchange.
use Rattle.std.proofs.Common.{ℕ, ℤ, List, [], ◌∷◌, ◌≡◌, ◌≢◌, ◌<◌, ◌*◌, ◌/◌, refl, sym, ◌∙◌, ap, subst, length}
use Rattle.std.proofs.Common.{slice_set, length-set}
use Rattle.std.specs.List.{All}
use Rattle.std.proofs.lemmas.List.Elements.{All-nil, All-cons, All-append}
use Rattle.ideal_tri.specs.Labels.{inverse, edge_of}
use Rattle.ideal_tri.specs.Words.{inverse_word}
use Rattle.ideal_tri.specs.SurfaceLaws.{TriangleLaws, WalkLaws}
use Rattle.ideal_tri.specs.FlipLaws.{OneFlipLaws}
use Rattle.ideal_tri.specs.Flips.{flipped}
use Rattle.ideal_tri.specs.Triangulations.{IsLabel, IsWalk, edge_count, triangle_of, next, previous}
use Rattle.tri_atlas.specs.Moves.{IsFlip}
use Rattle.tri_atlas.specs.Maps.{step_before, flip_image}
use Rattle.tri_atlas.proofs.LowerLaws.{LowerLaws}
use Rattle.tri_atlas.proofs.FlipImages.{Side, side_of_flip, at_b, at_d, elsewhere, step_before-b, step_before-d}
use Rattle.tri_atlas.proofs.FlipImages.{step_before-other, IsApart}

-- b has left the triangle of e for that of inverse e, and d has gone the other way; `from` are the triangles before
record IsSlide (triples : List (List ℤ)) (e b d : ℤ) (from : ℤ → ℕ) : Type 0 where
  label : IsLabel triples e
  from_b : triangle_of triples e ≡ from b
  to_b : triangle_of triples (inverse e) ≡ triangle_of triples b
  from_d : triangle_of triples (inverse e) ≡ from d
  to_d : triangle_of triples e ≡ triangle_of triples d
  others : (x : ℤ) → IsLabel triples x → x ≢ b → x ≢ d → from x ≡ triangle_of triples x

module _ (laws : LowerLaws) where
  -- ---- the flipped edge is apart from the sides b and d

  triangle_of-previous : (triples : List (List ℤ)) (x : ℤ) → TriangleLaws triples → IsLabel triples x
      → triangle_of triples (previous triples x) ≡ triangle_of triples x
  triangle_of-previous triples x t l = t.stays (next triples x) (t.label x l) ∙ t.stays x l

  pub sides_apart : (before target : List (List ℤ)) (e a b c d : ℤ) → TriangleLaws before
      → IsFlip before target e a b c d → IsApart e b d
  sides_apart before target e a b c d t h = record {
    from_b = λ k. (t.moves e h.label).1 (sym (k ∙ h.side_b));
    from_d = λ k. h.flippable
        (ap (triangle_of before) (k ∙ h.side_d) ∙ triangle_of-previous before (inverse e) t other);
    back_from_b =
        λ k. h.flippable (sym (ap (triangle_of before) (k ∙ h.side_b) ∙ triangle_of-previous before e t h.label));
    back_from_d = λ k. (t.moves (inverse e) other).1 (sym (k ∙ h.side_d));
  }
    where
      other : IsLabel before (inverse e)
      other = laws.labels.label before e h.label

  -- ---- a flip keeps the numbers of triangles and edges

  length-flipped : (triples : List (List ℤ)) (e : ℤ) → length (flipped triples e) ≡ length triples
  length-flipped triples e =
      length-set
      (slice_set triples (triangle_of triples e) (e ∷ (previous triples (inverse e) ∷ (next triples e ∷ []))))
      (triangle_of triples (inverse e))
      (inverse e ∷ (previous triples e ∷ (next triples (inverse e) ∷ [])))
      ∙ length-set triples (triangle_of triples e) (e ∷ (previous triples (inverse e) ∷ (next triples e ∷ [])))

  pub flip_length : (before target : List (List ℤ)) (e a b c d : ℤ) → IsFlip before target e a b c d
      → length target ≡ length before
  flip_length before target e a b c d h = ap length h.result ∙ length-flipped before e

  pub flip_edges : (before target : List (List ℤ)) (e a b c d : ℤ) → IsFlip before target e a b c d
      → edge_count target ≡ edge_count before
  flip_edges before target e a b c d h = ap (λ (n : ℕ). 3 * n / 2) (flip_length before target e a b c d h)

  pub label_after_flip : (before target : List (List ℤ)) (e a b c d x : ℤ) → IsFlip before target e a b c d
      → IsLabel before x → IsLabel target x
  label_after_flip before target e a b c d x h l =
      subst (λ (n : ℕ). edge_of x < n) (sym (flip_edges before target e a b c d h)) l

  pub label_before_flip : (before target : List (List ℤ)) (e a b c d x : ℤ) → IsFlip before target e a b c d
      → IsLabel target x → IsLabel before x
  label_before_flip before target e a b c d x h l =
      subst (λ (n : ℕ). edge_of x < n) (flip_edges before target e a b c d h) l

  -- ---- the letters of an image

  step_labels : (triples : List (List ℤ)) (e b d x : ℤ) → IsLabel triples e
      → All (IsLabel triples) (step_before e b d x)
  step_labels triples e b d x l = go (side_of_flip laws b d x)
    where
      one : (y : ℤ) → IsLabel triples y → All (IsLabel triples) (y ∷ [])
      one y m = All-cons (IsLabel triples) y [] m (All-nil (IsLabel triples))

      go : Side b d x → All (IsLabel triples) (step_before e b d x)
      go (at_b h) = subst (All (IsLabel triples)) (sym (step_before-b laws e b d x h)) (one e l)
      go (at_d n h) =
          subst (All (IsLabel triples)) (sym (step_before-d laws e b d x n h))
          (one (inverse e) (laws.labels.label triples e l))
      go (elsewhere n m) =
          subst (All (IsLabel triples)) (sym (step_before-other laws e b d x n m)) (All-nil (IsLabel triples))

  pub flip_image-labels : (triples : List (List ℤ)) (e b d x : ℤ) → IsLabel triples e → IsLabel triples x
      → All (IsLabel triples) (flip_image e b d x)
  flip_image-labels triples e b d x l m =
      All-append (IsLabel triples) (step_before e b d x) (x ∷ inverse_word (step_before e b d (inverse x)))
      (step_labels triples e b d x l)
      (All-cons (IsLabel triples) x (inverse_word (step_before e b d (inverse x))) m
      (laws.words.inverses.labels triples (step_before e b d (inverse x)) (step_labels triples e b d (inverse x) l)))

  -- ---- the image of a letter is a walk

  step_walk : (triples : List (List ℤ)) (e b d : ℤ) (from : ℤ → ℕ) (x : ℤ) → IsSlide triples e b d from
      → IsLabel triples x
      → IsWalk triples (from x) (step_before e b d x) (triangle_of triples x)
  step_walk triples e b d from x h l = go (side_of_flip laws b d x)
    where
      go : Side b d x → IsWalk triples (from x) (step_before e b d x) (triangle_of triples x)
      go (at_b k) =
          subst (λ (w : List ℤ). IsWalk triples (from x) w (triangle_of triples x)) (sym (step_before-b laws e b d x k))
          (h.label, h.from_b ∙ ap from (sym k), h.to_b ∙ ap (triangle_of triples) (sym k))
      go (at_d n k) =
          subst (λ (w : List ℤ). IsWalk triples (from x) w (triangle_of triples x))
          (sym (step_before-d laws e b d x n k)) (
            laws.labels.label triples e h.label,
            h.from_d ∙ ap from (sym k),
            ap (triangle_of triples) (laws.labels.twice e) ∙ h.to_d ∙ ap (triangle_of triples) (sym k),
          )
      go (elsewhere n m) =
          subst (λ (w : List ℤ). IsWalk triples (from x) w (triangle_of triples x))
          (sym (step_before-other laws e b d x n m))
          (h.others x l n m)

  slide_walk : (triples : List (List ℤ)) (e b d : ℤ) (from : ℤ → ℕ) (x : ℤ) → WalkLaws triples
      → IsSlide triples e b d from → IsLabel triples x
      → IsWalk triples (from x) (flip_image e b d x) (from (inverse x))
  slide_walk triples e b d from x walks h l =
      walks.join (from x) (triangle_of triples x) (from (inverse x)) (step_before e b d x)
      (x ∷ inverse_word (step_before e b d (inverse x)))
      (step_walk triples e b d from x h l) (
        l,
        refl,
        walks.back (from (inverse x)) (triangle_of triples (inverse x)) (step_before e b d (inverse x))
            (step_walk triples e b d from (inverse x) h (laws.labels.label triples x l)),
      )

  -- ---- triangles before and after a flip

  at_side_b : (before target : List (List ℤ)) (e a b c d : ℤ) → TriangleLaws before → IsFlip before target e a b c d
      → triangle_of before b ≡ triangle_of before e
  at_side_b before target e a b c d t h = ap (triangle_of before) h.side_b ∙ triangle_of-previous before e t h.label

  at_side_d : (before target : List (List ℤ)) (e a b c d : ℤ) → TriangleLaws before → IsFlip before target e a b c d
      → triangle_of before d ≡ triangle_of before (inverse e)
  at_side_d before target e a b c d t h =
      ap (triangle_of before) h.side_d ∙ triangle_of-previous before (inverse e) t (laws.labels.label before e h.label)

  now_b : (before target : List (List ℤ)) (e a b c d : ℤ) → OneFlipLaws before e → IsFlip before target e a b c d
      → triangle_of target b ≡ triangle_of before (inverse e)
  now_b before target e a b c d q h =
      ap (λ (t : List (List ℤ)). triangle_of t b) h.result ∙ ap (triangle_of (flipped before e)) h.side_b ∙ q.moved_b

  now_d : (before target : List (List ℤ)) (e a b c d : ℤ) → OneFlipLaws before e → IsFlip before target e a b c d
      → triangle_of target d ≡ triangle_of before e
  now_d before target e a b c d q h =
      ap (λ (t : List (List ℤ)). triangle_of t d) h.result ∙ ap (triangle_of (flipped before e)) h.side_d ∙ q.moved_d

  kept_triangle : (before target : List (List ℤ)) (e a b c d x : ℤ) → OneFlipLaws before e
      → IsFlip before target e a b c d
      → IsLabel before x → x ≢ b → x ≢ d → triangle_of target x ≡ triangle_of before x
  kept_triangle before target e a b c d x q h l n m =
      ap (λ (t : List (List ℤ)). triangle_of t x) h.result
      ∙ q.stays x l (λ k. n (k ∙ sym h.side_b)) (λ k. m (k ∙ sym h.side_d))

  -- the triangles of the flipped edge stay, those of b and d change places
  slides : (before target : List (List ℤ)) (e a b c d : ℤ) → TriangleLaws before → OneFlipLaws before e
      → IsFlip before target e a b c d
      → IsSlide target e b d (triangle_of before)
  slides before target e a b c d t q h = record {
    label = label_after_flip before target e a b c d e h h.label;
    from_b = kept e h.label apart.from_b apart.from_d ∙ sym (at_side_b before target e a b c d t h);
    to_b = kept (inverse e) other apart.back_from_b apart.back_from_d ∙ sym (now_b before target e a b c d q h);
    from_d = kept (inverse e) other apart.back_from_b apart.back_from_d ∙ sym (at_side_d before target e a b c d t h);
    to_d = kept e h.label apart.from_b apart.from_d ∙ sym (now_d before target e a b c d q h);
    others = λ x l n m. sym (kept x (label_before_flip before target e a b c d x h l) n m);
  }
    where
      apart : IsApart e b d
      apart = sides_apart before target e a b c d t h

      other : IsLabel before (inverse e)
      other = laws.labels.label before e h.label

      kept : (x : ℤ) → IsLabel before x → x ≢ b → x ≢ d → triangle_of target x ≡ triangle_of before x
      kept x l n m = kept_triangle before target e a b c d x q h l n m

  -- and backwards
  slides_back : (before target : List (List ℤ)) (e a b c d : ℤ) → TriangleLaws before → OneFlipLaws before e
      → IsFlip before target e a b c d
      → IsSlide before (inverse e) b d (triangle_of target)
  slides_back before target e a b c d t q h = record {
    label = laws.labels.label before e h.label;
    from_b = sym (now_b before target e a b c d q h);
    to_b = ap (triangle_of before) (laws.labels.twice e) ∙ sym (at_side_b before target e a b c d t h);
    from_d = ap (triangle_of before) (laws.labels.twice e) ∙ sym (now_d before target e a b c d q h);
    to_d = sym (at_side_d before target e a b c d t h);
    others = λ x l n m. kept_triangle before target e a b c d x q h l n m;
  }

  pub flip_walk : (before target : List (List ℤ)) (e a b c d x : ℤ) → TriangleLaws before → WalkLaws target
      → OneFlipLaws before e
      → IsFlip before target e a b c d → IsLabel before x
      → IsWalk target (triangle_of before x) (flip_image e b d x) (triangle_of before (inverse x))
  flip_walk before target e a b c d x t walks q h l =
      slide_walk target e b d (triangle_of before) x walks (slides before target e a b c d t q h)
      (label_after_flip before target e a b c d x h l)

  pub unflip_walk : (before target : List (List ℤ)) (e a b c d x : ℤ) → TriangleLaws before → WalkLaws before
      → OneFlipLaws before e
      → IsFlip before target e a b c d → IsLabel target x
      → IsWalk before (triangle_of target x) (flip_image (inverse e) b d x) (triangle_of target (inverse x))
  unflip_walk before target e a b c d x t walks q h l =
      slide_walk before (inverse e) b d (triangle_of target) x walks (slides_back before target e a b c d t q h)
      (label_before_flip before target e a b c d x h l)
