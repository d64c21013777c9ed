-- The maps of moves: flips, backward flips and relabellings.
--
-- Each fact is shown for the three kinds of moves. That maps respect inverses, that the images of letters are walks,
-- and that a move and its backward move undo each other is shown elsewhere for flips; for relabellings it says that
-- the inverse images are the bijection backwards, and that a relabelling goes with the order of the sides of
-- triangles.
--
-- A flip leaves triangles in their places. A relabelling moves the triangle with the number t to that of the image of
-- its first side. Labels of one triangle have images in one triangle, so this is the triangle of the image of any of
-- its sides: the map of the move is a map of walks. Back again, the image of a first side lies where the first side
-- of its triangle does, and is taken back to the label that it came from; so each triangle comes back.
use Rattle.std.proofs.Common.{ℕ, ℤ, pos, List, [], ◌∷◌, ◌≡◌, ◌<◌, refl, sym, ◌∙◌, ap, subst, length, get_or, arith}
use Rattle.std.specs.List.{All}
use Rattle.std.proofs.lemmas.List.{get_or_default}
use Rattle.std.proofs.lemmas.List.Elements.{All-nil, All-cons}
use Rattle.ideal_tri.specs.Labels.{inverse, edge_of}
use Rattle.ideal_tri.specs.Triangulations.{IsTriangulation, IsLabel, IsWalk, triangle_of}
use Rattle.ideal_tri.specs.Relabellings.{image_of, inverse_images, IsRelabelling}
use Rattle.tri_atlas.specs.Moves.{Move, flip, unflip, relabel, IsMove, back_of, first_side, triangle_image}
use Rattle.tri_atlas.specs.Maps.{IsOdd, after, flip_image, image_of_letter, IsMap}
use Rattle.tri_atlas.specs.MapLaws.{MoveLaws}
use Rattle.tri_atlas.proofs.LowerLaws.{LowerLaws}
use Rattle.tri_atlas.proofs.FlipImages.{flip_image-odd, flip_image-undone, IsApart-inverse}
use Rattle.tri_atlas.proofs.Flips.{flip_length, sides_apart, label_after_flip, label_before_flip, flip_image-labels}
use Rattle.tri_atlas.proofs.Flips.{flip_walk, unflip_walk}

module _ (laws : LowerLaws) where
  pub image_of_letter-odd : (m : Move) → IsOdd (image_of_letter m)
  image_of_letter-odd (flip e a b c d) = flip_image-odd laws e b d
  image_of_letter-odd (unflip e a b c d) = flip_image-odd laws (inverse e) b d
  image_of_letter-odd (relabel images) = λ x. ap (λ (y : ℤ). y ∷ []) (laws.bijections.inverse images x)

  -- the letters of the image of a label are labels
  pub image_of_letter-labels : (before target : List (List ℤ)) (m : Move) (x : ℤ) → IsMove before target m
      → IsLabel before x
      → All (IsLabel target) (image_of_letter m x)
  image_of_letter-labels before target (flip e a b c d) x h l =
      flip_image-labels laws target e b d x (label_after_flip laws before target e a b c d e h h.label)
      (label_after_flip laws before target e a b c d x h l)
  image_of_letter-labels before target (unflip e a b c d) x h l =
      flip_image-labels laws target (inverse e) b d x (laws.labels.label target e h.label)
      (label_before_flip laws target before e a b c d x h l)
  image_of_letter-labels before target (relabel images) x h l =
      All-cons (IsLabel target) _ [] (laws.relabellings.label before target images x h l) (All-nil (IsLabel target))

  -- ---- the move backwards

  IsMove-back : (before target : List (List ℤ)) (m : Move) → IsTriangulation before → IsTriangulation target
      → IsMove before target m
      → IsMove target before (back_of m)
  IsMove-back before target (flip e a b c d) p t h = h
  IsMove-back before target (unflip e a b c d) p t h = h
  IsMove-back before target (relabel images) p t h =
      laws.relabellings.back before target images p t h

  pub image_undone : (before target : List (List ℤ)) (images : List ℤ) (x : ℤ) → IsRelabelling before target images
      → IsLabel before x
      → image_of (inverse_images images) (image_of images x) ≡ x
  image_undone before target images x h l =
      laws.bijections.there_and_back images x (laws.relabellings.bijection before target images h)
      (subst (λ (n : ℕ). edge_of x < n) (sym h.one_per_edge) l)

  pub move_undone : (before target : List (List ℤ)) (m : Move) (x : ℤ) → IsTriangulation before → IsTriangulation target
      → IsMove before target m → IsLabel before x → after (image_of_letter (back_of m)) (image_of_letter m) x ≡ x ∷ []
  move_undone before target (flip e a b c d) x p t h l =
      flip_image-undone laws e b d x (sides_apart laws before target e a b c d (laws.surfaces.triangles before p) h)
  move_undone before target (unflip e a b c d) x p t h l =
      subst (λ (z : ℤ). after (flip_image z b d) (flip_image (inverse e) b d) x ≡ x ∷ []) (laws.labels.twice e)
      (flip_image-undone laws (inverse e) b d x
      (IsApart-inverse laws e b d (sides_apart laws target before e a b c d (laws.surfaces.triangles target t) h)))
  move_undone before target (relabel images) x p t h l =
      ap (λ (y : ℤ). y ∷ []) (image_undone before target images x h l)

  back_twice : (before target : List (List ℤ)) (m : Move) → IsMove before target m → back_of (back_of m) ≡ m
  back_twice before target (flip e a b c d) h = refl
  back_twice before target (unflip e a b c d) h = refl
  back_twice before target (relabel images) h =
      ap relabel (laws.bijections.twice images (laws.relabellings.bijection before target images h))

  -- ---- triangles

  -- the first side of a triangle is a label, and lies there
  first_side_of : (triples : List (List ℤ)) (t : ℕ) → IsTriangulation triples → t < length triples
      → IsLabel triples (first_side triples t) × (triangle_of triples (first_side triples t) ≡ t)
  first_side_of triples t p below =
      let some : 0 < length (get_or triples t []) = omega (arith, p.three_sides t [] below) in
      (laws.surfaces.triangles triples p).listed t (first_side triples t) below
      (0, some, get_or_default (get_or triples t []) 0 (first_side triples t) (pos 0) some)

  -- a relabelling moves the triangle of a label to that of its image
  image_of_triangle : (before target : List (List ℤ)) (images : List ℤ) (x : ℤ)
      → IsTriangulation before → IsTriangulation target → IsRelabelling before target images → IsLabel before x
      → triangle_image before target (relabel images) (triangle_of before x) ≡ triangle_of target (image_of images x)
  image_of_triangle before target images x p t h l =
      let (label, there) =
      first_side_of before (triangle_of before x) p ((laws.surfaces.triangles before p).triangle x l) in
      laws.relabellings.one_triangle before target images
      (first_side before (triangle_of before x)) x p t h label l there

  triangle_within : (before target : List (List ℤ)) (m : Move) (t : ℕ) → IsTriangulation before
      → IsTriangulation target → IsMove before target m → t < length before
      → triangle_image before target m t < length target
  triangle_within before target (flip e a b c d) t p q h below =
      subst (λ (n : ℕ). t < n) (sym (flip_length laws before target e a b c d h)) below
  triangle_within before target (unflip e a b c d) t p q h below =
      subst (λ (n : ℕ). t < n) (flip_length laws target before e a b c d h) below
  triangle_within before target (relabel images) t p q h below =
      let (label, there) = first_side_of before t p below in
      (laws.surfaces.triangles target q).triangle _
      (laws.relabellings.label before target images (first_side before t) h label)

  -- the move backwards brings each triangle back
  triangle_undone : (before target : List (List ℤ)) (m : Move) (t : ℕ) → IsTriangulation before
      → IsTriangulation target → IsMove before target m → t < length before
      → triangle_image target before (back_of m) (triangle_image before target m t) ≡ t
  triangle_undone before target (flip e a b c d) t p r h below = refl
  triangle_undone before target (unflip e a b c d) t p r h below = refl
  triangle_undone before target (relabel images) t p r h below =
      let x : ℤ = first_side before t in
      let (label, there) = first_side_of before t p below in
      image_of_triangle target before (inverse_images images) (image_of images x) r p
      (laws.relabellings.back before target images p r h) (laws.relabellings.label before target images x h label)
      ∙ ap (triangle_of before) (image_undone before target images x h label)
      ∙ there

  -- ---- walks

  image_walk : (before target : List (List ℤ)) (m : Move) (x : ℤ)
      → IsTriangulation before → IsTriangulation target → IsMove before target m → IsLabel before x
      → IsWalk target (triangle_image before target m (triangle_of before x)) (image_of_letter m x)
      (triangle_image before target m (triangle_of before (inverse x)))
  image_walk before target (flip e a b c d) x p t h l =
      flip_walk laws before target e a b c d x (laws.surfaces.triangles before p) (laws.surfaces.walks target t)
      (laws.flips.flips before e p h.label h.flippable) h l
  image_walk before target (unflip e a b c d) x p t h l =
      unflip_walk laws target before e a b c d x (laws.surfaces.triangles target t) (laws.surfaces.walks target t)
      (laws.flips.flips target e t h.label h.flippable) h l
  image_walk before target (relabel images) x p t h l = (
    laws.relabellings.label before target images x h l,
    sym (image_of_triangle before target images x p t h l),
    ap (triangle_of target) (sym (laws.bijections.inverse images x))
        ∙ sym (image_of_triangle before target images (inverse x) p t h (laws.labels.label before x l)),
  )

  IsMap-move : (before target : List (List ℤ)) (m : Move)
      → IsTriangulation before → IsTriangulation target → IsMove before target m
      → IsMap before target (image_of_letter m) (triangle_image before target m)
  IsMap-move before target m p t h = record {
    odd = image_of_letter-odd m;
    within = λ n below. triangle_within before target m n p t h below;
    walks = λ x l. image_walk before target m x p t h l;
  }

  -- ---- the laws

  pub move_laws : MoveLaws
  move_laws = record {
    odd = image_of_letter-odd;
    maps = IsMap-move;
    back = IsMove-back;
    twice = back_twice;
    undo = move_undone;
    undo_triangle = triangle_undone;
  }
