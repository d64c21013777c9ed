-- The map of the flip and the relabelling of a twist, and that of the way back.
--
-- The flip takes p to q p q, and the relabelling takes this to p ~q p; it takes q to p, and all other edges stay. Back
-- again, the relabelling takes q to ~p and p to q, and the backward flip takes ~p to q ~p q. These words are reduced,
-- since the edges of p and q are different.
use Rattle.std.proofs.Common.{ℕ, ℤ, List, [], ◌∷◌, ◌≡◌, ◌≢◌, refl, sym, ◌∙◌, ap}
use Rattle.std.specs.List.{flat_map}
use Rattle.std.proofs.lemmas.List.{append-nil}
use Rattle.ideal_tri.specs.Labels.{inverse}
use Rattle.ideal_tri.specs.Relabellings.{image_of, inverse_images}
use Rattle.ideal_tri.specs.Triangulations.{IsTriangulation, IsLabel, previous}
use Rattle.ideal_tri.specs.Words.{reduce}
use Rattle.tri_atlas.specs.Arena.{flip_of}
use Rattle.tri_atlas.specs.Maps.{image_of_letter, path_map}
use Rattle.tri_atlas.specs.Moves.{Move, relabel, back_of, back_along}
use Rattle.curve_shorten.specs.Twists.{twisted, untwisted}
use Rattle.twist_compile.specs.TwistPaths.{exchanged, exchange_images}
use Rattle.twist_compile.proofs.LowerLaws.{LowerLaws}
use Rattle.twist_compile.proofs.Annuli.{IsAnnulusOf}
use Rattle.twist_compile.proofs.ExchangedLabels.{AreFour, four, is_twisted, is_untwisted, exchanged-p}
use Rattle.twist_compile.proofs.ExchangedLabels.{exchanged-q, exchanged-other}
use Rattle.twist_compile.proofs.ExchangeImages.{apart_back, image_of-exchange, image_of-exchange_back}
use Rattle.twist_compile.proofs.Slides.{Slides, Slides-back, slide-p, slide-p_back, slide-other}
use Rattle.twist_compile.proofs.TwistMoves.{IsOf, slides, annulus_moves}

module _ (laws : LowerLaws) where
  -- a letter between another, inverse, twice: reduced, if the two are of two edges
  pub reduced_between : (x y : ℤ) → x ≢ y → reduce (x ∷ (inverse y ∷ (x ∷ []))) ≡ x ∷ (inverse y ∷ (x ∷ []))
  reduced_between x y n =
      laws.words.reduction.fixed (x ∷ (inverse y ∷ (x ∷ []))) (
        λ e. n (sym (sym (laws.labels.twice y) ∙ ap inverse e ∙ laws.labels.twice x)),
        (λ e. n (e ∙ laws.labels.twice y), tt),
      )

module _ (laws : LowerLaws) (triples : List (List ℤ)) (t : IsTriangulation triples) (w : List ℕ) (p q : ℤ)
    (h : IsAnnulusOf triples w p q) (e : ℤ) (is : IsOf e q) where
  are_four : AreFour laws.labels p q
  are_four = four laws.labels p q h.band.apart

  -- where the relabelling takes labels, and where they come from
  abbrev to : ℤ → ℤ
  to x = image_of (exchange_images triples p q) x

  abbrev from : ℤ → ℤ
  from x = image_of (inverse_images (exchange_images triples p q)) x

  to_is : (x : ℤ) → IsLabel triples x → image_of (exchange_images triples p q) x ≡ exchanged p q x
  to_is x l = image_of-exchange laws p q h.band.apart triples h.band.label h.band.other_label x l

  from_is : (x : ℤ) → IsLabel triples x
      → image_of (inverse_images (exchange_images triples p q)) x ≡ exchanged q p x
  from_is x l = image_of-exchange_back laws p q h.band.apart triples h.band.label h.band.other_label x l

  there : Slides p q e (previous triples e) (previous triples (inverse e))
  there = slides laws triples t w p q h e is

  back : Slides p (inverse q) (inverse e) (previous triples e) (previous triples (inverse e))
  back = Slides-back laws.labels p q e (previous triples e) (previous triples (inverse e)) there

  -- ---- the flip and the relabelling

  -- the path takes a letter to the labels of its image under the flip
  path_image : (x : ℤ) (u : List ℤ) → image_of_letter (flip_of triples e) x ≡ u
      → path_map (annulus_moves triples p q e) x
      ≡ reduce (flat_map (path_map (relabel (exchange_images triples p q) ∷ [])) u)
  path_image x u flips =
      laws.maps.paths.cons (flip_of triples e) (relabel (exchange_images triples p q) ∷ []) x
      ∙ ap (λ (v : List ℤ). reduce (flat_map (path_map (relabel (exchange_images triples p q) ∷ [])) v)) flips

  path_image-p : path_map (annulus_moves triples p q e) p ≡ p ∷ (inverse q ∷ (p ∷ []))
  path_image-p =
      path_image p (q ∷ (p ∷ (q ∷ [])))
      (slide-p laws.labels p q e (previous triples e) (previous triples (inverse e)) there)
      ∙ ap (λ (y : ℤ). reduce (y ∷ (to p ∷ (y ∷ []))))
      (to_is q h.band.other_label ∙ exchanged-q laws.labels p q h.band.apart)
      ∙ ap (λ (y : ℤ). reduce (p ∷ (y ∷ (p ∷ []))))
      (to_is p h.band.label ∙ exchanged-p laws.labels p q h.band.apart)
      ∙ reduced_between laws p q are_four.p_q

  path_image-q : path_map (annulus_moves triples p q e) q ≡ p ∷ []
  path_image-q =
      path_image q (q ∷ [])
      (slide-other laws.labels p q e (previous triples e) (previous triples (inverse e)) there q are_four.q_p
      are_four.q_p_back)
      ∙ ap (λ (y : ℤ). y ∷ []) (to_is q h.band.other_label ∙ exchanged-q laws.labels p q h.band.apart)

  path_image-other : (x : ℤ) → IsLabel triples x → x ≢ p → x ≢ inverse p → x ≢ q → x ≢ inverse q
      → path_map (annulus_moves triples p q e) x ≡ x ∷ []
  path_image-other x l a b c d =
      path_image x (x ∷ []) (slide-other laws.labels p q e (previous triples e) (previous triples (inverse e)) there x a b)
      ∙ ap (λ (y : ℤ). y ∷ []) (to_is x l ∙ exchanged-other laws.labels p q h.band.apart x a b c d)

  pub annulus_map : (x : ℤ) → IsLabel triples x → path_map (annulus_moves triples p q e) x ≡ twisted p q x
  annulus_map x l =
      is_twisted laws.labels p q h.band.apart (path_map (annulus_moves triples p q e))
      (laws.maps.paths.odd (annulus_moves triples p q e)) (IsLabel triples) path_image-other path_image-p path_image-q x l

  -- ---- backwards

  abbrev unflip_of : Move
  unflip_of = back_of (flip_of triples e)

  back_image : (x y : ℤ) (u : List ℤ) → image_of (inverse_images (exchange_images triples p q)) x ≡ y
      → image_of_letter (back_of (flip_of triples e)) y ≡ u → reduce u ≡ u
      → path_map (back_along (annulus_moves triples p q e)) x ≡ u
  back_image x y u goes flips reduced =
      laws.maps.paths.cons (relabel (inverse_images (exchange_images triples p q))) (unflip_of ∷ []) x
      ∙ ap (λ (v : List ℤ). reduce v)
      (append-nil (path_map (unflip_of ∷ []) (from x))
      ∙ ap (path_map (unflip_of ∷ [])) goes
      ∙ ap reduce (append-nil (image_of_letter unflip_of y) ∙ flips)
      ∙ reduced)
      ∙ reduced

  back_image-p : path_map (back_along (annulus_moves triples p q e)) p ≡ q ∷ []
  back_image-p =
      back_image p q (q ∷ [])
      (from_is p h.band.label ∙ exchanged-q laws.labels q p (apart_back laws p q h.band.apart))
      (slide-other laws.labels p (inverse q) (inverse e) (previous triples e) (previous triples (inverse e)) back q
      are_four.q_p are_four.q_p_back) refl

  back_image-q : path_map (back_along (annulus_moves triples p q e)) q ≡ q ∷ (inverse p ∷ (q ∷ []))
  back_image-q =
      back_image q (inverse p) (q ∷ (inverse p ∷ (q ∷ [])))
      (from_is q h.band.other_label ∙ exchanged-p laws.labels q p (apart_back laws p q h.band.apart))
      (slide-p_back laws.labels p (inverse q) (inverse e) (previous triples e) (previous triples (inverse e)) back
      ∙ ap (λ (y : ℤ). y ∷ (inverse p ∷ (y ∷ []))) (laws.labels.twice q)) (reduced_between laws q p are_four.q_p)

  back_image-other : (x : ℤ) → IsLabel triples x → x ≢ p → x ≢ inverse p → x ≢ q → x ≢ inverse q
      → path_map (back_along (annulus_moves triples p q e)) x ≡ x ∷ []
  back_image-other x l a b c d =
      back_image x x (x ∷ [])
      (from_is x l ∙ exchanged-other laws.labels q p (apart_back laws p q h.band.apart) x c d a b)
      (slide-other laws.labels p (inverse q) (inverse e) (previous triples e) (previous triples (inverse e)) back x a
      b) refl

  pub annulus_back_map : (x : ℤ) → IsLabel triples x
      → path_map (back_along (annulus_moves triples p q e)) x ≡ untwisted p q x
  annulus_back_map x l =
      is_untwisted laws.labels p q h.band.apart (path_map (back_along (annulus_moves triples p q e)))
      (laws.maps.paths.odd (back_along (annulus_moves triples p q e))) (IsLabel triples) back_image-other back_image-p
      back_image-q x l
