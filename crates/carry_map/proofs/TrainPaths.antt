-- A branch has one train path at most, and a word that fits is one.
--
-- Let B be the branch without its last letter, c the walk at its first letter, d the walk at its last, and s the
-- label that the last letter goes to. A train path p s of the branch satisfies f B = c p d^-1, up to reduction.
-- Multiplied by c^-1 on the left and by d s on the right this is c^-1 (f B) d s = p s, and the multiplication can be
-- undone. A legal walk is reduced, so p s is the reduction of the left side. Nothing here speaks of triangles; that
-- the computed word is a walk is shown from the walks that it is made of.
use Rattle.std.proofs.Common.{ℕ, ℤ, List, [], ◌∷◌, ◌++◌, ◌≡◌, ◌≢◌, sym, ◌∙◌, ap}
use Rattle.std.proofs.lemmas.List.{append_assoc, append-nil}
use Rattle.ideal_tri.specs.Labels.{inverse}
use Rattle.ideal_tri.specs.Words.{inverse_word, IsReduced, reduce}
use Rattle.ideal_tri.specs.WordLaws.{WordLaws}
use Rattle.ideal_tri.specs.Triangulations.{IsLabel, IsWalk, triangle_of}
use Rattle.train_track.specs.Tracks.{IsLegal, IsLegalPair}

module _ (words : WordLaws) where
  -- ---- what may be multiplied and cancelled

  back_and_on : (a u : List ℤ) → reduce (inverse_word a ++ (a ++ u)) ≡ reduce u
  back_and_on a u =
      ap (λ (z : List ℤ). reduce (inverse_word a ++ (z ++ u))) (sym (words.inverses.twice a))
      ∙ words.reduction.cancel [] (inverse_word a) u

  pub solved_for_path : (b c d p s : List ℤ) → reduce b ≡ reduce (c ++ (p ++ inverse_word d))
      → reduce (inverse_word c ++ (b ++ (d ++ s))) ≡ reduce (p ++ s)
  solved_for_path b c d p s e =
      words.reduction.right (inverse_word c) (b ++ (d ++ s)) ((c ++ (p ++ inverse_word d)) ++ (d ++ s))
      (words.reduction.left b (c ++ (p ++ inverse_word d)) (d ++ s) e)
      ∙ ap (λ (z : List ℤ). reduce (inverse_word c ++ z)) (append_assoc c (p ++ inverse_word d) (d ++ s))
      ∙ back_and_on c ((p ++ inverse_word d) ++ (d ++ s))
      ∙ ap reduce (append_assoc p (inverse_word d) (d ++ s))
      ∙ words.reduction.right p (inverse_word d ++ (d ++ s)) s (back_and_on d s)

  pub solved_for_image : (b c d p s : List ℤ) → reduce (inverse_word c ++ (b ++ (d ++ s))) ≡ reduce (p ++ s)
      → reduce b ≡ reduce (c ++ (p ++ inverse_word d))
  solved_for_image b c d p s e =
      sym (words.reduction.cancel [] c b)
      ∙ words.reduction.right c (inverse_word c ++ b) (p ++ inverse_word d) (sym before)
    where
      left : List ℤ
      left = inverse_word c ++ b

      on : List ℤ
      on = d ++ s

      whole : inverse_word c ++ (b ++ on) ≡ left ++ on
      whole = sym (append_assoc (inverse_word c) b on)

      before : reduce (p ++ inverse_word d) ≡ reduce left
      before =
          sym (words.reduction.cancel p s (inverse_word d))
          ∙ ap reduce (sym (append_assoc p s (inverse_word s ++ inverse_word d)))
          ∙ words.reduction.left (p ++ s) (inverse_word c ++ (b ++ on)) (inverse_word s ++ inverse_word d) (sym e)
          ∙ ap (λ (z : List ℤ). reduce ((inverse_word c ++ (b ++ on)) ++ z)) (sym (words.inverses.append d s))
          ∙ ap (λ (z : List ℤ). reduce (z ++ inverse_word on)) whole
          ∙ ap reduce (append_assoc left on (inverse_word on))
          ∙ ap (λ (z : List ℤ). reduce (left ++ (on ++ z))) (sym (append-nil (inverse_word on)))
          ∙ words.reduction.cancel left on []
          ∙ ap reduce (append-nil left)

-- ---- legal walks are reduced

module _ (triples : List (List ℤ)) (left_out : List ℤ)
    (apart : (u v : ℤ) → IsLabel triples u → IsLegalPair triples left_out u v → v ≢ inverse u) where
  pub legal_reduced : (s t : ℕ) (w : List ℤ) → IsWalk triples s w t → IsLegal triples left_out w → IsReduced w
  legal_reduced s t [] walk legal = tt
  legal_reduced s t (x ∷ []) walk legal = tt
  legal_reduced s t (x ∷ (y ∷ w)) walk legal =
      (apart x y walk.0 legal.0, legal_reduced (triangle_of triples (inverse x)) t (y ∷ w) walk.2 legal.1)
