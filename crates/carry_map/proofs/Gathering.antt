-- The letters of a walk along the image of a branch, gathered part by part and reduced.
use Rattle.std.proofs.Common.{ℤ, List, [], ◌∷◌, ◌++◌, ◌≡◌, ◌∙◌, ap}
use Rattle.std.proofs.lemmas.List.{append_assoc}
use Rattle.std.specs.List.{flat_map}
use Rattle.ideal_tri.specs.Words.{inverse_word, reduce, but_last}
use Rattle.ideal_tri.specs.WordLaws.{WordLaws}
use Rattle.free_groupoid.specs.GroupoidMaps.{reduced_image}
use Rattle.train_track.specs.Branches.{letter_at}
use Rattle.carry_map.specs.CarriedMaps.{Carrying, goes_to, connection, final}
use Rattle.carry_map.specs.inside.Switches.{walk_from_to}

module _ (words : WordLaws) where
  -- a part may be reduced before
  reduced_part : (a m d s : List ℤ) → reduce (((a ++ reduce m) ++ d) ++ s) ≡ reduce (a ++ (m ++ (d ++ s)))
  reduced_part a m d s =
      ap reduce (append_assoc (a ++ reduce m) d s ∙ append_assoc a (reduce m) (d ++ s))
      ∙ words.reduction.right a (reduce m ++ (d ++ s)) (m ++ (d ++ s))
      (words.reduction.left (reduce m) m (d ++ s) (words.reduction.twice m))

  pub gathered : (switches : List ℤ) (f : ℤ → List ℤ) (c d : Carrying) (b : List ℤ) (u v w x back front on : List ℤ)
      (first last y : ℤ) → u ≡ inverse_word back → v ≡ u ++ front → w ≡ v ++ on → x ≡ w ++ (y ∷ [])
      → first ≡ letter_at b 0 → last ≡ final b → back ≡ connection f switches c first
      → front ≡ reduced_image f (but_last b) → on ≡ connection f switches d last → y ≡ goes_to switches d last
      → reduce x ≡ walk_from_to switches f c d b
  gathered switches f c d b u v w x back front on first last y eu ev ew ex efirst elast eback efront eon ey =
      ap reduce
      (ex
      ∙ ap (λ (z : List ℤ). z ++ (y ∷ []))
      (ew ∙ ap (λ (z : List ℤ). z ++ on)
      (ev ∙ ap (λ (z : List ℤ). z ++ front)
      (eu ∙ ap inverse_word (eback ∙ ap (connection f switches c) efirst))
      ∙ ap (λ (z : List ℤ). inverse_word from ++ z) efront)
      ∙ ap (λ (z : List ℤ). (inverse_word from ++ middle) ++ z) (eon ∙ ap (connection f switches d) elast))
      ∙ ap (λ (z : ℤ). ((inverse_word from ++ middle) ++ to) ++ (z ∷ [])) (ey ∙ ap (goes_to switches d) elast))
      ∙ reduced_part (inverse_word from) (flat_map f (but_last b)) to (goes_to switches d (final b) ∷ [])
    where
      from : List ℤ
      from = connection f switches c (letter_at b 0)

      to : List ℤ
      to = connection f switches d (final b)

      middle : List ℤ
      middle = reduced_image f (but_last b)
