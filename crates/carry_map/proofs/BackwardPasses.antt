-- The passes of a walk in the other direction.
use Rattle.std.proofs.Common.{ℤ, Bool, true, false, not, List, [], ◌∷◌, ◌++◌, ◌≡◌, refl, sym, ◌∙◌, ap, subst}
use Rattle.std.proofs.Common.{append_assoc, map, get_or, if◌then◌else◌}
use Rattle.std.proofs.lemmas.List.{append-nil, reverse-append}
use Rattle.ideal_tri.specs.Labels.{inverse}
use Rattle.ideal_tri.specs.Words.{inverse_word, last_of, but_last}
use Rattle.train_track.specs.Passes.{Pass, letters_of, AreGlued}
use Rattle.carry_map.proofs.PassFacts.{turned_pass, turned_passes}
use Rattle.carry_map.proofs.TrackKnown.{TrackKnown}
use Rattle.carry_map.proofs.WordParts.{last_of-append, last_read}
use Rattle.carry_map.proofs.InverseEnds.{inverse_begun}

module _ (ts : List (List ℤ)) (out : List ℤ) (bs : List (List ℤ)) (k : TrackKnown ts out bs) where
  turned_letters : (p : Pass) → letters_of bs (turned_pass p) ≡ inverse_word (letters_of bs p)
  turned_letters p = go p.forwards
    where
      go : (b : Bool) → (if not b then get_or bs p.branch [] else inverse_word (get_or bs p.branch []))
          ≡ inverse_word (if b then get_or bs p.branch [] else inverse_word (get_or bs p.branch []))
      go true = refl
      go false = sym (k.words.inverses.twice (get_or bs p.branch []))

  pub back : (x : ℤ) (passes : List Pass) (w : List ℤ) → AreGlued bs x passes w
      → (v : List ℤ) × (inverse_word (x ∷ w) ≡ inverse (last_of x w) ∷ v)
      × AreGlued bs (inverse (last_of x w)) (turned_passes passes) v
  back x [] w h = (
    [],
    ap (λ (z : List ℤ). inverse_word (x ∷ z)) h ∙ sym (ap (λ (z : List ℤ). inverse (last_of x z) ∷ []) h),
    refl,
  )
  back x (p ∷ passes) w (u, v, within, is, split, rest) =
      let m : ℤ = last_of x u in
      let (v', e, glued) = back m passes v rest in
      let t : List ℤ = inverse_word (but_last (x ∷ u)) in
      let f : inverse_word (x ∷ u) ≡ inverse (last_of x u) ∷ t = inverse_begun k.words x u in
      let ends : last_of m v ≡ last_of x w = sym (ap (last_of x) split ∙ last_of-append x u v) in
      let one : AreGlued bs (inverse m) (turned_pass p ∷ []) t =
      (t, [], within, turned_letters p ∙ ap inverse_word is ∙ f, sym (append-nil t), refl) in (
        v' ++ t,
        ap (λ (z : List ℤ). inverse_word (x ∷ z)) split
            ∙ k.words.inverses.append (x ∷ u) v
            ∙ ap (λ (z : List ℤ). inverse_word v ++ z) f
            ∙ sym (append_assoc (inverse_word v) (inverse m ∷ []) t)
            ∙ ap (λ (z : List ℤ). z ++ t) e
            ∙ ap (λ (y : ℤ). inverse y ∷ (v' ++ t)) ends,
        subst (λ (ps : List Pass). AreGlued bs (inverse (last_of x w)) ps (v' ++ t))
            (sym (reverse-append (turned_pass p ∷ []) (map turned_pass passes)))
            (subst (λ (y : ℤ). AreGlued bs (inverse y) (turned_passes passes ++ (turned_pass p ∷ [])) (v' ++ t)) ends
            (k.list_laws.join (inverse (last_of m v)) (turned_passes passes) (turned_pass p ∷ []) v' t glued
            (subst (λ (y : ℤ). AreGlued bs y (turned_pass p ∷ []) t)
            (sym (last_read (inverse (last_of m v)) v' (inverse_word v) (inverse m) (sym e))) one))),
      )
