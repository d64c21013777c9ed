-- Where a legal walk goes that is glued from passes.
--
-- The train path of a pass from x to y goes from σ(x) to σ(y), so the paths of passes that follow each other are glued
-- at the labels that both have. The image of the walk without its last letter is that of the first pass without its
-- last letter and that of the rest. Each is carried along the walks at its ends, and the walk between cancels: so the
-- image is carried to the joined paths along the walks at the ends of the whole.
use Rattle.std.proofs.Common.{ℤ, List, [], ◌∷◌, ◌++◌, ◌≡◌, refl, sym, ◌∙◌, ap, subst}
use Rattle.std.specs.List.{flat_map}
use Rattle.std.proofs.lemmas.List.{append_assoc}
use Rattle.std.proofs.lemmas.List.Concat.{flat_map-append}
use Rattle.ideal_tri.specs.Words.{inverse_word, reduce, last_of, but_last}
use Rattle.ideal_tri.specs.WordLaws.{WordLaws}
use Rattle.train_track.specs.Tracks.{switches_of}
use Rattle.train_track.specs.Passes.{Pass, letters_of, AreGlued}
use Rattle.train_track.specs.TrackLaws.{ListLaws}
use Rattle.carry_map.specs.CarriedMaps.{Carrying, goes_to, connection}
use Rattle.carry_map.specs.Iterates.{joined_paths}
use Rattle.carry_map.proofs.Conjugation.{chained, nothing_carried}
use Rattle.carry_map.proofs.WordParts.{joined_at, last_of-append, but_last-append}
use Rattle.carry_map.proofs.CarriedBranches.{IsPassOnward, AllGoOnward}

-- passes glued to x ∷ w, their path, and its passes
pub record IsCarriedChain (triples : List (List ℤ)) (left_out : List ℤ) (branches : List (List ℤ)) (f : ℤ → List ℤ)
    (c : Carrying) (onward : Pass → List Pass) (passes : List Pass) (x : ℤ) (w : List ℤ) : Type 0 where
  pub path : List ℤ
  pub glued : AreGlued branches (goes_to (switches_of triples left_out) c x) (flat_map onward passes) path
  pub ends : last_of (goes_to (switches_of triples left_out) c x) path
      ≡ goes_to (switches_of triples left_out) c (last_of x w)
  pub joined : joined_paths c.images passes ++ (goes_to (switches_of triples left_out) c (last_of x w) ∷ [])
      ≡ goes_to (switches_of triples left_out) c x ∷ path
  pub along : reduce (flat_map f (but_last (x ∷ w)))
      ≡ reduce (connection f (switches_of triples left_out) c x
      ++ (joined_paths c.images passes ++ inverse_word (connection f (switches_of triples left_out) c (last_of x w))))

module _ (words : WordLaws) (triples : List (List ℤ)) (left_out : List ℤ) (branches : List (List ℤ))
    (f : ℤ → List ℤ) (c : Carrying) (lists : ListLaws triples left_out branches) (onward : Pass → List Pass)
    (each : AllGoOnward triples left_out branches f c onward) where
  abbrev to : ℤ → ℤ
  to x = goes_to (switches_of triples left_out) c x

  abbrev at : ℤ → List ℤ
  at x = connection f (switches_of triples left_out) c x

  abbrev Goes : List Pass → ℤ → List ℤ → Type 0
  Goes passes x w = IsCarriedChain triples left_out branches f c onward passes x w

  pub carried_chain : (passes : List Pass) (x : ℤ) (w : List ℤ) → AreGlued branches x passes w → Goes passes x w
  carried_chain [] x w glued =
      subst (Goes [] x) (sym glued)
      (record { path = []; glued = refl; ends = refl; joined = refl; along = nothing_carried words (at x) })
  carried_chain (p ∷ passes) x w (u, v, within, is, parts, rest) =
      let y : ℤ = last_of x u in
      let first : IsPassOnward triples left_out branches f c (letters_of c.images p) (onward p) x u =
      each p x u within is in
      let others : Goes passes y v = carried_chain passes y v rest in
      let before : List ℤ = but_last (letters_of c.images p) in
      let after : List ℤ = joined_paths c.images passes in
      subst (Goes (p ∷ passes) x) (sym parts)
      (record {
        path = first.path ++ others.path;
        glued =
            lists.join (to x) (onward p) (flat_map onward passes) first.path others.path first.glued
            (subst (λ (z : ℤ). AreGlued branches z (flat_map onward passes) others.path) (sym first.ends) others.glued);
        ends =
            last_of-append (to x) first.path others.path ∙ ap (λ (z : ℤ). last_of z others.path) first.ends
            ∙ others.ends ∙ ap to (sym (last_of-append x u v));
        joined =
            append_assoc before after (to (last_of x (u ++ v)) ∷ [])
            ∙ ap (λ (z : ℤ). before ++ (after ++ (to z ∷ []))) (last_of-append x u v)
            ∙ ap (λ (z : List ℤ). before ++ z) others.joined
            ∙ ap (λ (z : List ℤ). but_last z ++ (to y ∷ others.path)) first.is
            ∙ ap (λ (z : ℤ). but_last (to x ∷ first.path) ++ (z ∷ others.path)) (sym first.ends)
            ∙ joined_at (to x) first.path others.path;
        along =
            ap (λ (z : List ℤ). reduce (flat_map f z)) (but_last-append x u v)
            ∙ ap reduce (flat_map-append f (but_last (x ∷ u)) (but_last (y ∷ v)))
            ∙ chained words (flat_map f (but_last (x ∷ u))) (flat_map f (but_last (y ∷ v))) before after (at x) (at y)
            (at (last_of y v)) first.along others.along
            ∙ ap (λ (z : ℤ). reduce (at x ++ ((before ++ after) ++ inverse_word (at z)))) (sym (last_of-append x u v));
      })
