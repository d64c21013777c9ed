-- Where the passes of a carried track go.
--
-- A branch b from x to y goes to its train path, a legal walk from σ(x) to σ(y), and f(b without y) is carried to the
-- path without σ(y) along the walks at x and y. So f(x) f(b without x) = f(b without y) f(y), where f(x), f(y) are
-- carried to σ(x), σ(y). Solved for f(b without x), this says that b without x is carried to the path without σ(x)
-- along the walks at the inverse labels of x and y. Read backwards: the inverse of b goes to the inverse of its path in
-- the same way.
use Rattle.std.proofs.Common.{ℕ, ℤ, Bool, true, false, List, [], ◌∷◌, ◌++◌, ◌≡◌, ◌≤◌, ◌<◌, sym, ◌∙◌, ap, subst}
use Rattle.std.proofs.Common.{arith, length, get_or, if◌then◌else◌}
use Rattle.std.specs.List.{All, flat_map}
use Rattle.std.proofs.lemmas.List.{append-nil}
use Rattle.std.proofs.lemmas.List.Concat.{flat_map-append}
use Rattle.std.proofs.lemmas.List.Elements.{All-head}
use Rattle.ideal_tri.specs.Labels.{inverse}
use Rattle.ideal_tri.specs.Words.{inverse_word, reduce, last_of, but_last}
use Rattle.ideal_tri.specs.LabelLaws.{LabelLaws}
use Rattle.ideal_tri.specs.WordLaws.{WordLaws}
use Rattle.ideal_tri.specs.Triangulations.{IsLabel}
use Rattle.tri_atlas.specs.Maps.{IsOdd}
use Rattle.tri_atlas.specs.MapLaws.{SubstitutionLaws}
use Rattle.train_track.specs.Tracks.{switches_of}
use Rattle.train_track.specs.Passes.{Pass, letters_of, AreGlued, ArePassesOf}
use Rattle.carry_map.specs.CarriedMaps.{Carrying, goes_to, connection, IsTrainPath}
use Rattle.carry_map.proofs.PassFacts.{PassFacts, turned_passes}
use Rattle.carry_map.proofs.Conjugation.{carried_backwards}
use Rattle.carry_map.proofs.WordParts.{but_last_and_last}
use Rattle.carry_map.proofs.InverseEnds.{inverse_begun, but_last-inverse, last_of-inverse}
use Rattle.carry_map.proofs.CarriedSwitches.{goes_to-inverse, carried_letter}

-- the passes of a branch's train path, in the direction of the pass
abbrev pub directed : Pass → List Pass → List Pass
directed p passes = if p.forwards then passes else turned_passes passes

-- a pass with the letters x ∷ u, its path, and the passes of that
pub record IsPassOnward (triples : List (List ℤ)) (left_out : List ℤ) (branches : List (List ℤ)) (f : ℤ → List ℤ)
    (c : Carrying) (letters : List ℤ) (passes : List Pass) (x : ℤ) (u : List ℤ) : Type 0 where
  pub long : 2 ≤ length letters
  pub path : List ℤ
  pub is : letters ≡ goes_to (switches_of triples left_out) c x ∷ path
  pub label : IsLabel triples (goes_to (switches_of triples left_out) c x)
  pub glued : AreGlued branches (goes_to (switches_of triples left_out) c x) passes path
  pub ends : last_of (goes_to (switches_of triples left_out) c x) path
      ≡ goes_to (switches_of triples left_out) c (last_of x u)
  pub along : reduce (flat_map f (but_last (x ∷ u)))
      ≡ reduce (connection f (switches_of triples left_out) c x
      ++ (but_last letters ++ inverse_word (connection f (switches_of triples left_out) c (last_of x u))))

-- every pass goes so, and onward gives the passes of its path
abbrev pub AllGoOnward : List (List ℤ) → List ℤ → List (List ℤ) → (ℤ → List ℤ) → Carrying → (Pass → List Pass)
    → Type 0
AllGoOnward triples left_out branches f c onward = (p : Pass) (x : ℤ) (u : List ℤ) → p.branch < length branches
    → letters_of branches p ≡ x ∷ u
    → IsPassOnward triples left_out branches f c (letters_of c.images p) (onward p) x u

module _ (triples : List (List ℤ)) (left_out : List ℤ) (branches : List (List ℤ)) (f : ℤ → List ℤ) (c : Carrying) where
  forwards : (x : ℤ) (u path : List ℤ) (passes : List Pass) → IsTrainPath triples left_out f c (x ∷ u) path
      → ArePassesOf branches passes path → IsPassOnward triples left_out branches f c path passes x u
  forwards x u [] passes t glued = absurd (omega (arith, t.long))
  forwards x u (y ∷ v) passes t glued = record {
    long = t.long;
    path = v;
    is = ap (λ (z : ℤ). z ∷ v) t.begins;
    label = subst (IsLabel triples) t.begins t.walk.0;
    glued = subst (λ (z : ℤ). AreGlued branches z passes v) t.begins glued;
    ends = ap (λ (z : ℤ). last_of z v) (sym t.begins) ∙ t.ends;
    along = t.along;
  }

  module _ (labels : LabelLaws) (words : WordLaws) (substitutions : SubstitutionLaws) (odd : IsOdd f)
      (facts : PassFacts triples left_out branches) where
    abbrev to : ℤ → ℤ
    to x = goes_to (switches_of triples left_out) c x

    abbrev at : ℤ → List ℤ
    at x = connection f (switches_of triples left_out) c x

    backwards : (b : ℤ) (u path : List ℤ) (passes : List Pass) → IsTrainPath triples left_out f c (b ∷ u) path
        → ArePassesOf branches passes path
        → IsPassOnward triples left_out branches f c (inverse_word path) (turned_passes passes)
        (inverse (last_of b u)) (inverse_word (but_last (b ∷ u)))
    backwards b u [] passes t glued = absurd (omega (arith, t.long))
    backwards b u (y ∷ v) passes t glued =
        let (path, is, turned) = facts.back y passes v glued in
        let e : ℤ = last_of b u in
        let w : List ℤ = inverse_word (but_last (b ∷ u)) in
        let first : inverse (last_of y v) ≡ to (inverse e) =
        ap inverse t.ends ∙ sym (goes_to-inverse labels (switches_of triples left_out) c e) in
        let begun : inverse_word (b ∷ u) ≡ inverse e ∷ w = inverse_begun words b u in
        let end : last_of (inverse e) w ≡ inverse b = last_of-inverse b (inverse e) u w begun in
        let parts : f b ++ flat_map f u ≡ flat_map f (but_last (b ∷ u)) ++ f e =
        ap (flat_map f) (sym (but_last_and_last b u)) ∙ flat_map-append f (but_last (b ∷ u)) (e ∷ [])
        ∙ ap (λ (z : List ℤ). flat_map f (but_last (b ∷ u)) ++ z) (append-nil (f e)) in
        let are : All (IsLabel triples) (y ∷ v) = facts.labels y passes v t.walk.0 glued in
        record {
          long = subst (λ (n : ℕ). 2 ≤ n) (sym (words.inverses.as_long (y ∷ v))) t.long;
          path = path;
          is = is ∙ ap (λ (z : ℤ). z ∷ path) first;
          label =
              subst (IsLabel triples) first
              (All-head (IsLabel triples) (inverse (last_of y v)) path
              (subst (All (IsLabel triples)) is
              (words.inverses.labels triples (y ∷ v) are)));
          glued = subst (λ (z : ℤ). AreGlued branches z (turned_passes passes) path) first turned;
          ends =
              ap (λ (z : ℤ). last_of z path) (sym first) ∙ last_of-inverse y (inverse (last_of y v)) v path is
              ∙ ap inverse t.begins ∙ sym (goes_to-inverse labels (switches_of triples left_out) c b)
              ∙ ap to (sym end);
          along =
              ap (λ (z : List ℤ). reduce (flat_map f (but_last z))) (sym begun)
              ∙ ap (λ (z : List ℤ). reduce (flat_map f z)) (but_last-inverse b u)
              ∙ ap reduce (substitutions.back f u odd)
              ∙ carried_backwards words (f b) (flat_map f u) (flat_map f (but_last (b ∷ u))) (f e) (at (inverse b))
              (at b) (at e) (at (inverse e)) (but_last (y ∷ v)) v y (last_of y v) parts (but_last_and_last y v)
              (carried_letter words f odd (switches_of triples left_out) c b
              ∙ ap (λ (z : ℤ). reduce (at b ++ (z ∷ inverse_word (at (inverse b))))) (sym t.begins))
              (carried_letter words f odd (switches_of triples left_out) c e
              ∙ ap (λ (z : ℤ). reduce (at e ++ (z ∷ inverse_word (at (inverse e))))) (sym t.ends))
              t.along
              ∙ ap (λ (z : List ℤ). reduce (at (inverse e) ++ (z ++ inverse_word (at (inverse b)))))
              (sym (but_last-inverse y v))
              ∙ ap (λ (z : ℤ). reduce (at (inverse e) ++ (but_last (inverse_word (y ∷ v)) ++ inverse_word (at z))))
              (sym end);
        }

    -- the same where the letters of the inverse are x ∷ u
    read_backwards : (b path : List ℤ) (passes : List Pass) (x : ℤ) (u : List ℤ) → inverse_word b ≡ x ∷ u
        → IsTrainPath triples left_out f c b path → ArePassesOf branches passes path
        → IsPassOnward triples left_out branches f c (inverse_word path) (turned_passes passes) x u
    read_backwards [] path passes x u e t glued = absurd (cc)
    read_backwards (b ∷ w) path passes x u e t glued =
        let begun : inverse (last_of b w) ∷ inverse_word (but_last (b ∷ w)) ≡ x ∷ u =
        sym (inverse_begun words b w) ∙ e in
        let first : inverse (last_of b w) ≡ x = cc in
        let others : inverse_word (but_last (b ∷ w)) ≡ u = cc in
        subst
        (λ (z : ℤ). IsPassOnward triples left_out branches f c (inverse_word path) (turned_passes passes) z u) first
        (subst
        (λ (z : List ℤ). IsPassOnward triples left_out branches f c (inverse_word path) (turned_passes passes)
        (inverse (last_of b w)) z)
        others (backwards b w path passes t glued))

    pub pass_onward : (p : Pass) (passes : List Pass) (x : ℤ) (u : List ℤ) → letters_of branches p ≡ x ∷ u
        → IsTrainPath triples left_out f c (get_or branches p.branch []) (get_or c.images p.branch [])
        → ArePassesOf branches passes (get_or c.images p.branch [])
        → IsPassOnward triples left_out branches f c (letters_of c.images p) (directed p passes) x u
    pass_onward p passes x u is t glued = go p.forwards is
      where
        b : List ℤ
        b = get_or branches p.branch []

        path : List ℤ
        path = get_or c.images p.branch []

        go : (d : Bool) → (if d then b else inverse_word b) ≡ x ∷ u
            → IsPassOnward triples left_out branches f c (if d then path else inverse_word path)
            (if d then passes else turned_passes passes) x u
        go true e = forwards x u path passes (subst (λ (z : List ℤ). IsTrainPath triples left_out f c z path) e t) glued
        go false e = read_backwards b path passes x u e t glued
