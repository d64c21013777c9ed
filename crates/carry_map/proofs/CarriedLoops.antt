-- Where the closed legal walks of a carried track go: all that is shown of one carrying.
--
-- A closed walk that begins at a switch label x is glued, with x once more, from passes of branches. It goes from x to
-- x, so the joined train paths, with σ(x) once more, are glued from passes from σ(x) to σ(x): they are a closed legal
-- walk. The image of the walk is carried to it along the walk at x, there and back. The matrix counts the passes.
use Rattle.std.proofs.Common.{ℕ, refl, ℤ, List, [], ◌∷◌, ◌++◌, ◌≡◌, ◌<◌, ◌≤◌, ◌⊎◌, inl, inr, sym, ◌∙◌, ap, subst}
use Rattle.std.proofs.Common.{arith, length, get_or, length-append}
use Rattle.std.specs.List.{All, flat_map}
use Rattle.std.proofs.lemmas.Bool.{cases_lt}
use Rattle.ideal_tri.specs.Words.{inverse_word, reduce, last_of, but_last}
use Rattle.ideal_tri.specs.LabelLaws.{LabelLaws}
use Rattle.ideal_tri.specs.WordLaws.{WordLaws}
use Rattle.ideal_tri.specs.Triangulations.{IsTriangulation, IsLabel}
use Rattle.tri_atlas.specs.Maps.{IsMap}
use Rattle.tri_atlas.specs.MapLaws.{MapLaws}
use Rattle.train_track.specs.Tracks.{IsSingleInTriangles, switches_of}
use Rattle.train_track.specs.Branches.{IsBranchList}
use Rattle.train_track.specs.Passes.{Pass, letters_of, AreGlued, ArePassesOf}
use Rattle.train_track.specs.TrackLaws.{TrackLaws, ListLaws}
use Rattle.transition_matrix.specs.Matrices.{Square, entry}
use Rattle.transition_matrix.specs.Bounds.{applied}
use Rattle.carry_map.specs.CarriedMaps.{Carrying, goes_to, connection, IsCarried}
use Rattle.carry_map.specs.Iterates.{IsLegalLoop, ArePassesRound, IsTransition, passed, joined_paths}
use Rattle.carry_map.proofs.PassFacts.{PassFacts}
use Rattle.carry_map.proofs.CarriedFacts.{CarriedFacts}
use Rattle.carry_map.proofs.WordParts.{last_of-append, all_left}
use Rattle.carry_map.proofs.WordEnds.{front_is}
use Rattle.carry_map.proofs.CarriedBranches.{IsPassOnward, AllGoOnward, directed, pass_onward}
use Rattle.carry_map.proofs.CarriedChains.{IsCarriedChain, carried_chain}
use Rattle.carry_map.proofs.CarriedCounts.{passed-directed, glued_within, counted_onward}

-- ---- the passes of the train path of each branch

module _ (branches images : List (List ℤ)) (m : Square) (t : IsTransition branches images m) where
  abbrev column : (j : ℕ) → (j < m.size) ⊎ (m.size ≤ j) → List Pass
  column j (inl within) = (t.passes j within).0
  column j (inr over) = []

  -- and of each pass, in its direction
  abbrev pub onward_of : Pass → List Pass
  onward_of p = directed p (column p.branch (cases_lt p.branch m.size))

  column_passes : (j : ℕ) (d : (j < m.size) ⊎ (m.size ≤ j)) → j < m.size
      → ArePassesOf branches (column j d) (get_or images j [])
  column_passes j (inl within) h = (t.passes j within).1
  column_passes j (inr over) h = absurd (omega arith)

  column_counts : (j : ℕ) (d : (j < m.size) ⊎ (m.size ≤ j)) → j < m.size → (i : ℕ) → i < m.size
      → passed (column j d) i ≡ entry m i j
  column_counts j (inl within) h i inside = sym ((t.passes j within).2 i inside)
  column_counts j (inr over) h i inside = absurd (omega arith)

  onward_counts : (i : ℕ) → i < m.size → (p : Pass) → p.branch < m.size
      → passed (onward_of p) i ≡ entry m i p.branch
  onward_counts i inside p within =
      let d : (p.branch < m.size) ⊎ (m.size ≤ p.branch) = cases_lt p.branch m.size in
      passed-directed p (column p.branch d) i ∙ column_counts p.branch d within i inside

  pub counted : (x : ℤ) (passes : List Pass) (w : List ℤ) (i : ℕ) → AreGlued branches x passes w → i < m.size
      → passed (flat_map onward_of passes) i ≡ applied m (passed passes) i
  counted x passes w i glued inside =
      counted_onward m onward_of i (onward_counts i inside) passes
      (subst (λ (n : ℕ). All (λ p. p.branch < n) passes) (sym t.size) (glued_within branches x passes w glued))

-- ---- closed walks

-- a word of two letters or more, without its last letter, has a first letter
still_begun : (letters : List ℤ) (y : ℤ) (path : List ℤ) → letters ≡ y ∷ path → 2 ≤ length letters
    → (rest : List ℤ) × (but_last letters ≡ y ∷ rest)
still_begun letters y [] e long = absurd (let few : length letters ≡ 1 = ap length e in omega arith)
still_begun letters y (z ∷ path) e long = (but_last (z ∷ path), ap but_last e)

-- the joined paths of passes glued to the closed walk x ∷ w
record IsLoopOnward (triples : List (List ℤ)) (left_out : List ℤ) (branches : List (List ℤ)) (f : ℤ → List ℤ)
    (c : Carrying) (onward : Pass → List Pass) (passes : List Pass) (x : ℤ) (w : List ℤ) : Type 0 where
  rest : List ℤ
  is : joined_paths c.images passes ≡ goes_to (switches_of triples left_out) c x ∷ rest
  label : IsLabel triples (goes_to (switches_of triples left_out) c x)
  glued : AreGlued branches (goes_to (switches_of triples left_out) c x) (flat_map onward passes)
      (rest ++ (goes_to (switches_of triples left_out) c x ∷ []))
  image : reduce (flat_map f (x ∷ w))
      ≡ reduce (connection f (switches_of triples left_out) c x
      ++ (joined_paths c.images passes ++ inverse_word (connection f (switches_of triples left_out) c x)))

module _ (words : WordLaws) (triples : List (List ℤ)) (left_out : List ℤ) (branches : List (List ℤ))
    (f : ℤ → List ℤ) (c : Carrying) (lists : ListLaws triples left_out branches) (onward : Pass → List Pass)
    (each : AllGoOnward triples left_out branches f c onward) where
  abbrev to : ℤ → ℤ
  to x = goes_to (switches_of triples left_out) c x

  abbrev at : ℤ → List ℤ
  at x = connection f (switches_of triples left_out) c x

  loop_onward : (passes : List Pass) (x : ℤ) (w : List ℤ) → AreGlued branches x passes (w ++ (x ∷ []))
      → IsLoopOnward triples left_out branches f c onward passes x w
  loop_onward [] x w glued = absurd (let long : length (w ++ (x ∷ [])) ≡ 0 = ap length glued in
      omega (arith, length-append w (x ∷ [])))
  loop_onward (p ∷ passes) x w (u, v, within, is, parts, others) =
      let first : IsPassOnward triples left_out branches f c (letters_of c.images p) (onward p) x u =
      each p x u within is in
      let chain : IsCarriedChain triples left_out branches f c onward (p ∷ passes) x (w ++ (x ∷ [])) =
      carried_chain words triples left_out branches f c lists onward each (p ∷ passes) x (w ++ (x ∷ []))
      (u, v, within, is, parts, others) in
      let back : last_of x (w ++ (x ∷ [])) ≡ x = last_of-append x w (x ∷ []) in
      let (head, begun) = still_begun (letters_of c.images p) (to x) first.path first.is first.long in
      let rest : List ℤ = head ++ joined_paths c.images passes in
      let whole : joined_paths c.images (p ∷ passes) ≡ to x ∷ rest =
      ap (λ (z : List ℤ). z ++ joined_paths c.images passes) begun in
      let path : to x ∷ (rest ++ (to x ∷ [])) ≡ to x ∷ chain.path =
      ap (λ (z : List ℤ). z ++ (to x ∷ [])) (sym whole)
      ∙ ap (λ (z : ℤ). joined_paths c.images (p ∷ passes) ++ (to z ∷ [])) (sym back) ∙ chain.joined in
      let same : chain.path ≡ rest ++ (to x ∷ []) = cc in
      record {
        rest = rest;
        is = whole;
        label = first.label;
        glued = subst (AreGlued branches (to x) (flat_map onward (p ∷ passes))) same chain.glued;
        image =
            ap (λ (z : List ℤ). reduce (flat_map f z)) (sym (front_is (x ∷ (w ++ (x ∷ []))) (x ∷ w) x refl))
            ∙ chain.along
            ∙ ap (λ (z : ℤ). reduce (at x ++ (joined_paths c.images (p ∷ passes) ++ inverse_word (at z)))) back;
      }

  loop_round : (passes : List Pass) (x : ℤ) (w : List ℤ) → AreGlued branches x passes (w ++ (x ∷ []))
      → ArePassesRound branches (flat_map onward passes) (joined_paths c.images passes)
  loop_round passes x w glued =
      let l : IsLoopOnward triples left_out branches f c onward passes x w = loop_onward passes x w glued in
      subst (ArePassesRound branches (flat_map onward passes)) (sym l.is)
      (record { some = omega arith; passed = l.glued })

  loop_legal : PassFacts triples left_out branches → (passes : List Pass) (x : ℤ) (w : List ℤ)
      → AreGlued branches x passes (w ++ (x ∷ [])) → IsLegalLoop triples left_out (joined_paths c.images passes)
  loop_legal facts passes x w glued =
      let l : IsLoopOnward triples left_out branches f c onward passes x w = loop_onward passes x w glued in
      subst (IsLegalLoop triples left_out) (sym l.is)
      (record {
        labels =
            all_left (IsLabel triples) (to x ∷ l.rest) (to x ∷ [])
            (facts.labels (to x) (flat_map onward passes) (l.rest ++ (to x ∷ [])) l.label l.glued);
        legal = (
          λ e. absurd (cc),
          facts.legal (to x) (flat_map onward passes) (l.rest ++ (to x ∷ [])) l.label l.glued,
        );
      })

  loop_image : (passes : List Pass) (x : ℤ) (w : List ℤ) → AreGlued branches x passes (w ++ (x ∷ []))
      → (a : List ℤ) × (reduce (flat_map f (x ∷ w)) ≡ reduce (a ++ (joined_paths c.images passes ++ inverse_word a)))
  loop_image passes x w glued = (at x, (loop_onward passes x w glued).image)

-- ---- all of them

module _ (labels : LabelLaws) (words : WordLaws) (maps : MapLaws) (tracks : TrackLaws) (triples : List (List ℤ))
    (left_out : List ℤ) (branches : List (List ℤ)) (f : ℤ → List ℤ) (triangles : ℕ → ℕ) (c : Carrying) (m : Square)
    (facts : PassFacts triples left_out branches) (sound : IsTriangulation triples)
    (single : IsSingleInTriangles triples left_out) (list : IsBranchList triples left_out branches)
    (map : IsMap triples triples f triangles) (carried : IsCarried triples left_out branches f triangles c)
    (t : IsTransition branches c.images m) where
  abbrev onward : Pass → List Pass
  onward = onward_of branches c.images m t

  each : AllGoOnward triples left_out branches f c onward
  each p x u within is =
      let d : (p.branch < m.size) ⊎ (m.size ≤ p.branch) = cases_lt p.branch m.size in
      let inside : p.branch < m.size = subst (λ (n : ℕ). p.branch < n) (sym t.size) within in
      pass_onward triples left_out branches f c labels words maps.substitutions map.odd facts p
      (column branches c.images m t p.branch d) x u is (carried.paths p.branch within)
      (column_passes branches c.images m t p.branch d inside)

  lists : ListLaws triples left_out branches
  lists = tracks.lists triples left_out branches sound single list

  round : (u : List ℤ) (passes : List Pass) → ArePassesRound branches passes u
      → ArePassesRound branches (flat_map onward passes) (joined_paths c.images passes)
  round [] passes r = absurd (omega (arith, r.some))
  round (x ∷ w) passes r =
      loop_round words triples left_out branches f c lists onward each passes x w r.passed

  legal : (u : List ℤ) (passes : List Pass) → ArePassesRound branches passes u
      → IsLegalLoop triples left_out (joined_paths c.images passes)
  legal [] passes r = absurd (omega (arith, r.some))
  legal (x ∷ w) passes r =
      loop_legal words triples left_out branches f c lists onward each facts passes x w r.passed

  image : (u : List ℤ) (passes : List Pass) → ArePassesRound branches passes u
      → (a : List ℤ) × (reduce (flat_map f u) ≡ reduce (a ++ (joined_paths c.images passes ++ inverse_word a)))
  image [] passes r = absurd (omega (arith, r.some))
  image (x ∷ w) passes r =
      loop_image words triples left_out branches f c lists onward each passes x w r.passed

  counts : (u : List ℤ) (passes : List Pass) (i : ℕ) → ArePassesRound branches passes u → i < m.size
      → passed (flat_map onward passes) i ≡ applied m (passed passes) i
  counts [] passes i r inside = absurd (omega (arith, r.some))
  counts (x ∷ w) passes i r inside = counted branches c.images m t x passes (w ++ (x ∷ [])) i r.passed inside

  pub carried_facts : CarriedFacts triples left_out branches f c m
  carried_facts = record {
    onward = onward;
    round = λ u passes loop r. round u passes r;
    legal = λ u passes loop r. legal u passes r;
    image = λ u passes loop r. image u passes r;
    counts = counts;
  }
