-- Maps that agree on the labels of a triangulation: what rests on the images of labels is the same for both.
--
-- The images of words of labels agree, letter by letter. The walks that places are read from are walks of labels, so
-- their rays and lines agree, and with them the places. A branch is a walk, so its letters are labels: its image
-- without its last letter agrees, and so do the connecting walks at its ends. So the one word agrees that can be its
-- train path, and what is asked of that word is asked of the same.
use Rattle.std.proofs.Common.{ℕ, ℤ, pos, negsuc, List, [], ◌∷◌, ◌++◌, ◌≡◌, ◌<◌, sym, ◌∙◌, ap, subst, length, map}
use Rattle.std.proofs.Common.{get_or, take, drop, refl, arith}
use Rattle.std.specs.List.{All, AllPairs, flat_map}
use Rattle.std.proofs.lemmas.List.Elements.{All-head, All-tail, All-take, All-drop}
use Rattle.ideal_tri.specs.Labels.{inverse}
use Rattle.ideal_tri.specs.SurfaceLaws.{SurfaceLaws}
use Rattle.ideal_tri.specs.Words.{inverse_word, reduce, last_of, but_last}
use Rattle.ideal_tri.specs.WordLaws.{WordLaws}
use Rattle.ideal_tri.specs.Triangulations.{IsLabel, IsWalk, triangle_of}
use Rattle.tri_atlas.specs.Maps.{IsOdd, IsMap}
use Rattle.tri_atlas.specs.MapLaws.{SubstitutionLaws}
use Rattle.free_groupoid.specs.Walks.{DualWalk}
use Rattle.train_track.specs.Tracks.{switches_of}
use Rattle.train_track.specs.Branches.{IsBranch, IsBranchList, letter_at}
use Rattle.carry_map.specs.Anchors.{Place, IsWindow, back_ray, front_ray, line, IsBehind, IsBefore}
use Rattle.carry_map.specs.Anchors.{IsCommonPlace, ArePlaces}
use Rattle.carry_map.specs.AnchorAnswers.{IsAnchored, AreAnchors, place_at, IsFirstWithout, train_path, Fits}
use Rattle.carry_map.specs.AnchorAnswers.{FitsBy, walk_by, carrying_by}
use Rattle.carry_map.specs.CarriedMaps.{Carrying, goes_to, connection, beside, final, IsTrainPath}
use Rattle.carry_map.specs.AgreementLaws.{AgreeOn, BranchAgreement, AgreementLaws}
use Rattle.carry_map.specs.MiddleAnchors.{AreMiddleAnchors}
use Rattle.carry_map.proofs.AgreeingMiddles.{between_agree, middles_agree}
use Rattle.carry_map.proofs.WordParts.{but_last_and_last, all_left, all_last}

-- ---- the letters of a branch

branch_labels : SurfaceLaws → (ts : List (List ℤ)) (out b : List ℤ) → IsBranch ts out b → All (IsLabel ts) b
branch_labels surfaces ts out b h =
    surfaces.letters ts (triangle_of ts h.first) (triangle_of ts (inverse h.last)) b h.walk

-- what is used of them
record AreLabels (ts : List (List ℤ)) (b : List ℤ) : Type 0 where
  first : IsLabel ts (letter_at b 0)
  last : IsLabel ts (final b)
  front : All (IsLabel ts) (but_last b)

are_labels : (ts : List (List ℤ)) (x : ℤ) (u : List ℤ) → All (IsLabel ts) (x ∷ u) → AreLabels ts (x ∷ u)
are_labels ts x u h = record {
  first = All-head (IsLabel ts) x u h;
  last = all_last (IsLabel ts) x u h;
  front =
      all_left (IsLabel ts) (but_last (x ∷ u)) (last_of x u ∷ [])
      (subst (All (IsLabel ts)) (sym (but_last_and_last x u)) h);
}

of_branch : SurfaceLaws → (ts : List (List ℤ)) (out b : List ℤ) → IsBranch ts out b → AreLabels ts b
of_branch surfaces ts out b h =
    subst (AreLabels ts) (sym h.letters)
    (are_labels ts h.first (h.between ++ (h.last ∷ []))
    (subst (All (IsLabel ts)) h.letters (branch_labels surfaces ts out b h)))

-- ---- two maps that agree

module _ (surfaces : SurfaceLaws) (substitutions : SubstitutionLaws) (words : WordLaws) (ts : List (List ℤ))
    (out : List ℤ)
    (f g : ℤ → List ℤ) (agree : AgreeOn ts f g) where
  abbrev switches : List ℤ
  switches = switches_of ts out

  images_agree : (w : List ℤ) → All (IsLabel ts) w → flat_map f w ≡ flat_map g w
  images_agree w are = substitutions.agree f g w (λ i d within. agree (get_or w i d) (are i d within))

  maps_agree : (target : List (List ℤ)) (triangles : ℕ → ℕ) → IsMap ts target f triangles → IsOdd g
      → IsMap ts target g triangles
  maps_agree target triangles h odd = record {
    odd = odd;
    within = h.within;
    walks = λ x label.
        subst (λ (w : List ℤ). IsWalk target (triangles (triangle_of ts x)) w (triangles (triangle_of ts (inverse x))))
        (agree x label) (h.walks x label);
  }

  -- ---- places

  back_agree : (s : ℤ) (w : List ℤ) → IsWindow ts out s w → back_ray f w ≡ back_ray g w
  back_agree s w h =
      ap reduce (images_agree (inverse_word (take 3 w))
      (words.inverses.labels ts (take 3 w) (All-take (IsLabel ts) 3 w h.labels)))

  front_agree : (s : ℤ) (w : List ℤ) → IsWindow ts out s w → front_ray f w ≡ front_ray g w
  front_agree s w h = ap reduce (images_agree (drop 3 w) (All-drop (IsLabel ts) 3 w h.labels))

  line_agree : (s : ℤ) (w : List ℤ) → IsWindow ts out s w → line f w ≡ line g w
  line_agree s w h =
      ap (λ (b : List ℤ). reduce (inverse_word b ++ front_ray f w)) (back_agree s w h)
      ∙ ap (λ (u : List ℤ). reduce (inverse_word (back_ray g w) ++ u)) (front_agree s w h)

  behind_agree : (s : ℤ) (w before : List ℤ) (p : Place) → IsWindow ts out s w → IsBehind f w before p
      → IsBehind g w before p
  behind_agree s w before p window h = record {
    after = h.after;
    letters = sym (line_agree s w window) ∙ h.letters;
    reached = h.reached ∙ ap (λ (b : List ℤ). reduce (b ++ before)) (back_agree s w window);
  }

  common_agree : (s : ℤ) (p : Place) → IsCommonPlace ts out f s p → IsCommonPlace ts out g s p
  common_agree s p h = record {
    on_all = λ w window. (let (before, behind) = h.on_all w window in
        (before, behind_agree s w before p window behind));
    switch = h.switch;
  }

  order_agree : (s : ℤ) (w : List ℤ) (ps : List Place) → IsWindow ts out s w → AllPairs (IsBefore f w) ps
      → AllPairs (IsBefore g w) ps
  order_agree s w ps window h i j d before within =
      let p : Place = get_or ps i d in
      let q : Place = get_or ps j d in
      let (first, between, here, there) = h i j d before within in (
        first,
        between,
        behind_agree s w first p window here,
        behind_agree s w (first ++ (p.label ∷ between)) q window there,
      )

  -- ---- train paths

  connection_agree : (c : Carrying) (x : ℤ) → IsLabel ts x → connection f switches c x ≡ connection g switches c x
  connection_agree c (pos n) label = refl
  connection_agree c (negsuc n) label =
      ap (λ (w : List ℤ). reduce (w ++ (beside [] switches c.connect (pos n) ++ (goes_to switches c (pos n) ∷ []))))
      (agree (negsuc n) label)

  path_agree : (c : Carrying) (b : List ℤ) → IsBranch ts out b
      → train_path switches f c b ≡ train_path switches g c b
  path_agree c b branch =
      let labels : AreLabels ts b = of_branch surfaces ts out b branch in
      let end : List ℤ = goes_to switches c (final b) ∷ [] in
      let last : List ℤ = connection f switches c (final b) in
      let first : List ℤ = connection g switches c (letter_at b 0) in
      ap (λ (w : List ℤ). reduce (inverse_word w ++ (flat_map f (but_last b) ++ (last ++ end))))
      (connection_agree c (letter_at b 0) labels.first)
      ∙ ap (λ (w : List ℤ). reduce (inverse_word first ++ (w ++ (last ++ end))))
      (images_agree (but_last b) labels.front)
      ∙ ap (λ (w : List ℤ). reduce (inverse_word first ++ (flat_map g (but_last b) ++ (w ++ end))))
      (connection_agree c (final b) labels.last)

  along_agree : (c : Carrying) (b walk : List ℤ) → IsBranch ts out b → IsTrainPath ts out f c b walk
      → IsTrainPath ts out g c b walk
  along_agree c b walk branch h =
      let labels : AreLabels ts b = of_branch surfaces ts out b branch in
      let first : List ℤ = connection g switches c (letter_at b 0) in
      record {
        long = h.long;
        walk = h.walk;
        legal = h.legal;
        begins = h.begins;
        ends = h.ends;
        along =
            ap reduce (sym (images_agree (but_last b) labels.front)) ∙ h.along
            ∙ ap (λ (w : List ℤ). reduce (w ++ (but_last walk ++ inverse_word (connection f switches c (final b)))))
            (connection_agree c (letter_at b 0) labels.first)
            ∙ ap (λ (w : List ℤ). reduce (first ++ (but_last walk ++ inverse_word w)))
            (connection_agree c (final b) labels.last);
      }

  fits_agree : (anchors : List Place) (b : List ℤ) → IsBranch ts out b → FitsBy ts out f anchors b
      → FitsBy ts out g anchors b
  fits_agree anchors b branch h =
      subst (Fits ts out (carrying_by anchors) b) (path_agree (carrying_by anchors) b branch) h

  walk_agree : (anchors : List Place) (b : List ℤ) → IsBranch ts out b
      → walk_by ts out f anchors b ≡ walk_by ts out g anchors b
  walk_agree anchors b branch =
      ap
      (λ (w : List ℤ). record {
        start = triangle_of ts (goes_to switches (carrying_by anchors) (letter_at b 0));
        letters = w;
      })
      (path_agree (carrying_by anchors) b branch)

-- ---- the same with the two maps exchanged, where both directions are needed

module _ (surfaces : SurfaceLaws) (substitutions : SubstitutionLaws) (words : WordLaws) (ts : List (List ℤ))
    (out : List ℤ)
    (f g : ℤ → List ℤ) (agree : AgreeOn ts f g) where
  exchanged : AgreeOn ts g f
  exchanged x label = sym (agree x label)

  places_agree : (s : ℤ) (ps : List Place) → ArePlaces ts out f s ps → ArePlaces ts out g s ps
  places_agree s ps h = record {
    all = λ p. (
      (λ has. common_agree surfaces substitutions words ts out f g agree s p ((h.all p).0 has)),
      (λ common. (h.all p).1 (common_agree surfaces substitutions words ts out g f exchanged s p common)),
    );
    order = λ w window. order_agree surfaces substitutions words ts out f g agree s w ps window (h.order w window);
  }

  anchored_agree : (i : ℕ) (p : Place) → IsAnchored ts out f i p → IsAnchored ts out g i p
  anchored_agree i p (rest, are) = (rest, places_agree (letter_at (switches_of ts out) i) (p ∷ rest) are)

  anchors_agree : (firsts : List Place) → AreAnchors ts out f firsts → AreAnchors ts out g firsts
  anchors_agree firsts h = record {
    one_each = h.one_each;
    first = λ i within. anchored_agree i (place_at firsts i) (h.first i within);
  }

  without_agree : (i : ℕ) → IsFirstWithout ts out f i → IsFirstWithout ts out g i
  without_agree i h = record {
    within = h.within;
    without = places_agree (letter_at (switches_of ts out) i) [] h.without;
    before = λ j less. (let (p, anchored) = h.before j less in (p, anchored_agree j p anchored));
  }

  -- ---- a list of branches

  walks_agree : (anchors : List Place) (branches : List (List ℤ)) → All (IsBranch ts out) branches
      → map (walk_by ts out f anchors) branches ≡ map (walk_by ts out g anchors) branches
  walks_agree anchors [] are = refl
  walks_agree anchors (b ∷ branches) are =
      ap (λ (w : DualWalk). w ∷ map (walk_by ts out f anchors) branches)
      (walk_agree surfaces substitutions words ts out f g agree anchors b (All-head (IsBranch ts out) b branches are))
      ∙ ap (λ (walks : List DualWalk). walk_by ts out g anchors b ∷ walks)
      (walks_agree anchors branches (All-tail (IsBranch ts out) b branches are))

  branches_agree : (branches : List (List ℤ)) → IsBranchList ts out branches
      → BranchAgreement ts out branches f g
  branches_agree branches list = record {
    fit = λ anchors h i d within.
        fits_agree surfaces substitutions words ts out f g agree anchors (get_or branches i d) (list.branch i d within)
        (h i d within);
    unfit = λ anchors j h. record {
      within = h.within;
      unfit = λ fits. h.unfit
          (fits_agree surfaces substitutions words ts out g f exchanged anchors (get_or branches j [])
          (list.branch j [] h.within) fits);
      before = λ i less.
          fits_agree surfaces substitutions words ts out f g agree anchors (get_or branches i [])
          (list.branch i [] (let low : i < j = less in let high : j < length branches = h.within in omega arith))
          (h.before i less);
    };
    walks = λ anchors. walks_agree anchors branches list.branch;
    paths = λ c h. record {
      one_path_each = h.one_path_each;
      paths = λ j within.
          (h.paths j within
          ∙ path_agree surfaces substitutions words ts out f g agree c (get_or branches j [])
          (list.branch j [] within));
      fit = h.fit;
    };
    carried = λ triangles c h. record {
      one_label_each = h.one_label_each;
      one_walk_each = h.one_walk_each;
      one_path_each = h.one_path_each;
      labels = h.labels;
      switches = h.switches;
      walks = h.walks;
      reduced = h.reduced;
      paths = λ j within.
          along_agree surfaces substitutions words ts out f g agree c (get_or branches j []) (get_or c.images j [])
          (list.branch j [] within) (h.paths j within);
    };
  }

  pub middle_places_agree : (branches : List (List ℤ)) → IsBranchList ts out branches → (anchors : List Place)
      → AreMiddleAnchors ts out branches f anchors → AreMiddleAnchors ts out branches g anchors
  middle_places_agree branches list =
      middles_agree ts out f g branches places_agree
      (λ all j d less.
      (let labels : AreLabels ts (get_or branches j d) =
      of_branch surfaces ts out (get_or branches j d) (list.branch j d less) in
      between_agree ts out f g agree all (get_or branches j d) labels.first labels.last
      (images_agree surfaces substitutions words ts out f g agree (but_last (get_or branches j d)) labels.front)))

  pub agreement : AgreementLaws ts out f g
  agreement = record {
    maps = maps_agree surfaces substitutions words ts out f g agree;
    places = places_agree;
    anchors = anchors_agree;
    without = without_agree;
    middles = middle_places_agree;
    path = path_agree surfaces substitutions words ts out f g agree;
    along = along_agree surfaces substitutions words ts out f g agree;
    branches = branches_agree;
  }
