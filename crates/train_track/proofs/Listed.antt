-- The list of the branches that are found first.
--
-- A branch is settled by its first two letters: the first is a switch, and the second one of the two sides that it may
-- turn to. So going through all labels in order, and through the two sides in order, finds each branch once, in the
-- order of first and second letters. Of a branch and its inverse, whose first two letters differ, just one is found
-- first.
use Rattle.std.proofs.Common.{ℕ, ℤ, Bool, true, false, not, ◌&&◌, List, [], ◌∷◌, ◌++◌, ◌≡◌, ◌<◌}
use Rattle.std.proofs.Common.{◌≤◌, ◌⊎◌, inl, inr, refl, sym, ◌∙◌, ap, subst, if◌then◌else◌, arith}
use Rattle.std.proofs.Common.{get_or, ltb}
use Rattle.std.specs.List.{All, AllPairs, Contains}
use Rattle.std.specs.Ordering.{int_eq}
use Rattle.std.proofs.lemmas.Bool.{true≢false, cases_Bool, cases_lt, and_from, and_parts, not-true, not_from_false}
use Rattle.std.proofs.lemmas.Bool.{ltb-true, ltb-false}
use Rattle.std.proofs.lemmas.List.Elements.{All-nil, All-cons, All-append, All-contains, Contains-append_left}
use Rattle.std.proofs.lemmas.List.Elements.{Contains-append_right}
use Rattle.ideal_tri.specs.Labels.{inverse}
use Rattle.ideal_tri.specs.Words.{inverse_word}
use Rattle.ideal_tri.specs.LabelLaws.{LabelLaws}
use Rattle.ideal_tri.specs.SurfaceLaws.{TriangleLaws}
use Rattle.ideal_tri.specs.Triangulations.{IsLabel, next, previous}
use Rattle.ideal_tri.specs.Vertices.{rank, ordered_labels}
use Rattle.train_track.specs.Tracks.{is_left_out, is_switch, IsSingleInTriangles}
use Rattle.train_track.specs.Branches.{IsBranch, IsBranchList, letter_at, are_before, is_before}
use Rattle.train_track.specs.inside.Growing.{is_legal_pair, continuation, grow, is_found, is_listed, listed}
use Rattle.train_track.specs.inside.Growing.{listed_from, lesser_side, greater_side, branch_words}
use Rattle.train_track.proofs.Turns.{IsTurn}
use Rattle.train_track.proofs.Grown.{Begun, grown_cases, grow-first, grow-second, grown, begun, begins_otherwise}
use Rattle.train_track.proofs.Grown.{inverse_branch, inverse_twice}
use Rattle.train_track.proofs.InOrder.{labels_in_order, labels_listed, label_listed, before_first, before_second}
use Rattle.train_track.proofs.InOrder.{one_before, not_both}
use Rattle.train_track.proofs.Lists.{contains_here, pairs_none, pairs_one, pairs_append, all_joined, contains_joined}
use Rattle.train_track.proofs.Lists.{pairs_joined}

abbrev IsBefore : List ℤ → List ℤ → Type 0
IsBefore b c = is_before b c ≡ true

abbrev IsFirst : List ℤ → Type 0
IsFirst b = is_before (inverse_word b) b ≡ false

-- ---- the tests

module _ (ts : List (List ℤ)) (out : List ℤ) (labels : LabelLaws) (triangles : TriangleLaws ts) where
  same_letter : (x y : ℤ) → int_eq x y ≡ true → x ≡ y
  same_letter x y e =
      elim (labels.same_or_not x y) [ inl f ↦ f | inr f ↦ absurd (true≢false (sym e ∙ labels.test_other x y f)) ]

  pub turn_from_test : (u v : ℤ) → IsLabel ts v → is_legal_pair ts out u v ≡ true → IsTurn ts out u v
  unfolding is_legal_pair
  turn_from_test u v l = go (int_eq (next ts (inverse u)) v) refl
    where
      go : (b : Bool) → int_eq (next ts (inverse u)) v ≡ b
          → (if b then not (is_left_out out (inverse u)) else
          (int_eq (next ts v) (inverse u) && not (is_left_out out v))) ≡ true
          → IsTurn ts out u v
      go true e h = inl (sym (same_letter _ _ e), not-true _ h)
      go false e h =
          let (back, kept) = and_parts _ _ h in
          inr (sym (triangles.round v l) ∙ ap (previous ts) (same_letter _ _ back), not-true _ kept)

  pub test_from_turn : (u v : ℤ) → IsLabel ts u → IsTurn ts out u v → is_legal_pair ts out u v ≡ true
  unfolding is_legal_pair
  test_from_turn u v l h = elim h [
    | inl (e, k) ↦ chosen (int_eq (next ts (inverse u)) v) _ _ (labels.test_same _ _ (sym e)) (not_from_false _ k)
    | inr (e, k) ↦
        (let p : ℤ = inverse u in
        let m : IsLabel ts p = labels.label ts u l in
        other (int_eq (next ts p) v) _ _
        (labels.test_other _ _ (λ f. (triangles.moves (next ts p) (triangles.label p m)).0 (sym e ∙ sym f)))
        (and_from _ _ (labels.test_same _ _ (ap (next ts) e ∙ triangles.round p m)) (not_from_false _ k)))
  ]
    where
      chosen : (b c d : Bool) → b ≡ true → c ≡ true → (if b then c else d) ≡ true
      chosen b c d e f = ap (λ (b : Bool). if b then c else d) e ∙ f

      other : (b c d : Bool) → b ≡ false → d ≡ true → (if b then c else d) ≡ true
      other b c d e f = ap (λ (b : Bool). if b then c else d) e ∙ f

  pub found_is : (x y : ℤ) → is_found ts out x y ≡ is_before (inverse_word (grow ts out x y)) (grow ts out x y)
  unfolding is_found
  found_is x y = grown_cases ts out x y
      (λ b. (if is_switch ts out y then are_before (inverse y) (inverse x) x y else are_before
      (inverse (continuation ts out y)) (inverse y) x y)
      ≡ is_before (inverse_word b) b)
      (λ e. ap (λ (b : Bool). if b then are_before (inverse y) (inverse x) x y else are_before
      (inverse (continuation ts out y)) (inverse y) x y) e)
      (λ e. ap (λ (b : Bool). if b then are_before (inverse y) (inverse x) x y else are_before
      (inverse (continuation ts out y)) (inverse y) x y) e)

  -- what holds of what is listed: nothing, or the one branch
  listed_cases : (x y : ℤ) (P : List (List ℤ) → Type 0) → P []
      → (is_listed ts out x y ≡ true → P (grow ts out x y ∷ [])) → P (listed ts out x y)
  unfolding listed
  listed_cases x y P none one = go (is_listed ts out x y) refl
    where
      go : (b : Bool) → is_listed ts out x y ≡ b → P (if b then grow ts out x y ∷ [] else [])
      go true e = one e
      go false e = none

  listed_yes : (x y : ℤ) → is_listed ts out x y ≡ true → Contains (listed ts out x y) (grow ts out x y)
  unfolding listed
  listed_yes x y e =
      subst (λ (b : Bool). Contains (if b then grow ts out x y ∷ [] else []) (grow ts out x y)) (sym e)
      (contains_here (grow ts out x y) [])

  listed_legal : (x y : ℤ) → is_listed ts out x y ≡ true
      → (is_legal_pair ts out x y ≡ true) × (is_before (inverse_word (grow ts out x y)) (grow ts out x y) ≡ false)
  unfolding is_listed
  listed_legal x y e = (let (a, b) = and_parts _ _ e in (a, sym (found_is x y) ∙ not-true _ b))

  is_listed_from : (x y : ℤ) → is_legal_pair ts out x y ≡ true
      → is_before (inverse_word (grow ts out x y)) (grow ts out x y) ≡ false
      → is_listed ts out x y ≡ true
  unfolding is_listed
  is_listed_from x y a b = and_from _ _ a (not_from_false _ (found_is x y ∙ b))

  -- ---- the two sides that a letter may be followed by

  sides_cases : (x : ℤ) → ((lesser_side ts x ≡ previous ts (inverse x)) × (greater_side ts x ≡ next ts (inverse x)))
      ⊎ ((lesser_side ts x ≡ next ts (inverse x)) × (greater_side ts x ≡ previous ts (inverse x)))
  sides_cases x = go (ltb (rank (previous ts (inverse x))) (rank (next ts (inverse x))))
    where
      go : (b : Bool) → (((if b then previous ts (inverse x) else next ts (inverse x)) ≡ previous ts (inverse x))
          × ((if b then next ts (inverse x) else previous ts (inverse x)) ≡ next ts (inverse x)))
          ⊎ (((if b then previous ts (inverse x) else next ts (inverse x)) ≡ next ts (inverse x))
          × ((if b then next ts (inverse x) else previous ts (inverse x)) ≡ previous ts (inverse x)))
      go true = inl (refl, refl)
      go false = inr (refl, refl)

  sides_ordered : (x : ℤ) → IsLabel ts x → rank (lesser_side ts x) < rank (greater_side ts x)
  sides_ordered x l = go (ltb (rank (previous ts (inverse x))) (rank (next ts (inverse x)))) refl
    where
      go : (b : Bool) → ltb (rank (previous ts (inverse x))) (rank (next ts (inverse x))) ≡ b
          → rank (if b then previous ts (inverse x) else next ts (inverse x))
          < rank (if b then next ts (inverse x) else previous ts (inverse x))
      go true e = ltb-true _ _ e
      go false e =
          let high : rank (next ts (inverse x)) ≤ rank (previous ts (inverse x)) = ltb-false _ _ e in
          let p : ℤ = inverse x in
          elim (cases_lt (rank (next ts p)) (rank (previous ts p))) [
            | inl h ↦ h
            | inr h ↦ absurd ((triangles.moves (next ts p) (triangles.label p (labels.label ts x l))).0
                (labels.order.one (previous ts p) (next ts p) (omega arith)))
          ]

  -- a pair turns to one of them
  sides_all : (x y : ℤ) → IsTurn ts out x y → (y ≡ lesser_side ts x) ⊎ (y ≡ greater_side ts x)
  sides_all x y h = elim (sides_cases x) [
    | inl (a, b) ↦ elim h [ inl (e, k) ↦ inr (e ∙ sym b) | inr (e, k) ↦ inl (e ∙ sym a) ]
    | inr (a, b) ↦ elim h [ inl (e, k) ↦ inl (e ∙ sym a) | inr (e, k) ↦ inr (e ∙ sym b) ]
  ]

  side_label : (x y : ℤ) → IsLabel ts x → (y ≡ lesser_side ts x) ⊎ (y ≡ greater_side ts x) → IsLabel ts y
  side_label x y l h =
      let m : IsLabel ts (next ts (inverse x)) = triangles.label (inverse x) (labels.label ts x l) in
      let n : IsLabel ts (previous ts (inverse x)) = triangles.label (next ts (inverse x)) m in
      elim (sides_cases x) [
        | inl (a, b) ↦
            elim h [ inl e ↦ subst (IsLabel ts) (sym (e ∙ a)) n | inr e ↦ subst (IsLabel ts) (sym (e ∙ b)) m ]
        | inr (a, b) ↦
            elim h [ inl e ↦ subst (IsLabel ts) (sym (e ∙ a)) m | inr e ↦ subst (IsLabel ts) (sym (e ∙ b)) n ]
      ]

  -- ---- what is listed

  from_cases : (x : ℤ) (P : List (List ℤ) → Type 0) → P []
      → (is_switch ts out x ≡ true → P (listed ts out x (lesser_side ts x) ++ listed ts out x (greater_side ts x)))
      → P (listed_from ts out x)
  unfolding listed_from
  from_cases x P none some = go (is_switch ts out x) refl
    where
      go : (b : Bool) → is_switch ts out x ≡ b
          → P (if b then listed ts out x (lesser_side ts x) ++ listed ts out x (greater_side ts x) else [])
      go true e = some e
      go false e = none

  from_switch : (x : ℤ) → is_switch ts out x ≡ true
      → listed_from ts out x ≡ listed ts out x (lesser_side ts x) ++ listed ts out x (greater_side ts x)
  unfolding listed_from
  from_switch x e =
      ap (λ (b : Bool). if b then listed ts out x (lesser_side ts x) ++ listed ts out x (greater_side ts x) else []) e

  -- the words that are listed begin with x
  all_begin : (x y : ℤ) → All (λ b. (letter_at b 0 ≡ x) × (letter_at b 1 ≡ y)) (listed ts out x y)
  all_begin x y =
      listed_cases x y (All (λ b. (letter_at b 0 ≡ x) × (letter_at b 1 ≡ y)))
      (All-nil (λ b. (letter_at b 0 ≡ x) × (letter_at b 1 ≡ y)))
      (λ e. All-cons (λ b. (letter_at b 0 ≡ x) × (letter_at b 1 ≡ y)) (grow ts out x y) []
      (grow-first ts out x y, grow-second ts out x y)
      (All-nil (λ b. (letter_at b 0 ≡ x) × (letter_at b 1 ≡ y))))

  all_from : (x : ℤ) → All (λ b. letter_at b 0 ≡ x) (listed_from ts out x)
  all_from x = from_cases x (All (λ b. letter_at b 0 ≡ x)) (All-nil (λ b. letter_at b 0 ≡ x))
      (λ e. All-append (λ b. letter_at b 0 ≡ x) (listed ts out x (lesser_side ts x))
      (listed ts out x (greater_side ts x))
      (λ k d h. (all_begin x (lesser_side ts x) k d h).0) (λ k d h. (all_begin x (greater_side ts x) k d h).0))

  -- words with the first letters x and x', of which x is less, stand in order
  across : (x x' : ℤ) → rank x < rank x' → All (λ b. All (IsBefore b) (listed_from ts out x')) (listed_from ts out x)
  across x x' less k d h i e g =
      before_first (letter_at (get_or (listed_from ts out x) k d) 0) _
      (letter_at (get_or (listed_from ts out x') i e) 0) _
      (subst (λ (n : ℕ). n < rank (letter_at (get_or (listed_from ts out x') i e) 0)) (ap rank (sym (all_from x k d h)))
      (subst (λ (n : ℕ). rank x < n) (ap rank (sym (all_from x' i e g))) less))

  pairs_listed : (x y : ℤ) → AllPairs IsBefore (listed ts out x y)
  pairs_listed x y =
      listed_cases x y (AllPairs IsBefore) (pairs_none IsBefore) (λ e. pairs_one IsBefore (grow ts out x y))

  pairs_from : (x : ℤ) → IsLabel ts x → AllPairs IsBefore (listed_from ts out x)
  pairs_from x l = from_cases x (AllPairs IsBefore) (pairs_none IsBefore)
      (λ s. pairs_append IsBefore (listed ts out x (lesser_side ts x)) (listed ts out x (greater_side ts x))
      (pairs_listed x (lesser_side ts x)) (pairs_listed x (greater_side ts x))
      (λ k d h i e g.
      (let b : List ℤ = get_or (listed ts out x (lesser_side ts x)) k d in
      let c : List ℤ = get_or (listed ts out x (greater_side ts x)) i e in
      let (b0, b1) = all_begin x (lesser_side ts x) k d h in
      let (c0, c1) = all_begin x (greater_side ts x) i e g in
      ap (λ (u : ℤ). are_before u (letter_at b 1) (letter_at c 0) (letter_at c 1)) b0
      ∙ ap (λ (u : ℤ). are_before x u (letter_at c 0) (letter_at c 1)) b1
      ∙ ap (λ (u : ℤ). are_before x (lesser_side ts x) u (letter_at c 1)) c0
      ∙ ap (λ (u : ℤ). are_before x (lesser_side ts x) x u) c1
      ∙ before_second labels x (lesser_side ts x) (greater_side ts x) (sides_ordered x l))))

  module _ (single : IsSingleInTriangles ts out) where
    each_listed : (x y : ℤ) → IsLabel ts x → IsLabel ts y → is_switch ts out x ≡ true
        → All (λ b. IsBranch ts out b × IsFirst b) (listed ts out x y)
    each_listed x y l m s =
        listed_cases x y (All (λ b. IsBranch ts out b × IsFirst b)) (All-nil (λ b. IsBranch ts out b × IsFirst b))
        (λ e. (let (legal, first) = listed_legal x y e in
        All-cons (λ b. IsBranch ts out b × IsFirst b) (grow ts out x y) []
        (grown ts out labels triangles single x y l s (turn_from_test x y m legal), first)
        (All-nil (λ b. IsBranch ts out b × IsFirst b))))

    each_from : (x : ℤ) → IsLabel ts x → All (λ b. IsBranch ts out b × IsFirst b) (listed_from ts out x)
    each_from x l =
        from_cases x (All (λ b. IsBranch ts out b × IsFirst b)) (All-nil (λ b. IsBranch ts out b × IsFirst b))
        (λ s. All-append (λ b. IsBranch ts out b × IsFirst b) (listed ts out x (lesser_side ts x))
        (listed ts out x (greater_side ts x))
        (each_listed x (lesser_side ts x) l (side_label x (lesser_side ts x) l (inl refl)) s)
        (each_listed x (greater_side ts x) l (side_label x (greater_side ts x) l (inr refl)) s))

    each : All (λ b. IsBranch ts out b × IsFirst b) (branch_words ts out)
    each =
        all_joined (listed_from ts out) (λ b. IsBranch ts out b × IsFirst b) (ordered_labels ts)
        (λ k d h. each_from (get_or (ordered_labels ts) k d) (labels_listed labels ts k d h))

    has : (b : List ℤ) → IsBranch ts out b → IsFirst b → Contains (branch_words ts out) b
    has b h first =
        let g : Begun ts out b = begun ts out labels triangles single b h in
        let x : ℤ = g.first in
        let y : ℤ = g.second in
        let here : Contains (listed ts out x y) (grow ts out x y) =
        listed_yes x y (is_listed_from x y (test_from_turn x y g.label g.turns) (subst IsFirst g.is first)) in
        let from : Contains (listed_from ts out x) (grow ts out x y) =
        subst (λ (bs : List (List ℤ)). Contains bs (grow ts out x y)) (sym (from_switch x g.switch))
        (elim (sides_all x y g.turns) [
          | inl e ↦
              Contains-append_left (listed ts out x (lesser_side ts x)) (listed ts out x (greater_side ts x))
              (grow ts out x y)
              (subst (λ (z : ℤ). Contains (listed ts out x z) (grow ts out x y)) e here)
          | inr e ↦
              Contains-append_right (listed ts out x (lesser_side ts x)) (listed ts out x (greater_side ts x))
              (grow ts out x y)
              (subst (λ (z : ℤ). Contains (listed ts out x z) (grow ts out x y)) e here)
        ]) in
        subst (Contains (branch_words ts out)) (sym g.is)
        (contains_joined (listed_from ts out) (ordered_labels ts) x (grow ts out x y) (label_listed labels ts x g.label) from)

    pub branch_list : IsBranchList ts out (branch_words ts out)
    branch_list = record {
      branch = λ k d h. (each k d h).0;
      first = λ k d h. (each k d h).1;
      all = has;
      order =
          pairs_joined (listed_from ts out) IsBefore (λ x y. rank x < rank y) (ordered_labels ts) across
          (λ k d h. pairs_from (get_or (ordered_labels ts) k d) (labels_listed labels ts k d h)) (labels_in_order labels ts);
    }

-- ---- what follows from the four properties of the list

module _ (ts : List (List ℤ)) (out : List ℤ) (labels : LabelLaws) (triangles : TriangleLaws ts)
    (single : IsSingleInTriangles ts out)
    (bs : List (List ℤ)) (list : IsBranchList ts out bs) where
  -- of a branch and its inverse the list has one
  pub one_listed : (b : List ℤ) → IsBranch ts out b → Contains bs b ⊎ Contains bs (inverse_word b)
  one_listed b h = elim (cases_Bool (is_before (inverse_word b) b)) [
    | inr e ↦ inl (list.all b h e)
    | inl e ↦ inr (list.all (inverse_word b) (inverse_branch ts out labels triangles single b h)
        (subst (λ (c : List ℤ). is_before c (inverse_word b) ≡ false)
        (sym (inverse_twice ts out labels triangles single b h))
        (not_both labels _ _ _ _ e)))
  ]

  pub not_two_listed : (b : List ℤ) → IsBranch ts out b → Contains bs b → ¬ Contains bs (inverse_word b)
  not_two_listed b h has other =
      let one : is_before (inverse_word b) b ≡ false = All-contains IsFirst bs b list.first has in
      let two : is_before (inverse_word (inverse_word b)) (inverse_word b) ≡ false =
      All-contains IsFirst bs (inverse_word b) list.first other in
      let three : is_before b (inverse_word b) ≡ false =
      subst (λ (c : List ℤ). is_before c (inverse_word b) ≡ false) (inverse_twice ts out labels triangles single b h)
      two in
      let apart : ¬ ((letter_at (inverse_word b) 0 ≡ letter_at b 0) × (letter_at (inverse_word b) 1 ≡ letter_at b 1)) =
      begins_otherwise ts out labels triangles single b h in
      true≢false (sym (one_before labels _ _ _ _ apart three) ∙ one)
