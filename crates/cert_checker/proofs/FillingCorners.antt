-- Left-out corners pass the tests one by one exactly where they stand in the order of labels and fill the
-- triangulation.
--
-- The test of an entry is that no earlier one lies in its triangle, so no two do. The test of a vertex is that a
-- left-out corner has its number, and corners have one number exactly where they lie at one vertex. Each number below
-- the count of vertices is that of a corner: of the first corner with this place among the first corners.
use Rattle.std.proofs.Common.{◌≡◌, ◌≢◌, ◌<◌, ◌≤◌, ◌*◌, ◌+◌, inl, inr, ℕ, zero, suc, ℤ, pos, Bool, true, false}
use Rattle.std.proofs.Common.{List, [], ◌∷◌, refl, sym, ◌∙◌, ap, subst, arith, length, get_or, cond}
use Rattle.std.specs.Prelude.{Some, None, nat_lt, unwrap_or}
use Rattle.std.specs.List.{All, AllPairs, position_or_len, range_with_len}
use Rattle.std.specs.Ordering.{int_eq}
use Rattle.std.proofs.lemmas.Bool.{true≢false, cases_order, or_cases, lt-ltb}
use Rattle.std.proofs.lemmas.List.{get_or-map, length-map}
use Rattle.std.proofs.lemmas.List.Elements.{All-filter, filter_passes}
use Rattle.std.proofs.lemmas.List.Folds.{list_any_at}
use Rattle.std.proofs.lemmas.List.FromFn.{get_or-range_with_len, length-range_with_len}
use Rattle.std.proofs.lemmas.List.Kept.{AllPairs-filter}
use Rattle.std.proofs.lemmas.List.Sums.{position_or_len_is}
use Rattle.ideal_tri.specs.LabelLaws.{LabelLaws}
use Rattle.ideal_tri.specs.VertexLaws.{PunctureLaws}
use Rattle.ideal_tri.specs.Triangulations.{IsLabel, edge_count, triangle_of}
use Rattle.ideal_tri.specs.Vertices.{rank, label_of_rank, ordered_labels, first_corners, least_corner}
use Rattle.ideal_tri.specs.Vertices.{vertex_of, vertex_count}
use Rattle.train_track.specs.Branches.{letter_at}
use Rattle.train_track.specs.Refusals.{IsFirstMisplaced, IsLeastWithTwo, IsLeastClosed}
use Rattle.train_track.specs.Tracks.{is_left_out, ArePlaced, IsFilling, IsSingleInTriangles, IsOpenAtVertices}
use Rattle.cert_checker.specs.FirstFailing.{AllPass}
use Rattle.cert_checker.specs.TrackRules.{IsCornerAt, IsOpenAt}

-- ---- the corners of the list

first_within : (n : ℕ) → 0 < suc n
first_within n = omega arith

later_within : (j n : ℕ) → j < n → suc j < suc n
later_within j n within = omega arith

pub listed_out : LabelLaws → (corners : List ℤ) (y : ℤ) → is_left_out corners y ≡ true
    → (j : ℕ) × (j < length corners) × (letter_at corners j ≡ y)
unfolding is_left_out
listed_out labels [] y e = absurd (true≢false (sym e))
listed_out labels (x ∷ corners) y e = elim (or_cases _ _ e) [
  | inl h ↦ elim (labels.same_or_not x y) [
    | inl f ↦ (0, first_within (length corners), f)
    | inr f ↦ absurd (true≢false (sym h ∙ labels.test_other x y f))
  ]
  | inr h ↦
      (let (j, within, at) = listed_out labels corners y h in (suc j, later_within j (length corners) within, at))
]

pub out_at : LabelLaws → (corners : List ℤ) (j : ℕ) → j < length corners
    → is_left_out corners (letter_at corners j) ≡ true
unfolding is_left_out
out_at labels corners j within =
    list_any_at (λ z. int_eq z (letter_at corners j)) corners j (pos 0) within
    (labels.test_same (letter_at corners j) (letter_at corners j) refl)

-- ---- one vertex

pub open_at : LabelLaws → (triples : List (List ℤ)) (corners : List ℤ) (v j : ℕ) → j < length corners
    → IsLabel triples (letter_at corners j) → vertex_of triples (letter_at corners j) ≡ v → IsOpenAt triples corners v
open_at labels triples corners v j within label at =
    (letter_at corners j, label, at, out_at labels corners j within)

pub never_open : LabelLaws → (triples : List (List ℤ)) (corners : List ℤ) (v n : ℕ) → length corners ≤ n
    → ((j : ℕ) → j < n → vertex_of triples (letter_at corners j) ≢ v) → ¬ IsOpenAt triples corners v
never_open labels triples corners v n all none (x, label, at, out) =
    let (j, within, is) = listed_out labels corners x out in
    none j (omega (arith, within)) (ap (vertex_of triples) is ∙ at)

-- ---- from the tests

module _ (triples : List (List ℤ)) (corners : List ℤ) (labels : LabelLaws) where
  pub placed_from : AllPass (length corners) (IsCornerAt triples corners) → ArePlaced triples corners
  placed_from pass i within = (pass i within).0

  single_from : AllPass (length corners) (IsCornerAt triples corners) → IsSingleInTriangles triples corners
  single_from pass x y l m e f same =
      let (i, within, at) = listed_out labels corners x e in
      let (j, within', at') = listed_out labels corners y f in
      elim (cases_order i j) [
        | inl is ↦ sym at ∙ ap (letter_at corners) is ∙ at'
        | inr order ↦ elim order [
          | inl less ↦
              absurd ((pass j within').1 i less
              (ap (triangle_of triples) at ∙ same ∙ sym (ap (triangle_of triples) at')))
          | inr more ↦
              absurd ((pass i within).1 j more
              (ap (triangle_of triples) at' ∙ sym same ∙ sym (ap (triangle_of triples) at)))
        ]
      ]

  opened_from : PunctureLaws triples → AllPass (vertex_count triples) (IsOpenAt triples corners)
      → IsOpenAtVertices triples corners
  opened_from vertices pass x l =
      let (y, m, at, out) = pass (vertex_of triples x) (vertices.within x l) in
      (y, m, (vertices.same x y l m).0 (sym at), out)

  pub filling_from : PunctureLaws triples → AllPass (length corners) (IsCornerAt triples corners)
      → AllPass (vertex_count triples) (IsOpenAt triples corners) → IsFilling triples corners
  filling_from vertices pass open_at = record {
    single = single_from pass;
    opened = opened_from vertices open_at;
  }

-- ---- the vertices and their first corners

rank_at : LabelLaws → (triples : List (List ℤ)) (k : ℕ) (d : ℤ) → k < 2 * edge_count triples
    → rank (get_or (ordered_labels triples) k d) ≡ k
rank_at labels triples k d within =
    let n : ℕ = 2 * edge_count triples in
    let from_zero : 0 + k ≡ k = omega arith in
    ap rank
    (get_or-map label_of_rank (range_with_len 0 n) k 0 d (omega (arith, length-range_with_len 0 n)))
    ∙ labels.order.rank_of (get_or (range_with_len 0 n) k 0)
    ∙ get_or-range_with_len 0 n k 0 within
    ∙ from_zero

count_labels : (triples : List (List ℤ)) → length (ordered_labels triples) ≡ 2 * edge_count triples
count_labels triples =
    length-map (range_with_len 0 (2 * edge_count triples)) label_of_rank
    ∙ length-range_with_len 0 (2 * edge_count triples)

rank_rises : LabelLaws → (triples : List (List ℤ)) → AllPairs (λ x y. rank x < rank y) (ordered_labels triples)
rank_rises labels triples i j d less within =
    let here : j < 2 * edge_count triples = subst (λ (n : ℕ). j < n) (count_labels triples) within in
    let before : i < 2 * edge_count triples = omega arith in
    omega (less, rank_at labels triples i d before, rank_at labels triples j d here, arith)

all_labels : LabelLaws → (triples : List (List ℤ)) → All (IsLabel triples) (ordered_labels triples)
all_labels labels triples k d within =
    let here : k < 2 * edge_count triples = subst (λ (n : ℕ). k < n) (count_labels triples) within in
    labels.order.edge_below (get_or (ordered_labels triples) k d) (edge_count triples)
    (subst (λ (r : ℕ). r < 2 * edge_count triples) (sym (rank_at labels triples k d here)) here)

module _ (triples : List (List ℤ)) (labels : LabelLaws) (v : ℕ) (within : v < vertex_count triples) where
  abbrev first : ℤ
  first = get_or (first_corners triples) v (pos 0)

  abbrev is_first : ℤ → Bool
  is_first x = int_eq (least_corner triples x) x

  first_label : IsLabel triples first
  first_label =
      All-filter is_first (IsLabel triples) (ordered_labels triples) (all_labels labels triples) v (pos 0) within

  same_from_test : (x y : ℤ) → int_eq x y ≡ true → x ≡ y
  same_from_test x y e = elim (labels.same_or_not x y) [
    | inl is ↦ is
    | inr other ↦ absurd (true≢false (sym e ∙ labels.test_other x y other))
  ]

  first_least : least_corner triples first ≡ first
  first_least =
      same_from_test (least_corner triples first) first
      (filter_passes is_first (ordered_labels triples) v (pos 0) within)

  -- no first corner before it is the same
  other_before : (k : ℕ) → k < v
      → int_eq (get_or (first_corners triples) k (pos 0)) (least_corner triples first) ≡ false
  other_before k less =
      let rises : rank (get_or (first_corners triples) k (pos 0)) < rank first =
      AllPairs-filter (λ x y. rank x < rank y) is_first (ordered_labels triples) (rank_rises labels triples) k v (pos 0)
      less within in
      labels.test_other (get_or (first_corners triples) k (pos 0)) (least_corner triples first)
      (λ same. let ranks : rank (get_or (first_corners triples) k (pos 0)) ≡ rank first =
      ap rank (same ∙ first_least) in omega arith)

  first_place : position_or_len (λ y. int_eq y (least_corner triples first)) (first_corners triples) ≡ v
  first_place =
      position_or_len_is (λ y. int_eq y (least_corner triples first)) (first_corners triples) v (pos 0) (omega arith)
      other_before
      (λ here. labels.test_same first (least_corner triples first) (sym first_least))

  first_number : vertex_of triples first ≡ v
  first_number =
      ap (λ (i : ℕ). unwrap_or (cond (nat_lt i (vertex_count triples)) (Some i) None) 0) first_place
      ∙ ap (λ (b : Bool). unwrap_or (cond b (Some v) None) 0) (lt-ltb v (vertex_count triples) within)

  pub corner_of_vertex : (x : ℤ) × IsLabel triples x × (vertex_of triples x ≡ v)
  corner_of_vertex = (first, first_label, first_number)

-- ---- and back

module _ (triples : List (List ℤ)) (corners : List ℤ) (labels : LabelLaws) where
  rises : ArePlaced triples corners → (i j : ℕ) → j < i → i < length corners
      → rank (letter_at corners j) < rank (letter_at corners i)
  rises placed zero j less within = absurd (omega arith)
  rises placed (suc i) j less within =
      let step : rank (letter_at corners i) < rank (letter_at corners (suc i)) =
      (placed (suc i) within).1 i (omega arith) in
      elim (cases_order j i) [
        | inl is ↦ subst (λ (k : ℕ). rank (letter_at corners k) < rank (letter_at corners (suc i))) (sym is) step
        | inr order ↦ elim order [
          | inl before ↦
              (let below : rank (letter_at corners j) < rank (letter_at corners i) =
              rises placed i j before (omega arith) in omega arith)
          | inr behind ↦ absurd (omega arith)
        ]
      ]

  pub corners_from : ArePlaced triples corners → IsFilling triples corners
      → AllPass (length corners) (IsCornerAt triples corners)
  corners_from placed filling i within = (
    placed i within,
    λ j less same.
        let here : j < length corners = omega arith in
        let one : letter_at corners j ≡ letter_at corners i =
        filling.single (letter_at corners j) (letter_at corners i) (placed j here).0 (placed i within).0
        (out_at labels corners j here) (out_at labels corners i within) same in
        let below : rank (letter_at corners j) < rank (letter_at corners i) = rises placed i j less within in
        let ranks : rank (letter_at corners j) ≡ rank (letter_at corners i) = ap rank one in
        omega arith,
  )

  pub open_from : PunctureLaws triples → IsFilling triples corners
      → AllPass (vertex_count triples) (IsOpenAt triples corners)
  open_from vertices filling v within =
      let (x, l, at) = corner_of_vertex triples labels v within in
      let (y, m, same, out) = filling.opened x l in
      (y, m, sym ((vertices.same x y l m).1 same) ∙ at, out)

-- ---- a track is not refused

module _ (triples : List (List ℤ)) (corners : List ℤ) (filling : IsFilling triples corners) where
  pub no_misplaced : ArePlaced triples corners → (i : ℕ) → ¬ IsFirstMisplaced triples corners i
  no_misplaced placed i first = first.misplaced (placed i first.within)

  pub no_two : (t : ℕ) → ¬ IsLeastWithTwo triples corners t
  no_two t least =
      least.two.different
      (filling.single least.two.first least.two.second least.two.first_label least.two.second_label
      least.two.first_out least.two.second_out (least.two.first_there ∙ sym least.two.second_there))

  pub none_closed : LabelLaws → PunctureLaws triples → (v : ℕ) → ¬ IsLeastClosed triples corners v
  none_closed labels vertices v least =
      let (x, l, at) = corner_of_vertex triples labels v least.within in
      let (y, m, same, out) = filling.opened x l in
      true≢false (sym out ∙ least.closed y m (sym ((vertices.same x y l m).1 same) ∙ at))
