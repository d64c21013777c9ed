-- A closed legal walk exists.
--
-- Each label has a legal continuation, and legal pairs are legal backwards, so each legal walk can be continued before
-- its first letter. Begin at any label and go on so, as long as the letter in front is new. There are only so many
-- labels: at some time the letter y in front stands in the walk already. Then the walk from y to the letter before the
-- one that is y again is closed and legal.
use Rattle.std.proofs.Common.{ℕ, zero, suc, ℤ, true, false, List, [], ◌∷◌, ◌++◌, ◌≡◌, ◌<◌, ◌≤◌, ◌+◌, ◌*◌, ◌⊎◌}
use Rattle.std.proofs.Common.{inl, inr, ◌∙◌, ap, sym, subst, append_assoc, arith, length, map, nat_eq}
use Rattle.std.specs.List.{All, AllByRecursion, IsDistinct, list_any}
use Rattle.std.proofs.lemmas.Bool.{cases_eq, eqb-true, ne_eqb, or_cases}
use Rattle.std.proofs.lemmas.List.{length-map}
use Rattle.std.proofs.lemmas.List.Elements.{All-nil, All-cons, All-head, All-tail}
use Rattle.std.proofs.lemmas.Map.Keys.{IsDistinct-cons}
use Rattle.std.proofs.lemmas.Map.Steps.{length-le_from_distinct_below}
use Rattle.ideal_tri.specs.Labels.{inverse}
use Rattle.ideal_tri.specs.LabelLaws.{LabelLaws}
use Rattle.ideal_tri.specs.Triangulations.{IsLabel, edge_count}
use Rattle.ideal_tri.specs.Vertices.{rank}
use Rattle.train_track.specs.Tracks.{IsLegal, IsLegalPair}
use Rattle.carry_map.specs.Iterates.{IsLegalLoop}
use Rattle.carry_map.proofs.TrackKnown.{TrackKnown}
use Rattle.carry_map.proofs.WordParts.{all_left, neighbours_left}

-- ---- labels that are all different

-- the places of the labels of w in the order of labels
abbrev ranks : List ℤ → List ℕ
ranks w = map rank w

abbrev AreApart : List ℤ → Type 0
AreApart w = IsDistinct nat_eq (ranks w)

apart_none : AreApart []
unfolding IsDistinct
apart_none = tt

ranks_below : LabelLaws → (ts : List (List ℤ)) (w : List ℤ) → All (IsLabel ts) w → (q : ℕ)
    → list_any (nat_eq q) (ranks w) ≡ true → q < 2 * edge_count ts
ranks_below labels ts [] are q has = absurd (cc)
ranks_below labels ts (x ∷ w) are q has =
    elim (or_cases (nat_eq q (rank x)) (list_any (nat_eq q) (ranks w)) has) [
      | inl e ↦
          subst (λ (r : ℕ). r < 2 * edge_count ts) (sym (eqb-true q (rank x) e))
          (labels.order.rank_below x (edge_count ts) (All-head (IsLabel ts) x w are))
      | inr later ↦ ranks_below labels ts w (All-tail (IsLabel ts) x w are) q later
    ]

-- there are no more than labels
apart_few : LabelLaws → (ts : List (List ℤ)) (w : List ℤ) → All (IsLabel ts) w → AreApart w
    → length w ≤ 2 * edge_count ts
apart_few labels ts w are apart =
    subst (λ (n : ℕ). n ≤ 2 * edge_count ts) (length-map w rank)
    (length-le_from_distinct_below (ranks w) (2 * edge_count ts) apart (ranks_below labels ts w are))

-- y stands in w, or it differs from all that do
standing_or_new : LabelLaws → (y : ℤ) (w : List ℤ)
    → ((a : List ℤ) × (b : List ℤ) × (w ≡ a ++ (y ∷ b)))
    ⊎ AllByRecursion (λ r. nat_eq (rank y) r ≡ false) (ranks w)
standing_or_new labels y [] = inr tt
standing_or_new labels y (x ∷ w) =
    elim (cases_eq (rank y) (rank x)) [
      | inl e ↦ inl ([], w, ap (λ (z : ℤ). z ∷ w) (sym (labels.order.one y x e)))
      | inr other ↦
          elim (standing_or_new labels y w) [
            | inl (a, b, e) ↦ inl (x ∷ a, b, ap (λ (z : List ℤ). x ∷ z) e)
            | inr new ↦ inr (ne_eqb (rank y) (rank x) other, new)
          ]
    ]

module _ (ts : List (List ℤ)) (out : List ℤ) (bs : List (List ℤ)) (k : TrackKnown ts out bs) where
  -- a legal walk of different labels
  record IsTrail (w : List ℤ) : Type 0 where
    labels : All (IsLabel ts) w
    legal : IsLegal ts out w
    apart : AreApart w

  abbrev HasLoop : Type 0
  HasLoop = (w : List ℤ) × IsLegalLoop ts out w

  -- a letter that may stand in front of x
  continued : (x : ℤ) → IsLabel ts x → (y : ℤ) × IsLabel ts y × IsLegalPair ts out y x
  continued x l =
      let (v, label, pair) = k.turns.continues (inverse x) (k.labels.label ts x l) in (
        inverse v,
        k.labels.label ts v label,
        subst (IsLegalPair ts out (inverse v)) (k.labels.twice x) (k.turns.back (inverse x) v pair),
      )

  -- y in front of a legal walk in which it stands
  closed : (y : ℤ) (w a b : List ℤ) → IsLabel ts y → All (IsLabel ts) w → IsLegal ts out (y ∷ w)
      → w ≡ a ++ (y ∷ b) → IsLegalLoop ts out (y ∷ a)
  closed y w a b l are legal e =
      let parts : y ∷ w ≡ y ∷ ((a ++ (y ∷ [])) ++ b) =
      ap (λ (z : List ℤ). y ∷ z) (e ∙ sym (append_assoc a (y ∷ []) b)) in
      record {
        labels =
            All-cons (IsLabel ts) y a l (all_left (IsLabel ts) a (y ∷ b) (subst (All (IsLabel ts)) e are));
        legal = (
          λ none. absurd (cc),
          neighbours_left (IsLegalPair ts out) y (a ++ (y ∷ [])) b (subst (IsLegal ts out) parts legal),
        );
      }

  -- with room for n more letters
  loop_before : (n : ℕ) (x : ℤ) (w : List ℤ) → IsTrail (x ∷ w) → 2 * edge_count ts < n + length (x ∷ w) → HasLoop
  loop_before zero x w trail many =
      absurd (let few : length (x ∷ w) ≤ 2 * edge_count ts =
      apart_few k.labels ts (x ∷ w) trail.labels trail.apart in
      omega arith)
  loop_before (suc n) x w trail many =
      let (y, label, pair) = continued x (All-head (IsLabel ts) x w trail.labels) in
      elim (standing_or_new k.labels y (x ∷ w)) [
        | inl (a, b, e) ↦ (y ∷ a, closed y (x ∷ w) a b label trail.labels (pair, trail.legal) e)
        | inr new ↦
            loop_before n y (x ∷ w)
            (record {
              labels = All-cons (IsLabel ts) y (x ∷ w) label trail.labels;
              legal = (pair, trail.legal);
              apart = IsDistinct-cons nat_eq (rank y) (ranks (x ∷ w)) new trail.apart;
            })
            (omega arith)
      ]

  pub exists : (x : ℤ) → IsLabel ts x → HasLoop
  exists x label =
      loop_before (2 * edge_count ts) x []
      (record {
        labels = All-cons (IsLabel ts) x [] label (All-nil (IsLabel ts));
        legal = tt;
        apart = IsDistinct-cons nat_eq (rank x) [] tt apart_none;
      })
      (omega arith)
