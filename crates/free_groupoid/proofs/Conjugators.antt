-- Where all test walks are kept, one word carries the letters of all outer edges of a component to their images.
--
-- A test walk is the cyclic reduction of a loop or of a product of two. If it is kept, some word carries the loop, or
-- the product, to its image. Collapse the forest: a loop becomes the letter of its edge, a product becomes two
-- letters, and the conjugating word is collapsed with them. So each outer letter is carried to the collapsed image of
-- its loop, and any two to the product of their images. The list has the product of two edges in one order only; a
-- conjugation of y x gives one of x y. With these facts the word shared by the first two letters carries each of
-- them, and each third letter.
use Rattle.std.proofs.Common.{ℕ, ℤ, pos, List, [], ◌∷◌, ◌++◌, ◌≡◌, ◌≢◌, ◌⊎◌, inl, inr, refl, sym, ◌∙◌, ap, subst}
use Rattle.std.proofs.Common.{append_assoc}
use Rattle.std.specs.List.{All, Contains, flat_map}
use Rattle.std.proofs.lemmas.Bool.{cases_eq}
use Rattle.std.proofs.lemmas.List.Concat.{flat_map-append}
use Rattle.std.proofs.lemmas.List.Elements.{All-contains}
use Rattle.ideal_tri.specs.Words.{inverse_word, reduce, cyclic_reduce}
use Rattle.tri_atlas.specs.Maps.{IsMap}
use Rattle.free_groupoid.specs.TestWalks.{root_of_edge, loop, outer_edges, edges_at, test_walks}
use Rattle.free_groupoid.specs.Inner.{IsKept}
use Rattle.free_groupoid.specs.inside.InnerPaths.{collapse, collapsed_image, shared}
use Rattle.free_groupoid.proofs.Known.{Known}
use Rattle.free_groupoid.proofs.Names.{+0, +1, +2, -3, +3, +4, by_fact}
use Rattle.free_groupoid.proofs.Carrying.{Carries, carries_image, carries_same, kept-carries}
use Rattle.free_groupoid.proofs.Shared.{IsPair, shared_carries_one, shared_carries_other}
use Rattle.free_groupoid.proofs.ThirdLetter.{shared_carries_third}
use Rattle.free_groupoid.proofs.Collapse.{collapse-odd}
use Rattle.free_groupoid.proofs.Known.{Laws}
use Rattle.free_groupoid.proofs.OuterEdges.{edge_at_outer, edge_at_edge}
use Rattle.free_groupoid.proofs.TestLists.{loop_walk, product_walk, loop_tested, product_tested}
use Rattle.free_groupoid.proofs.ClosedWords.{loop_collapsed, product_collapsed}

-- a word that carries y x to Y X gives one that carries x y to X Y
swapped : Known → (x y : ℤ) (q first second : List ℤ) → Carries q (y ∷ (x ∷ [])) (second ++ first)
    → Carries (x ∷ (q ++ inverse_word first)) (x ∷ (y ∷ [])) (first ++ second)
swapped known x y q first second h =
    by_fact known ((x ∷ []) ∷ (y ∷ []) ∷ q ∷ first ∷ second ∷ []) (+0 ∷ +1 ∷ +0 ∷ +2 ∷ -3 ∷ [])
    (+0 ∷ +2 ∷ -3 ∷ +3 ∷ +4 ∷ [])
    (+0 ∷ []) (+1 ∷ +0 ∷ +2 ∷ []) (+2 ∷ +4 ∷ +3 ∷ []) (-3 ∷ []) refl h refl
    ∙ ap (λ (z : List ℤ). reduce (x ∷ z)) (sym (append_assoc q (inverse_word first) (first ++ second)))

module _ (triples : List (List ℤ)) (l : Laws triples) (f : ℤ → List ℤ) (f0 : ℕ → ℕ) (m : IsMap triples triples f f0)
    (kept : All (IsKept f) (test_walks triples)) (r : ℕ) where
  -- the edge is outer, in the component of r
  abbrev pub IsEdge : ℕ → Type 0
  IsEdge e = Contains (edges_at triples r (outer_edges triples)) e

  abbrev pub image : ℕ → List ℤ
  image e = collapsed_image triples f r e

  -- ---- loops and products, collapsed

  -- a closed word that is kept, collapsed
  collapsed_carries : (w : List ℤ) → IsKept f (cyclic_reduce w)
      → (q : List ℤ) × Carries q (flat_map (collapse triples r) w) (flat_map (collapse triples r) (flat_map f w))
  collapsed_carries w h =
      let (q, carries) = kept-carries l.known f w m.odd h in (
        flat_map (collapse triples r) q,
        carries_image l.known (collapse triples r) q w (flat_map f w)
            (collapse-odd l.known triples r) carries,
      )

  pub letter_carried : (e : ℕ) → IsEdge e → (q : List ℤ) × Carries q (pos e ∷ []) (image e)
  letter_carried e h =
      let (q, carries) = collapsed_carries (loop triples (pos e))
      (All-contains (IsKept f) (test_walks triples) (loop_walk triples e) kept
      (loop_tested triples e (edge_at_edge triples r e h))) in
      let collapsed : List ℤ = flat_map (collapse triples r) (flat_map f (loop triples (pos e))) in (
        q,
        carries_same l.known q (flat_map (collapse triples r) (loop triples (pos e))) collapsed (pos e ∷ []) (image e)
            (ap reduce (loop_collapsed triples l r e (edge_at_outer triples r e h)))
            (sym (l.known.words.reduction.twice collapsed)) carries,
      )

  product_carried : (i j : ℕ) → IsEdge i → IsEdge j → IsKept f (product_walk triples i j)
      → (q : List ℤ) × Carries q (pos i ∷ (pos j ∷ [])) (image i ++ image j)
  product_carried i j h k passes =
      let w : List ℤ = loop triples (pos i) ++ loop triples (pos j) in
      let one : List ℤ = flat_map (collapse triples r) (flat_map f (loop triples (pos i))) in
      let other : List ℤ = flat_map (collapse triples r) (flat_map f (loop triples (pos j))) in
      let parts : flat_map (collapse triples r) (flat_map f w) ≡ one ++ other =
      ap (flat_map (collapse triples r)) (flat_map-append f (loop triples (pos i)) (loop triples (pos j)))
      ∙ flat_map-append (collapse triples r) (flat_map f (loop triples (pos i))) (flat_map f (loop triples (pos j))) in
      let (q, carries) = collapsed_carries w passes in (
        q,
        carries_same l.known q (flat_map (collapse triples r) w) (flat_map (collapse triples r) (flat_map f w))
            (pos i ∷ (pos j ∷ []))
            (image i ++ image j) (ap reduce
            (product_collapsed triples l r i j (edge_at_outer triples r i h) (edge_at_outer triples r j k)))
            (ap reduce parts ∙ l.known.words.reduction.append one other) carries,
      )

  pub pair_carried : (i j : ℕ) → i ≢ j → IsEdge i → IsEdge j
      → (q : List ℤ) × Carries q (pos i ∷ (pos j ∷ [])) (image i ++ image j)
  pair_carried i j ne h k =
      elim (product_tested triples i j ne same (edge_at_edge triples r i h) (edge_at_edge triples r j k)) [
        | inl there ↦
            product_carried i j h k (All-contains (IsKept f) (test_walks triples) (product_walk triples i j) kept there)
        | inr there ↦
            (let (q, carries) = product_carried j i k h
            (All-contains (IsKept f) (test_walks triples) (product_walk triples j i) kept there) in
            (pos i ∷ (q ++ inverse_word (image i)), swapped l.known (pos i) (pos j) q (image i) (image j) carries))
      ]
    where
      same : root_of_edge triples i ≡ root_of_edge triples j
      same = (edge_at_outer triples r i h).root ∙ sym (edge_at_outer triples r j k).root

  -- ---- one word for all letters

  pub shared_serves : (i j : ℕ) (a b : List ℤ) → i ≢ j → IsEdge i → IsEdge j → Carries a (pos i ∷ []) (image i)
      → Carries b (pos j ∷ []) (image j)
      → (e : ℕ) → IsEdge e → Carries (shared (pos i) a b) (pos e ∷ []) (image e)
  shared_serves i j a b ne h k one other e n = go (cases_eq e i) (cases_eq e j)
    where
      pair : IsPair (pos i) (pos j) a b (image i) (image j)
      pair =
          let (q, product) = pair_carried i j ne h k in
          record { apart = ne; one = one; other = other; both = q; product = product }

      go : (e ≡ i) ⊎ (e ≡ i → ⊥) → (e ≡ j) ⊎ (e ≡ j → ⊥) → Carries (shared (pos i) a b) (pos e ∷ []) (image e)
      go (inl at_i) other_case =
          subst (λ (z : ℕ). Carries (shared (pos i) a b) (pos z ∷ []) (image z)) (sym at_i)
          (shared_carries_one l.known (pos i) (pos j) a b (image i) (image j) pair)
      go (inr not_i) (inl at_j) =
          subst (λ (z : ℕ). Carries (shared (pos i) a b) (pos z ∷ []) (image z)) (sym at_j)
          (shared_carries_other l.known (pos i) (pos j) a b (image i) (image j) pair)
      go (inr not_i) (inr not_j) =
          let (d, third) = letter_carried e n in
          let (q, product) = pair_carried i e (λ x. not_i (sym x)) h n in
          let (p, last) = pair_carried j e (λ x. not_j (sym x)) k n in
          shared_carries_third l.known (pos i) (pos j) (pos e) a b d (image i) (image j) (image e) pair
          (record { apart = λ x. not_i (sym x); one = one; other = third; both = q; product = product }) p
          (λ x. not_j (sym x)) last
