-- The forest collapsed: which letters stay, and what is left of walks along the trees.
--
-- The collapse at a root keeps the labels of the outer edges of its component, and forgets all others. It sees the
-- edge of a letter alone, so it respects inverses. An edge lies in one component: both its labels have triangles with
-- the same root. So a letter that stays is an outer label of the component; a word of such labels stays as it is; and
-- a walk along the trees, whose letters are of tree edges, falls away.
use Rattle.std.proofs.Common.{ℕ, ℤ, Bool, true, false, List, [], ◌∷◌, ◌++◌, ◌≡◌, ◌&&◌, inl, inr, refl, sym, ◌∙◌, ap}
use Rattle.std.proofs.Common.{subst, nat_eq, nat_lt, not, cond}
use Rattle.std.specs.List.{All, flat_map}
use Rattle.std.proofs.lemmas.Bool.{cases_Bool, cond-true, cond-false, and_parts, and_from, and_left, and_right}
use Rattle.std.proofs.lemmas.Bool.{eqb-true, eq-eqb, ltb-true, lt-ltb, not-true, not_from_true, not_from_false}
use Rattle.std.proofs.lemmas.List.Elements.{All-nil, All-cons, All-head, All-tail, All-append}
use Rattle.ideal_tri.specs.Labels.{inverse, edge_of}
use Rattle.ideal_tri.specs.Words.{inverse_word}
use Rattle.ideal_tri.specs.Triangulations.{IsLabel, edge_count, triangle_of}
use Rattle.tri_atlas.specs.Maps.{IsOdd}
use Rattle.free_groupoid.specs.TestWalks.{root_of, is_tree_edge, root_of_edge}
use Rattle.free_groupoid.specs.ForestLaws.{ForestLaws}
use Rattle.free_groupoid.specs.inside.InnerPaths.{is_outer_at, collapse}
use Rattle.free_groupoid.proofs.Known.{Known}
use Rattle.free_groupoid.proofs.ForestLaws.{edge_component}

-- a label of the component of the root r, whose edge lies outside the forest
pub record IsOuter (triples : List (List ℤ)) (r : ℕ) (x : ℤ) : Type 0 where
  pub label : IsLabel triples x
  pub outside : is_tree_edge triples (edge_of x) ≡ false
  pub root : root_of triples (triangle_of triples x) ≡ r

-- ---- one letter

pub collapse-odd : Known → (triples : List (List ℤ)) (r : ℕ) → IsOdd (collapse triples r)
collapse-odd known triples r x =
    ap (λ (e : ℕ). cond (is_outer_at triples r e) (inverse x ∷ []) []) (known.labels.edge x) ∙ go
    (is_outer_at triples r (edge_of x))
  where
    go : (b : Bool) → cond b (inverse x ∷ []) [] ≡ inverse_word (cond b (x ∷ []) [])
    go true = refl
    go false = refl

module _ (triples : List (List ℤ)) (f : ForestLaws triples) (r : ℕ) where
  outer_test : (x : ℤ) → IsOuter triples r x → is_outer_at triples r (edge_of x) ≡ true
  outer_test x h =
      and_from (nat_lt (edge_of x) (edge_count triples))
      (not (is_tree_edge triples (edge_of x)) && nat_eq (root_of_edge triples (edge_of x)) r)
      (lt-ltb (edge_of x) (edge_count triples) h.label)
      (and_from (not (is_tree_edge triples (edge_of x))) (nat_eq (root_of_edge triples (edge_of x)) r)
      (not_from_false (is_tree_edge triples (edge_of x)) h.outside)
      (eq-eqb (root_of_edge triples (edge_of x)) r (edge_component triples f.component x h.label ∙ h.root)))

  test_outer : (x : ℤ) → is_outer_at triples r (edge_of x) ≡ true → IsOuter triples r x
  test_outer x h =
      let parts =
      and_parts (nat_lt (edge_of x) (edge_count triples))
      (not (is_tree_edge triples (edge_of x)) && nat_eq (root_of_edge triples (edge_of x)) r) h in
      let more =
      and_parts (not (is_tree_edge triples (edge_of x))) (nat_eq (root_of_edge triples (edge_of x)) r) parts.1 in
      let label : IsLabel triples x = ltb-true (edge_of x) (edge_count triples) parts.0 in
      record {
        label = label;
        outside = not-true (is_tree_edge triples (edge_of x)) more.0;
        root = sym (edge_component triples f.component x label) ∙ eqb-true (root_of_edge triples (edge_of x)) r more.1;
      }

  pub collapse-outer : (x : ℤ) → IsOuter triples r x → collapse triples r x ≡ x ∷ []
  collapse-outer x h = cond-true (is_outer_at triples r (edge_of x)) (x ∷ []) [] (outer_test x h)

  pub collapse-tree : (x : ℤ) → is_tree_edge triples (edge_of x) ≡ true → collapse triples r x ≡ []
  collapse-tree x h =
      cond-false (is_outer_at triples r (edge_of x)) (x ∷ []) []
      (and_right (nat_lt (edge_of x) (edge_count triples))
      (not (is_tree_edge triples (edge_of x)) && nat_eq (root_of_edge triples (edge_of x)) r)
      (and_left (not (is_tree_edge triples (edge_of x))) (nat_eq (root_of_edge triples (edge_of x)) r)
      (not_from_true (is_tree_edge triples (edge_of x)) h)))

  -- what is left is outer
  pub collapse-keeps : (x : ℤ) → All (IsOuter triples r) (collapse triples r x)
  collapse-keeps x =
      elim (cases_Bool (is_outer_at triples r (edge_of x))) [
        | inl h ↦
            subst (All (IsOuter triples r)) (sym (cond-true (is_outer_at triples r (edge_of x)) (x ∷ []) [] h))
            (All-cons (IsOuter triples r) x [] (test_outer x h) (All-nil (IsOuter triples r)))
        | inr h ↦
            subst (All (IsOuter triples r)) (sym (cond-false (is_outer_at triples r (edge_of x)) (x ∷ []) [] h))
            (All-nil (IsOuter triples r))
      ]

  -- ---- words

  pub collapsed-outer : (w : List ℤ) → All (IsOuter triples r) (flat_map (collapse triples r) w)
  collapsed-outer [] = All-nil (IsOuter triples r)
  collapsed-outer (x ∷ w) =
      All-append (IsOuter triples r) (collapse triples r x) (flat_map (collapse triples r) w) (collapse-keeps x)
      (collapsed-outer w)

  -- outer letters stay
  pub collapse-fixed : (w : List ℤ) → All (IsOuter triples r) w → flat_map (collapse triples r) w ≡ w
  collapse-fixed [] h = refl
  collapse-fixed (x ∷ w) h =
      ap (λ (z : List ℤ). z ++ flat_map (collapse triples r) w) (collapse-outer x (All-head (IsOuter triples r) x w h))
      ∙ ap (λ (z : List ℤ). x ∷ z) (collapse-fixed w (All-tail (IsOuter triples r) x w h))

  -- letters of the trees fall away
  pub collapse-trees : (w : List ℤ) → All (λ x. is_tree_edge triples (edge_of x) ≡ true) w
      → flat_map (collapse triples r) w ≡ []
  collapse-trees [] h = refl
  collapse-trees (x ∷ w) h =
      ap (λ (z : List ℤ). z ++ flat_map (collapse triples r) w)
      (collapse-tree x (All-head (λ y. is_tree_edge triples (edge_of y) ≡ true) x w h))
      ∙ collapse-trees w (All-tail (λ y. is_tree_edge triples (edge_of y) ≡ true) x w h)
