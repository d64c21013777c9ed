-- Triangulations by tests that compute: a list of triples that passes has no refusal.
use Rattle.std.proofs.Common.{ℕ, zero, suc, refl, ℤ, pos, Bool, true, List, [], ◌∷◌, ◌≡◌, ◌<◌, ◌≤◌, ◌+◌, ◌∙◌, ◌&&◌}
use Rattle.std.proofs.Common.{sym, ap, subst, arith, length, take, get_or, nat_eq, nat_lt, nat_le, not, true≢false}
use Rattle.std.specs.List.{list_all, range_with_len, slice_index_or}
use Rattle.std.specs.Ordering.{int_eq}
use Rattle.std.proofs.lemmas.Bool.{and_parts, ltb-true, eqb-true, leb-true, not-true}
use Rattle.std.proofs.lemmas.Bool.Decides.{Decides-int_eq}
use Rattle.std.proofs.lemmas.List.{get_or_default}
use Rattle.std.proofs.lemmas.List.Sums.{AllPass-from_list_all}
use Rattle.std.proofs.lemmas.List.FromFn.{length-range_with_len, get_or-range_with_len}
use Rattle.ideal_tri.specs.Labels.{edge_of, inverse}
use Rattle.ideal_tri.specs.Triangulations.{edge_count, labels_of, triangle_of, IsReached}
use Rattle.ideal_tri.specs.Refusals.{IsRefusedFor}
use Rattle.ideal_tri.specs.declared.tri.TriError.{TriError}
use Rattle.ideal_tri.specs.declared.tri.TriError.TheVariants.{NoTriangle, TooManyEdges, LabelRange}
use Rattle.ideal_tri.specs.declared.tri.TriError.TheVariants.{LabelTwice, Disconnected}

-- a test of each number below n
pub at_each : (p : ℕ → Bool) (n k : ℕ) → list_all p (range_with_len 0 n) ≡ true → k < n → p k ≡ true
at_each p n k h inside =
    let plain : 0 + k ≡ k = omega arith in
    ap p (sym (get_or-range_with_len 0 n k 0 inside ∙ plain))
    ∙ AllPass-from_list_all p (range_with_len 0 n) h k 0 (omega (arith, length-range_with_len 0 n))

-- ---- bases

-- every triangle but the first has a side in common with it: these are the labels that lead there
module _ (triples : List (List ℤ)) (steps : List ℤ) where
  abbrev is_inside : ℤ → Bool
  is_inside x = nat_lt (edge_of x) (edge_count triples)

  abbrev read_at : ℕ → ℤ
  read_at i = slice_index_or (labels_of triples) i (pos 0)

  -- the label read at place i was not read before
  abbrev is_new : ℕ → Bool
  is_new i = list_all (λ y. not (int_eq y (read_at i))) (take i (labels_of triples))

  -- the label leads from triangle 0 to triangle t
  abbrev is_step : ℤ → ℕ → Bool
  is_step x t =
      nat_lt (edge_of x) (edge_count triples)
      && (nat_eq (triangle_of triples x) 0 && nat_eq (triangle_of triples (inverse x)) t)

  abbrev is_reached : ℕ → Bool
  is_reached zero = true
  is_reached (suc t) = is_step (slice_index_or steps t (pos 0)) (suc t)

  abbrev pub is_base : Bool
  is_base =
      nat_lt 0 (length triples)
      && (nat_le (edge_count triples) 48
      && (list_all is_inside (labels_of triples)
      && (list_all is_new (range_with_len 0 (length (labels_of triples)))
      && list_all is_reached (range_with_len 0 (length triples)))))

  record IsPassed : Type 0 where
    some : 0 < length triples
    few : edge_count triples ≤ 48
    inside : list_all is_inside (labels_of triples) ≡ true
    new : list_all is_new (range_with_len 0 (length (labels_of triples))) ≡ true
    reached : list_all is_reached (range_with_len 0 (length triples)) ≡ true

  passed : is_base ≡ true → IsPassed
  passed h =
      let (some, h1) = and_parts (nat_lt 0 (length triples)) _ h in
      let (few, h2) = and_parts (nat_le (edge_count triples) 48) _ h1 in
      let (inside, h3) = and_parts (list_all is_inside (labels_of triples)) _ h2 in
      let (new, reached) = and_parts (list_all is_new (range_with_len 0 (length (labels_of triples)))) _ h3 in
      record {
        some = ltb-true _ _ some;
        few = leb-true _ _ few;
        inside = inside;
        new = new;
        reached = reached;
      }

  not_both : (x y z : ℤ) → not (int_eq x y) ≡ true → x ≡ z → y ≡ z → ⊥
  not_both x y z h one other =
      let same : int_eq x y ≡ true = (Decides-int_eq x y).1 (one ∙ sym other) in
      true≢false (sym same ∙ not-true (int_eq x y) h)

  reached_from : (t : ℕ) → is_reached t ≡ true → IsReached triples 0 t
  reached_from zero h = record { letters = []; walk = refl }
  reached_from (suc t) h =
      let x : ℤ = slice_index_or steps t (pos 0) in
      let (label, rest) = and_parts (nat_lt (edge_of x) (edge_count triples)) _ h in
      let (here, there) = and_parts (nat_eq (triangle_of triples x) 0) _ rest in
      record { letters = x ∷ []; walk = (ltb-true _ _ label, eqb-true _ _ here, eqb-true _ _ there) }

  -- a list of triples that passes has no refusal
  pub no_refusal : is_base ≡ true → (e : TriError) → IsRefusedFor triples e → ⊥
  no_refusal h NoTriangle none = let p : IsPassed = passed h in omega (arith, p.some, none)
  no_refusal h (TooManyEdges n) many = let p : IsPassed = passed h in omega (arith, p.few, many.0)
  no_refusal h (LabelRange x) (size, first) =
      let p : IsPassed = passed h in
      first.outside (subst (λ z. edge_of z < edge_count triples) first.is (ltb-true _ _
      (AllPass-from_list_all is_inside (labels_of triples) p.inside first.place x first.within)))
  no_refusal h (LabelTwice x) (size, inside, first) =
      let p : IsPassed = passed h in
      let (k, below, is) = first.again in
      let labels : List ℤ = labels_of triples in
      let new : is_new first.place ≡ true = at_each is_new (length labels) first.place p.new first.within in
      let other : not (int_eq (get_or (take first.place labels) k x) (read_at first.place)) ≡ true =
      AllPass-from_list_all (λ y. not (int_eq y (read_at first.place))) (take first.place labels) new k x below in
      not_both (get_or (take first.place labels) k x) (read_at first.place) x other is
      (get_or_default labels first.place (pos 0) x first.within ∙ first.is)
  no_refusal h (Disconnected t) (size, triangulation, first) =
      let p : IsPassed = passed h in
      first.unreached (reached_from t (at_each is_reached (length triples) t p.reached first.within))
