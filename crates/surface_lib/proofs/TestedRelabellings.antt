-- Relabellings by a test that computes; and a relabelling has no refusal.
use Rattle.std.proofs.Common.{ℕ, ℤ, pos, Bool, true, List, [], ◌∷◌, ◌++◌, ◌≡◌, ◌≤◌, ◌&&◌, sym, arith}
use Rattle.std.proofs.Common.{length, take, drop, map, get_or, nat_eq, nat_lt, refl, inl, inr}
use Rattle.std.specs.List.{list_all, list_any, range_with_len}
use Rattle.std.specs.Cmp.Lexicographic.{pointwise}
use Rattle.std.specs.Ordering.{int_eq}
use Rattle.std.proofs.lemmas.Bool.{and_parts, ltb-true, eqb-true, cases_lt}
use Rattle.std.proofs.lemmas.Bool.Decides.{Decides-int_eq}
use Rattle.std.proofs.lemmas.List.{take-append-drop}
use Rattle.std.proofs.lemmas.List.Folds.{Any-from_list_any}
use Rattle.std.proofs.lemmas.List.Sums.{AllPass-from_list_all}
use Rattle.std.proofs.lemmas.Slice.Eq.{slice_eq-Decides}
use Rattle.ideal_tri.specs.HitLaws.{HitLaws}
use Rattle.ideal_tri.specs.Labels.{edge_of}
use Rattle.ideal_tri.specs.Words.{IsRotation}
use Rattle.ideal_tri.specs.Triangulations.{edge_count}
use Rattle.ideal_tri.specs.Relabellings.{image_of, hits, IsCarried, IsRelabelling}
use Rattle.relabel.specs.Refusals.{IsRefusedFor}
use Rattle.relabel.specs.declared.relabelling.RelabelError.{RelabelError}
use Rattle.relabel.specs.declared.relabelling.RelabelError.TheVariants.{WrongLength, NotLabel}
use Rattle.relabel.specs.declared.relabelling.RelabelError.TheVariants.{NotBijective, BreaksTriangle}
use Rattle.surface_lib.proofs.TestedBases.{at_each}

-- ---- rotations

abbrev is_same : List ℤ → List ℤ → Bool
is_same s t = pointwise int_eq s t

same : (s t : List ℤ) → is_same s t ≡ true → s ≡ t
same s t h = (slice_eq-Decides Decides-int_eq s t (is_same s t) refl).0 h

-- t is s, begun at place k
abbrev is_begun_at : List ℤ → List ℤ → ℕ → Bool
is_begun_at s t k = is_same t (drop k s ++ take k s)

begun_at : (s t : List ℤ) (k : ℕ) → is_begun_at s t k ≡ true → IsRotation s t
begun_at s t k h = (take k s, drop k s, sym (take-append-drop k s), same t (drop k s ++ take k s) h)

abbrev is_turned : List ℤ → List ℤ → Bool
is_turned s t = list_any (is_begun_at s t) (0 ∷ 1 ∷ 2 ∷ [])

turned : (s t : List ℤ) → is_turned s t ≡ true → IsRotation s t
turned s t h =
    let (i, k, within, is, begun) = Any-from_list_any (is_begun_at s t) (0 ∷ 1 ∷ 2 ∷ []) h in
    begun_at s t k begun

-- ---- the test

module _ (from to : List (List ℤ)) (images : List ℤ) where
  abbrev is_label : ℤ → Bool
  is_label x = nat_lt (edge_of x) (edge_count to)

  abbrev is_hit_once : ℕ → Bool
  is_hit_once e = nat_eq (hits images e) 1

  abbrev is_carried : List ℤ → Bool
  is_carried t = list_any (is_turned (map (image_of images) t)) to

  abbrev pub is_relabelling : Bool
  is_relabelling =
      nat_eq (length images) (edge_count from)
      && (list_all is_label images
      && (list_all is_hit_once (range_with_len 0 (edge_count to)) && list_all is_carried from))

  carried : (t : List ℤ) → is_carried t ≡ true → IsCarried to images t
  carried t h =
      let (k, u, within, is, turns) = Any-from_list_any (is_turned (map (image_of images) t)) to h in
      (k, u, within, is, turned (map (image_of images) t) u turns)

  pub tested : is_relabelling ≡ true → IsRelabelling from to images
  tested h =
      let (long, h1) = and_parts (nat_eq (length images) (edge_count from)) _ h in
      let (labels, h2) = and_parts (list_all is_label images) _ h1 in
      let (once, triangles) = and_parts (list_all is_hit_once (range_with_len 0 (edge_count to))) _ h2 in
      record {
        one_per_edge = eqb-true _ _ long;
        labels = λ k d within. ltb-true _ _ (AllPass-from_list_all is_label images labels k d within);
        bijective = λ e within. eqb-true _ _ (at_each is_hit_once (edge_count to) e once within);
        triangles = λ k d within.
            carried (get_or from k d) (AllPass-from_list_all is_carried from triangles k d within);
      }

  -- ---- no refusal

  hit_at_most_once : HitLaws → IsRelabelling from to images → (e : ℕ) → hits images e ≤ 1
  hit_at_most_once laws r e =
      elim (cases_lt e (edge_count to)) [
        | inl below ↦ omega (arith, r.bijective e below)
        | inr past ↦ omega (arith, laws.past images (edge_count to) e r.labels past)
      ]

  pub no_refusal : HitLaws → IsRelabelling from to images → (e : RelabelError) → IsRefusedFor from to images e → ⊥
  no_refusal laws r (WrongLength n) (other, is) = other r.one_per_edge
  no_refusal laws r (NotLabel i) (long, first) = first.outside (r.labels i (pos 0) first.within)
  no_refusal laws r (NotBijective x) (long, labels, least) =
      omega (arith, hit_at_most_once laws r x, least.twice)
  no_refusal laws r (BreaksTriangle t) (long, labels, none, least) =
      least.broken (r.triangles t [] least.within)
