-- Lists of closed words up to order, rotation and direction.
use Rattle.std.proofs.Common.{ℕ, ℤ, Bool, cond, eqb, List, [], ◌∷◌, ◌++◌, ◌≡◌, refl, sym, ◌∙◌, ap, arith, length, map}
use Rattle.std.specs.List.{AllZip, count_by, sum_by}
use Rattle.std.proofs.lemmas.List.Sums.{sum_by-cons}
use Rattle.ideal_tri.specs.Labels.{edge_of}
use Rattle.ideal_tri.specs.Curves.{IsSameCurve, IsSameCurves, is_same_curve, crossings}
use Rattle.ideal_tri.specs.DrawingLaws.{SameCurvesLaws}
use Rattle.ideal_tri.proofs.Labels.{edge_of-inverse}
use Rattle.ideal_tri.proofs.Rotations.{SameCurve-refl, is_same_curve-sound, is_same_curve-complete}
use Rattle.ideal_tri.proofs.Rotations.{is_same_curve-respects, SameCurve-count_by}
use Rattle.ideal_tri.proofs.Drawings.Tallies.{count_by-cons, count_by-append, count_by-map, count_by-flat, same_sum}

pub SameCurves-refl : (us : List (List ℤ)) → IsSameCurves us us
SameCurves-refl us = record { counts = λ c. refl }

pub SameCurves-sym : (us vs : List (List ℤ)) → IsSameCurves us vs → IsSameCurves vs us
SameCurves-sym us vs h = record { counts = λ c. sym (h.counts c) }

pub SameCurves-trans : (us vs ws : List (List ℤ)) → IsSameCurves us vs → IsSameCurves vs ws → IsSameCurves us ws
SameCurves-trans us vs ws h k = record { counts = λ c. h.counts c ∙ k.counts c }

pub SameCurves-append : (us vs more others : List (List ℤ)) → IsSameCurves us vs → IsSameCurves more others
    → IsSameCurves (us ++ more) (vs ++ others)
SameCurves-append us vs more others h k = record {
  counts = λ c.
      omega (
        arith,
        count_by-append (is_same_curve c) us more,
        count_by-append (is_same_curve c) vs others,
        h.counts c,
        k.counts c,
      );
}

-- what does not tell two words of one curve apart has the same sum
pub SameCurves-sum : (f : List ℤ → ℕ) → ((u v : List ℤ) → IsSameCurve u v → f u ≡ f v)
    → (us vs : List (List ℤ)) → IsSameCurves us vs → sum_by f us ≡ sum_by f vs
SameCurves-sum f keeps us vs h =
    same_sum (λ (w : List ℤ). Unit {0}) is_same_curve f
    (λ u p. is_same_curve-complete u u (SameCurve-refl u))
    (λ u v c p q r e. is_same_curve-respects c u v (is_same_curve-sound u v e))
    (λ u v p q e. keeps u v (is_same_curve-sound u v e))
    us vs (λ k d b. tt) (λ k d b. tt) (λ c p. h.counts c)

length-ones : {A : Type 0} (xs : List A) → sum_by (λ x. 1) xs ≡ length xs
length-ones [] = refl
length-ones (x ∷ xs) = omega (arith, sum_by-cons (λ y. 1) x xs, length-ones xs)

pub SameCurves-length : (us vs : List (List ℤ)) → IsSameCurves us vs → length us ≡ length vs
SameCurves-length us vs h = sym (length-ones us) ∙ SameCurves-sum (λ u. 1) (λ u v s. refl) us vs h ∙ length-ones vs

pub SameCurves-entrywise : (us vs : List (List ℤ)) → AllZip IsSameCurve us vs → IsSameCurves us vs
SameCurves-entrywise [] [] h = SameCurves-refl []
SameCurves-entrywise [] (v ∷ vs) h = absurd h
SameCurves-entrywise (u ∷ us) [] h = absurd h
SameCurves-entrywise (u ∷ us) (v ∷ vs) h = record {
  counts = λ c.
      let first : ◌≡◌ {A = ℕ} (cond (is_same_curve c u) 1 0) (cond (is_same_curve c v) 1 0) =
      ap (λ (b : Bool). cond b 1 0) (is_same_curve-respects c u v h.0) in
      let rest : IsSameCurves us vs = SameCurves-entrywise us vs h.1 in
      omega (arith, count_by-cons (is_same_curve c) u us, count_by-cons (is_same_curve c) v vs, rest.counts c);
}

pub SameCurves-map : (f : List ℤ → List ℤ) → ((u v : List ℤ) → IsSameCurve u v → IsSameCurve (f u) (f v))
    → (us vs : List (List ℤ)) → IsSameCurves us vs → IsSameCurves (map f us) (map f vs)
SameCurves-map f respects us vs h = record {
  counts = λ c.
      count_by-map (is_same_curve c) f us
      ∙ SameCurves-sum (λ u. cond (is_same_curve c (f u)) 1 0)
      (λ u v s. ap (λ (b : Bool). cond b 1 0) (is_same_curve-respects c (f u) (f v) (respects u v s))) us vs h
      ∙ sym (count_by-map (is_same_curve c) f vs);
}

pub SameCurves-crossings : (e : ℕ) (us vs : List (List ℤ)) → IsSameCurves us vs → crossings e us ≡ crossings e vs
SameCurves-crossings e us vs h =
    count_by-flat (λ x. eqb (edge_of x) e) us
    ∙ SameCurves-sum (count_by (λ x. eqb (edge_of x) e))
    (SameCurve-count_by (λ x. eqb (edge_of x) e) (λ x. ap (λ (n : ℕ). eqb n e) (edge_of-inverse x))) us vs h
    ∙ sym (count_by-flat (λ x. eqb (edge_of x) e) vs)

pub same_curves_laws : SameCurvesLaws
same_curves_laws = record {
  same = SameCurves-refl;
  back = SameCurves-sym;
  along = SameCurves-trans;
  append = SameCurves-append;
  lengths = SameCurves-length;
  entrywise = SameCurves-entrywise;
  mapped = SameCurves-map;
  crossed = SameCurves-crossings;
}
