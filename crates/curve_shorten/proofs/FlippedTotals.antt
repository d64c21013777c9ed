-- What the flip of one edge makes of the total, and what is found among the edges.
use Rattle.std.proofs.Common.{◌≡◌, ◌<◌, ◌≤◌, ◌↔◌, ℕ, ℤ, pos, List, length, sum}
use Rattle.std.proofs.Common.{Bool, false, Option, None, Some, IsTrue, IfSome, IfNone, is_some, refl}
use Rattle.std.proofs.Common.{sym, subst, arith}
use Rattle.std.proofs.lemmas.List.Sums.{sum_by-set, get_or-le-sum_by}
use Rattle.ideal_tri.specs.Flips.{flipped}
use Rattle.ideal_tri.specs.FlipLaws.{FlipLaws}
use Rattle.ideal_tri.specs.Triangulations.{IsTriangulation}
use Rattle.ideal_tri.specs.Vectors.{IsMulticurve}
use Rattle.tri_atlas.specs.Arena.{flip_of}
use Rattle.tri_atlas.specs.MapLaws.{FlipPathLaws}
use Rattle.tri_atlas.specs.VectorLaws.{VectorLaws}
use Rattle.curve_shorten.specs.Descents.{total_flipped, HasNoLower, IsBest}
use Rattle.tri_atlas.specs.FlipPaths.{IsFlippableEdge}
use Rattle.curve_shorten.specs.inside.Rounds.{IsFlipOf, number_flipped}

-- ---- one flip

pub is_flip_of : (triples : List (List ℤ)) (w : List ℕ) (e : ℕ) → IsTriangulation triples → FlipLaws
    → FlipPathLaws → VectorLaws → IsMulticurve triples w → IsFlippableEdge triples e → IsFlipOf triples w e
is_flip_of triples w e sound flips paths vectors multicurve h =
    let within : e < length w = subst (λ (n : ℕ). e < n) (sym multicurve.one_per_edge) h.0 in
    record {
      within = within;
      part = get_or-le-sum_by (λ n. n) w e 0 within;
      enough = vectors.numbers.enough triples (flipped triples (pos e)) (pos e) _ _ _ _ w sound (paths.is_flip triples e h)
          multicurve;
      total = sum_by-set (λ n. n) w e (number_flipped triples w e) 0 within;
      multicurve = (vectors.moves triples (flipped triples (pos e)) (flip_of triples (pos e)) w sound
          (flips.flips triples (pos e) sound h.0 h.1).triangulation (paths.is_flip triples e h) multicurve).multicurve;
    }

-- ---- among the edges

-- the flip of a best edge lowers the total
pub best_lowers : (triples : List (List ℤ)) (w : List ℕ) (e : ℕ) → IsBest triples w e → ¬ HasNoLower triples w
best_lowers triples w e best none =
    let low : total_flipped triples w e < sum w = best.lowers in
    let high : sum w ≤ total_flipped triples w e = none e best.flippable in
    omega arith

not_true : IsTrue false → ⊥
not_true t = grind arith

-- there is a best edge, or no flip lowers the total: so this tells whether one does
lower_told_here : (triples : List (List ℤ)) (w : List ℕ) (o : Option ℕ)
    → IfSome o (IsBest triples w) → IfNone o (HasNoLower triples w)
    → IsTrue (is_some o) ↔ ¬ HasNoLower triples w
lower_told_here triples w None best none = (λ t. elim (not_true t) [ ], λ h. elim (h none) [ ])
lower_told_here triples w (Some e) best none = (λ _. best_lowers triples w e best, λ _. refl)

pub lower_told : (triples later : List (List ℤ)) (w v : List ℕ) (o : Option ℕ) (some : Bool) → triples ≡ later
    → w ≡ v → some ≡ is_some o → IfSome o (IsBest triples w) → IfNone o (HasNoLower triples w)
    → IsTrue some ↔ ¬ HasNoLower later v
lower_told triples later w v o some p q r best none =
    subst (λ (b : Bool). IsTrue b ↔ ¬ HasNoLower later v) (sym r)
    (subst (λ (u : List ℕ). IsTrue (is_some o) ↔ ¬ HasNoLower later u) q
    (subst (λ (ts : List (List ℤ)). IsTrue (is_some o) ↔ ¬ HasNoLower ts w) p
    (lower_told_here triples w o best none)))
