-- Rounds of a descent: each takes the descent on.
use Rattle.std.proofs.Common.{◌≡◌, ◌≢◌, ◌<◌, ◌++◌, ℕ, ℤ, pos, Bool, true, false, List, [], ◌∷◌, sum}
use Rattle.std.proofs.Common.{sym, ◌∙◌, ap, subst, arith}
use Rattle.std.proofs.lemmas.List.{append_assoc}
use Rattle.ideal_tri.specs.Flips.{flipped}
use Rattle.tri_atlas.specs.Arena.{Arena}
use Rattle.curve_shorten.specs.Descents.{total_flipped, vector_flipped, HasNoLower, IsBest, IsFirstLevel, IsDescent}
use Rattle.curve_shorten.specs.Descents.IsDescent.{lowered, kept}
use Rattle.curve_shorten.specs.declared.short.Short.{Short}
use Rattle.curve_shorten.specs.inside.States.{there, IsAfterFlip, IsAfterBest, IsAfterRound, IsAfterLevel}

-- what begins with the flip of an edge, from where that flip leads
from_flipped : (old new : Arena) (s t : Short) (e : ℕ) (more v : List ℕ) (after : List (List ℤ))
    → IsAfterFlip e old s new t → IsDescent (there new t) t.coords.numbers more after v
    → IsDescent (flipped (there old s) (pos e)) (vector_flipped (there old s) s.coords.numbers e) more after v
from_flipped old new s t e more v after h d =
    subst (λ (ts : List (List ℤ)). IsDescent ts (vector_flipped (there old s) s.coords.numbers e) more after v) h.tri
    (subst (λ (w : List ℕ). IsDescent (there new t) w more after v) h.numbers d)

-- the best edge was flipped
pub best_round : (old new : Arena) (s t : Short) (e : ℕ) → sum s.coords.numbers ≢ 2
    → IsBest (there old s) s.coords.numbers e → IsAfterFlip e old s new t → IsAfterRound old s new t
best_round old new s t e above best h = record {
  state = h.state;
  lowers =
      let total : sum t.coords.numbers ≡ total_flipped (there old s) s.coords.numbers e = ap sum h.numbers in
      let low : total_flipped (there old s) s.coords.numbers e < sum s.coords.numbers = best.lowers in
      omega arith;
  reached = λ triples curve r. record {
    edges = r.edges ++ e ∷ [];
    along = h.along triples curve r.edges r.along;
    descent = λ more v after d.
        subst (λ (es : List ℕ). IsDescent triples curve.numbers es after v) (sym (append_assoc r.edges (e ∷ []) more))
        (r.descent (e ∷ more) v after
        (lowered (there old s) after s.coords.numbers v more e above best
        (from_flipped old new s t e more v after h d)));
  };
}

-- the first level edge was flipped, and then the best one
module _ (old mid new : Arena) (s u t : Short) (e f : ℕ) (above : sum s.coords.numbers ≢ 2)
    (level : IsFirstLevel (there old s) s.coords.numbers e) (h : IsAfterFlip e old s mid u)
    (best : IsBest (there mid u) u.coords.numbers f) (k : IsAfterFlip f mid u new t) where
  best_there : IsBest (flipped (there old s) (pos e)) (vector_flipped (there old s) s.coords.numbers e) f
  best_there =
      subst (λ (ts : List (List ℤ)). IsBest ts (vector_flipped (there old s) s.coords.numbers e) f) h.tri
      (subst (λ (w : List ℕ). IsBest (there mid u) w f) h.numbers best)

  from_both : (more v : List ℕ) (after : List (List ℤ)) → IsDescent (there new t) t.coords.numbers more after v
      → IsDescent (flipped (flipped (there old s) (pos e)) (pos f))
      (vector_flipped (flipped (there old s) (pos e)) (vector_flipped (there old s) s.coords.numbers e) f) more after v
  from_both more v after d =
      subst (λ (ts : List (List ℤ)). IsDescent (flipped ts (pos f))
      (vector_flipped ts (vector_flipped (there old s) s.coords.numbers e) f) more after v) h.tri
      (subst (λ (w : List ℕ). IsDescent (flipped (there mid u) (pos f)) (vector_flipped (there mid u) w f) more after v)
      h.numbers (from_flipped mid new u t f more v after k d))

  level_round : IsAfterRound old s new t
  level_round = record {
    state = k.state;
    lowers =
        let total : sum u.coords.numbers ≡ total_flipped (there old s) s.coords.numbers e = ap sum h.numbers in
        let same : total_flipped (there old s) s.coords.numbers e ≡ sum s.coords.numbers = level.level.keeps in
        let next : sum t.coords.numbers ≡ total_flipped (there mid u) u.coords.numbers f = ap sum k.numbers in
        let low : total_flipped (there mid u) u.coords.numbers f < sum u.coords.numbers = best.lowers in
        omega arith;
    reached = λ triples curve r. record {
      edges = (r.edges ++ e ∷ []) ++ f ∷ [];
      along = k.along triples curve (r.edges ++ e ∷ []) (h.along triples curve r.edges r.along);
      descent = λ more v after d.
          subst (λ (es : List ℕ). IsDescent triples curve.numbers es after v)
          (sym (append_assoc (r.edges ++ e ∷ []) (f ∷ []) more ∙ append_assoc r.edges (e ∷ []) (f ∷ more)))
          (r.descent (e ∷ (f ∷ more)) v after
          (kept (there old s) after s.coords.numbers v more e f above level best_there (from_both more v after d)));
    };
  }

pub after_level : (old mid new : Arena) (s u t : Short) (e : ℕ) (flips : Bool) → sum s.coords.numbers ≢ 2
    → IsFirstLevel (there old s) s.coords.numbers e → IsAfterFlip e old s mid u → IsAfterBest mid u new t flips
    → IsAfterLevel old s new t flips
after_level old mid new s u t e true above level h k =
    level_round old mid new s u t e k.0 above level h k.1 k.2
after_level old mid new s u t e false above level h k =
    elim (level.level.lowers
    (subst (λ (ts : List (List ℤ)). HasNoLower ts (vector_flipped (there old s) s.coords.numbers e)) h.tri
    (subst (λ (w : List ℕ). HasNoLower (there mid u) w) h.numbers k.0))) [ ]
