-- Letters that are read one after another: whether one stands beside its inverse; and the walks of a certificate.
use Rattle.std.proofs.Common.{ℕ, ℤ, List, [], ◌∷◌, ◌++◌, ◌≡◌, ◌≢◌, ◌+◌, ◌-◌, ◌<◌, ◌≤◌, ◌↔◌, sym, ◌∙◌, ap, subst}
use Rattle.std.proofs.Common.{arith, length, get_or, drop}
use Rattle.std.proofs.lemmas.List.{drop_more, drop_all, get_or-map, length-map}
use Rattle.std.specs.Prelude.{Vec}
use Rattle.std.specs.Global.{Global}
use Rattle.ideal_tri.specs.Labels.{inverse}
use Rattle.ideal_tri.specs.Words.{IsReduced, IsCyclicallyReduced, last_of}
use Rattle.ideal_tri.specs.WordLaws.{LetterLaws}
use Rattle.ideal_tri.specs.Triangulations.{IsWalk, triangle_of}
use Rattle.free_groupoid.specs.InnerLaws.{IsReducedLoop}
use Rattle.cert_text.specs.Certificates.{walks_of}

-- the letters from the i-th on, which is x
from_there : (w : List ℤ) (i : ℕ) (x d : ℤ) → i < length w → x ≡ get_or w i d → drop i w ≡ x ∷ drop (i + 1) w
from_there w i x d inside is_x = drop_more w i d inside ∙ ap (λ (z : ℤ). z ∷ drop (i + 1) w) (sym is_x)

-- ---- neighbours: P says the same as that the letters from the i-th on are reduced behind the last one

module _ (P : Type 0) (last : ℤ) (w : List ℤ) (i : ℕ) (so_far : P ↔ IsReduced (last ∷ drop i w)) where
  module _ (x d : ℤ) (inside : i < length w) (is_x : x ≡ get_or w i d) where
    behind : P → (x ≢ inverse last) × IsReduced (x ∷ drop (i + 1) w)
    behind p = subst (λ (u : List ℤ). IsReduced (last ∷ u)) (from_there w i x d inside is_x) (so_far.0 p)

    pub reduced_step : x ≢ inverse last → P ↔ IsReduced (x ∷ drop (i + 1) w)
    reduced_step apart = (
      λ p. (behind p).1,
      λ rest. so_far.1
          (subst (λ (u : List ℤ). IsReduced (last ∷ u)) (sym (from_there w i x d inside is_x)) (apart, rest)),
    )

    pub reduced_stops : x ≡ inverse last → ¬ P
    reduced_stops beside p = (behind p).0 beside

  pub reduced_ends : length w ≤ i → P
  reduced_ends all = so_far.1 (subst (λ (u : List ℤ). IsReduced (last ∷ u)) (sym (drop_all i w all)) tt)

-- ---- read round and round: behind the last letter, or with the first letter once more

one_more : (x : ℤ) (w : List ℤ) (y : ℤ) → y ≢ inverse (last_of x w) → IsReduced (x ∷ w)
    → IsReduced (x ∷ (w ++ (y ∷ [])))
one_more x [] y apart reduced = (apart, tt)
one_more x (z ∷ w) y apart reduced = (reduced.0, one_more z w y apart reduced.1)

one_less : (x : ℤ) (w : List ℤ) (y : ℤ) → IsReduced (x ∷ (w ++ (y ∷ [])))
    → (y ≢ inverse (last_of x w)) × IsReduced (x ∷ w)
one_less x [] y reduced = (reduced.0, tt)
one_less x (z ∷ w) y reduced = let (apart, rest) = one_less z w y reduced.1 in (apart, (reduced.0, rest))

pub round_and_round : LetterLaws → (w : List ℤ) (z : ℤ) → 0 < length w → z ≡ get_or w (length w - 1) z
    → IsReduced (z ∷ w) ↔ IsCyclicallyReduced w
round_and_round letters [] z some is_z = absurd (omega arith)
round_and_round letters (x ∷ w) z some is_z =
    let last : z ≡ last_of x w = letters.last x w z is_z in (
      λ reduced. one_more x w x (subst (λ (y : ℤ). x ≢ inverse y) last reduced.0) reduced.1,
      λ closed. let (apart, reduced) = one_less x w x closed in
          (subst (λ (y : ℤ). x ≢ inverse y) (sym last) apart, reduced),
    )

-- ---- closed walks, from the triangle of the first letter

module _ (triples : List (List ℤ)) where
  pub loop_walk : (w : List ℤ) (x d : ℤ) → x ≡ get_or w 0 d → IsReducedLoop triples w
      → IsWalk triples (triangle_of triples x) w (triangle_of triples x)
  loop_walk [] x d is_x loop = absurd loop
  loop_walk (y ∷ w) x d is_x loop =
      subst (λ (z : ℤ). IsWalk triples (triangle_of triples z) (y ∷ w) (triangle_of triples z)) (sym is_x) loop.0

-- ---- the walks of a certificate, by their numbers

pub walk_count : (walks : List (Vec ℤ Global)) → length (walks_of walks) ≡ length walks
walk_count walks = length-map walks (λ (v : Vec ℤ Global). v.items)

pub walk_read : (walks : List (Vec ℤ Global)) (i : ℕ) (walk : Vec ℤ Global) → i < length walks
    → walk ≡ get_or walks i walk → walk.items ≡ get_or (walks_of walks) i []
walk_read walks i walk inside is_walk =
    let items : Vec ℤ Global → List ℤ = λ v. v.items in
    ap items is_walk ∙ sym (get_or-map items walks i walk [] inside)
