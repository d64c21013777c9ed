-- How often lists of passes pass a branch: in joined lists, in lists turned round, and in rotations.
use Rattle.std.proofs.Common.{ℕ, List, [], ◌∷◌, ◌++◌, ◌≡◌, ◌+◌, refl, ◌∙◌, ap, arith, cond, map, nat_eq, count_by}
use Rattle.std.proofs.lemmas.List.{map-append, reverse-append}
use Rattle.std.proofs.lemmas.List.Sums.{sum_by-append, sum_by-cons}
use Rattle.ideal_tri.specs.Words.{IsRotation}
use Rattle.train_track.specs.Passes.{Pass}
use Rattle.carry_map.specs.Iterates.{passed}
use Rattle.carry_map.proofs.PassFacts.{turned_pass, turned_passes}

pub passed-append : (first second : List Pass) (i : ℕ)
    → passed (first ++ second) i ≡ passed first i + passed second i
passed-append first second i =
    ap (count_by (nat_eq i)) (map-append (λ (p : Pass). p.branch) first second)
    ∙ sum_by-append (λ (j : ℕ). cond (nat_eq i j) 1 0) (map (λ (p : Pass). p.branch) first)
    (map (λ (p : Pass). p.branch) second)

pub passed-cons : (p : Pass) (passes : List Pass) (i : ℕ)
    → passed (p ∷ passes) i ≡ cond (nat_eq i p.branch) 1 0 + passed passes i
passed-cons p passes i =
    sum_by-cons (λ (j : ℕ). cond (nat_eq i j) 1 0) p.branch (map (λ (p : Pass). p.branch) passes)

pub passed-turned : (passes : List Pass) (i : ℕ) → passed (turned_passes passes) i ≡ passed passes i
passed-turned [] i = refl
passed-turned (p ∷ passes) i =
    let split : turned_passes (p ∷ passes) ≡ turned_passes passes ++ (turned_pass p ∷ []) =
    reverse-append (turned_pass p ∷ []) (map turned_pass passes) in
    let sum : passed (turned_passes (p ∷ passes)) i
    ≡ passed (turned_passes passes) i + passed (turned_pass p ∷ []) i =
    ap (λ (z : List Pass). passed z i) split ∙ passed-append (turned_passes passes) (turned_pass p ∷ []) i in
    let one : passed (turned_pass p ∷ []) i ≡ cond (nat_eq i p.branch) 1 0 + 0 = passed-cons (turned_pass p) [] i in
    let before : passed (turned_passes passes) i ≡ passed passes i = passed-turned passes i in
    let whole : passed (p ∷ passes) i ≡ cond (nat_eq i p.branch) 1 0 + passed passes i = passed-cons p passes i in
    omega arith

pub passed-rotation : (passes others : List Pass) (i : ℕ) → IsRotation passes others
    → passed passes i ≡ passed others i
passed-rotation passes others i (a, b, e, f) =
    let on : passed passes i ≡ passed a i + passed b i =
    ap (λ (ps : List Pass). passed ps i) e ∙ passed-append a b i in
    let back : passed others i ≡ passed b i + passed a i =
    ap (λ (ps : List Pass). passed ps i) f ∙ passed-append b a i in
    omega arith
