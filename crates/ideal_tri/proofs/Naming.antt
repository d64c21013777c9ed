-- Names of the corners, the same all round each vertex; and how many marks are left to be set.
use Rattle.std.proofs.Common.{ℕ, suc, ℤ, Bool, true, false, not, cond, List, [], ◌∷◌, ◌≡◌, ◌<◌, ◌+◌, ◌⊎◌, inl, inr}
use Rattle.std.proofs.Common.{refl, sym, ◌∙◌, ap, arith, length, get_or, set}
use Rattle.std.proofs.lemmas.List.Sums.{sum_by-cons, sum_by-set}
use Rattle.ideal_tri.specs.Labels.{inverse}
use Rattle.ideal_tri.specs.Triangulations.{IsLabel, triangle_of, next, previous}
use Rattle.ideal_tri.specs.SurfaceLaws.{TriangleLaws}
use Rattle.ideal_tri.specs.Vertices.{corner_step}
use Rattle.ideal_tri.proofs.Labels.{inverse-inverse, inverse_label}
use Rattle.ideal_tri.proofs.Reaching.{unmarked}

-- ---- names of corners

-- corners of one vertex have one name
pub record IsVertexwise (ts : List (List ℤ)) (f : ℤ → ℤ) : Type 0 where
  pub turns : (x : ℤ) → IsLabel ts x → f (corner_step ts x) ≡ f x

-- the two ends of the side x have one name
abbrev pub IsJoined : List (List ℤ) → (ℤ → ℤ) → ℤ → Type 0
IsJoined ts f x = f x ≡ f (previous ts x)

-- the corner at the tail of a side lies at the vertex of the head of its inverse
pub tail_name : (ts : List (List ℤ)) → TriangleLaws ts → (f : ℤ → ℤ) → IsVertexwise ts f → (x : ℤ) → IsLabel ts x
    → f (inverse x) ≡ f (previous ts x)
tail_name ts h f v x l =
    ap (λ (z : ℤ). f (inverse z)) (sym (h.round x l)) ∙ v.turns (previous ts x) (h.label (next ts x) (h.label x l))

pub head_name : (ts : List (List ℤ)) → TriangleLaws ts → (f : ℤ → ℤ) → IsVertexwise ts f → (x : ℤ) → IsLabel ts x
    → f (previous ts (inverse x)) ≡ f x
head_name ts h f v x l = sym (tail_name ts h f v (inverse x) (inverse_label ts x l)) ∙ ap f (inverse-inverse x)

pub joined_inverse : (ts : List (List ℤ)) → TriangleLaws ts → (f : ℤ → ℤ) → IsVertexwise ts f → (x : ℤ) → IsLabel ts x
    → IsJoined ts f x → IsJoined ts f (inverse x)
joined_inverse ts h f v x l e = tail_name ts h f v x l ∙ sym e ∙ sym (head_name ts h f v x l)

-- two joined sides of a triangle join its three corners
pub three_corners : (ts : List (List ℤ)) → TriangleLaws ts → (f : ℤ → ℤ) (x : ℤ) → IsLabel ts x
    → IsJoined ts f (next ts x) → IsJoined ts f (previous ts x)
    → (u : ℤ) → IsLabel ts u → triangle_of ts u ≡ triangle_of ts x → f u ≡ f x
three_corners ts h f x l a b u m e = go (h.sides x u l m e)
  where
    after : f (next ts x) ≡ f x
    after = a ∙ ap f (h.round x l)

    go : (u ≡ x) ⊎ ((u ≡ next ts x) ⊎ (u ≡ previous ts x)) → f u ≡ f x
    go (inl d) = ap f d
    go (inr (inl d)) = ap f d ∙ after
    go (inr (inr d)) = ap f d ∙ b ∙ ap (λ (z : ℤ). f (next ts z)) (h.round x l) ∙ after

-- ---- marks

pub mark_one : (marks : List Bool) (k : ℕ) → k < length marks → get_or marks k false ≡ false
    → unmarked (set marks k true) + 1 ≡ unmarked marks
mark_one marks k b m =
    let moved : unmarked (set marks k true) + cond (not (get_or marks k false)) 1 0
    ≡ unmarked marks + cond (not true) 1 0 =
    sum_by-set (λ v. cond (not v) 1 0) marks k true false b in
    let one : ◌≡◌ {A = ℕ} (cond (not (get_or marks k false)) 1 0) 1 = ap (λ (v : Bool). cond (not v) 1 0) m in
    omega arith

pub none_unmarked : (marks : List Bool) → ((k : ℕ) → k < length marks → get_or marks k false ≡ true)
    → unmarked marks ≡ 0
none_unmarked [] h = refl
none_unmarked (m ∷ marks) h =
    let here : m ≡ true = h 0 (omega arith) in
    let later : unmarked marks ≡ 0 = none_unmarked marks (λ k b. h (suc k) (omega arith)) in
    let zero_here : ◌≡◌ {A = ℕ} (cond (not m) 1 0) 0 = ap (λ (v : Bool). cond (not v) 1 0) here in
    sum_by-cons (λ v. cond (not v) 1 0) m marks ∙ omega arith
