-- The tests of a list of images, one edge and one triangle after another, and what it is when all are passed.
use Rattle.std.proofs.Common.{ℕ, ℤ, List, [], ◌∷◌, ◌≡◌, ◌≤◌, ◌<◌, ◌+◌, inl, inr, sym, ◌∙◌, refl, ap, subst, arith}
use Rattle.std.proofs.Common.{length, take, get_or, map, slice_get, Some, All}
use Rattle.std.proofs.lemmas.Bool.{cases_lt}
use Rattle.std.proofs.lemmas.List.Elements.{All-more}
use Rattle.std.proofs.lemmas.Option.{get_or_from_slice_get}
use Rattle.ideal_tri.specs.HitLaws.{HitLaws}
use Rattle.ideal_tri.specs.Labels.{edge_of}
use Rattle.ideal_tri.specs.Triangulations.{IsTriangulation, IsLabel, next, previous}
use Rattle.ideal_tri.specs.TripleLaws.{TripleLaws}
use Rattle.ideal_tri.specs.Relabellings.{image_of, hits, IsBijection, IsTriangleOf, IsCarried}
use Rattle.relabel.specs.Refusals.{HitsNoneTwice}

-- ---- edges that are hit once at most

pub hits_below_more : (xs : List ℤ) (n : ℕ) → ((e : ℕ) → e < n → hits xs e ≤ 1) → hits xs n ≤ 1
    → (e : ℕ) → e < n + 1 → hits xs e ≤ 1
hits_below_more xs n before here e below =
    elim (cases_lt e n) [
      | inl l ↦ before e l
      | inr g ↦ subst (λ (d : ℕ). hits xs d ≤ 1) (omega arith) here
    ]

pub hits_everywhere : HitLaws → (xs : List ℤ) (n m : ℕ) → n ≤ m → All (λ x. edge_of x < n) xs
    → ((e : ℕ) → e < m → hits xs e ≤ 1) → (e : ℕ) → hits xs e ≤ 1
hits_everywhere laws xs n m long labels below e =
    elim (cases_lt e m) [
      | inl l ↦ below e l
      | inr g ↦ omega (arith, laws.past xs n e labels (omega arith))
    ]

pub bijection_from : HitLaws → (list : List ℤ) (n : ℕ) → length list ≡ n → All (λ x. edge_of x < n) list
    → HitsNoneTwice list
    → IsBijection list
bijection_from laws list n long labels once =
    let in_range : All (λ x. edge_of x < length list) list =
    subst (λ (m : ℕ). All (λ x. edge_of x < m) list) (sym long) labels in
    record { labels = in_range; once = laws.each_once list (length list) in_range refl once }

-- ---- the image of a triangle

-- the images x, y, z of the sides of the triangle t
pub record AreImages (images t : List ℤ) (x y z : ℤ) : Type 0 where
  pub listed : map (image_of images) t ≡ x ∷ (y ∷ (z ∷ []))

pub are_images : (images t : List ℤ) (c d e x y z : ℤ) → length t ≡ 3
    → x ≡ image_of images (get_or t 0 c) → y ≡ image_of images (get_or t 1 d) → z ≡ image_of images (get_or t 2 e)
    → AreImages images t x y z
are_images images [] c d e x y z h x_is y_is z_is = absurd (omega arith)
are_images images (p ∷ []) c d e x y z h x_is y_is z_is = absurd (omega arith)
are_images images (p ∷ (q ∷ [])) c d e x y z h x_is y_is z_is = absurd (omega arith)
are_images images (p ∷ (q ∷ (r ∷ []))) c d e x y z h x_is y_is z_is = record { listed = cc }
are_images images (p ∷ (q ∷ (r ∷ (s ∷ t)))) c d e x y z h x_is y_is z_is = absurd (omega arith)

-- three labels that follow each other are a triangle
pub carried_if_joined : TripleLaws → (to : List (List ℤ)) (images t : List ℤ) (x y z : ℤ) → IsTriangulation to
    → AreImages images t x y z → IsLabel to x → next to x ≡ y → next to y ≡ z → IsCarried to images t
carried_if_joined laws to images t x y z h are label xy yz =
    let third : previous to x ≡ z = ap (next to) xy ∙ yz in
    subst (IsTriangleOf to) (sym are.listed)
    (subst (λ (v : ℤ). IsTriangleOf to (x ∷ (y ∷ (v ∷ [])))) third
    (subst (λ (v : ℤ). IsTriangleOf to (x ∷ (v ∷ (previous to x ∷ [])))) xy (laws.at_label to x h label)))

pub joined_if_carried : TripleLaws → (to : List (List ℤ)) (images t : List ℤ) (x y z : ℤ) → IsTriangulation to
    → AreImages images t x y z → IsCarried to images t → (next to x ≡ y) × (next to y ≡ z)
joined_if_carried laws to images t x y z h are w =
    let (label, xy, yz) = laws.sides to x y z h (subst (IsTriangleOf to) are.listed w) in
    (xy, yz)

-- ---- one triangle after another

pub carried_more : (from to : List (List ℤ)) (images t : List ℤ) (k : ℕ) → k < length from → slice_get from k ≡ Some t
    → All (IsCarried to images) (take k from) → IsCarried to images t → All (IsCarried to images) (take (k + 1) from)
carried_more from to images t k below is before here =
    All-more (IsCarried to images) from k [] below before
    (subst (IsCarried to images) (sym (get_or_from_slice_get from k t [] is)) here)

pub broken_at : (from to : List (List ℤ)) (images t : List ℤ) (k : ℕ) → slice_get from k ≡ Some t
    → ¬ IsCarried to images t → ¬ IsCarried to images (get_or from k [])
broken_at from to images t k is not_here w =
    not_here (subst (IsCarried to images) (get_or_from_slice_get from k t [] is) w)
