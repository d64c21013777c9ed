-- What holds of labels.
use Rattle.std.specs.Prelude.{◌≡◌, ◌≢◌, ◌⊎◌, ◌<◌, ◌*◌, ℕ, ℤ, List, true, false}
use Rattle.std.specs.Ordering.{int_eq}
use Rattle.ideal_tri.specs.Labels.{inverse, edge_of, with_sign_of}
use Rattle.ideal_tri.specs.Triangulations.{IsLabel}
use Rattle.ideal_tri.specs.Vertices.{rank, label_of_rank}

-- the order of labels: each has its place, and the labels of n edges have the first 2 n places
pub record OrderLaws : Type 0 where
  pub rank_of : (k : ℕ) → rank (label_of_rank k) ≡ k
  pub label_of : (x : ℤ) → label_of_rank (rank x) ≡ x
  pub one : (x y : ℤ) → rank x ≡ rank y → x ≡ y
  pub rank_below : (x : ℤ) (n : ℕ) → edge_of x < n → rank x < 2 * n
  pub edge_below : (x : ℤ) (n : ℕ) → rank x < 2 * n → edge_of x < n

-- an edge has two labels, each the inverse of the other, and whether two labels are the same is
-- decided by their test
pub record LabelLaws : Type 0 where
  pub twice : (x : ℤ) → inverse (inverse x) ≡ x
  pub apart : (x : ℤ) → x ≢ inverse x
  pub edge : (x : ℤ) → edge_of (inverse x) ≡ edge_of x
  pub of_edge : (x y : ℤ) → edge_of x ≡ edge_of y → (x ≡ y) ⊎ (x ≡ inverse y)
  pub label : (triples : List (List ℤ)) (x : ℤ) → IsLabel triples x → IsLabel triples (inverse x)
  pub signed_edge : (x y : ℤ) → edge_of (with_sign_of x y) ≡ edge_of y
  pub signed_twice : (x y : ℤ) → with_sign_of x (with_sign_of x y) ≡ y
  pub same_or_not : (x y : ℤ) → (x ≡ y) ⊎ (x ≢ y)
  pub test_same : (x y : ℤ) → x ≡ y → int_eq x y ≡ true
  pub test_other : (x y : ℤ) → x ≢ y → int_eq x y ≡ false
  pub order : OrderLaws
