-- What holds of how often the labels of a list hit an edge.
use Rattle.std.specs.Prelude.{◌≡◌, ◌≢◌, ◌<◌, ◌≤◌, ◌+◌, ℕ, ℤ, pos, List, ◌∷◌, length, slice_index_or}
use Rattle.std.specs.Prelude.{All}
use Rattle.ideal_tri.specs.Labels.{edge_of}
use Rattle.ideal_tri.specs.Relabellings.{hits}

pub record HitLaws : Type 0 where
  pub hit : (x : ℤ) (xs : List ℤ) (e : ℕ) → edge_of x ≡ e → hits (x ∷ xs) e ≡ 1 + hits xs e
  pub missed : (x : ℤ) (xs : List ℤ) (e : ℕ) → edge_of x ≢ e → hits (x ∷ xs) e ≡ hits xs e
  -- an edge is hit exactly where some entry is of it
  pub at : (xs : List ℤ) (i e : ℕ) → i < length xs → edge_of (slice_index_or xs i (pos 0)) ≡ e
      → 1 ≤ hits xs e
  pub place : (xs : List ℤ) (e : ℕ) → 1 ≤ hits xs e
      → (i : ℕ) × (i < length xs) × (edge_of (slice_index_or xs i (pos 0)) ≡ e)
  -- and at most once exactly where at most one entry is
  pub one_place : (xs : List ℤ) (e i j : ℕ) → hits xs e ≤ 1 → i < length xs → j < length xs
      → edge_of (slice_index_or xs i (pos 0)) ≡ e → edge_of (slice_index_or xs j (pos 0)) ≡ e
      → i ≡ j
  pub at_most_once : (xs : List ℤ) (e : ℕ)
      → ((i j : ℕ) → i < length xs → j < length xs → edge_of (slice_index_or xs i (pos 0)) ≡ e
      → edge_of (slice_index_or xs j (pos 0)) ≡ e → i ≡ j)
      → hits xs e ≤ 1
  -- labels of n edges are n labels where they hit each edge once, and n labels hit each edge once
  -- where they hit none twice
  pub past : (xs : List ℤ) (n e : ℕ) → All (λ x. edge_of x < n) xs → n ≤ e → hits xs e ≡ 0
  pub as_many : (xs : List ℤ) (n : ℕ) → All (λ x. edge_of x < n) xs
      → ((e : ℕ) → e < n → hits xs e ≡ 1) → length xs ≡ n
  pub each_once : (xs : List ℤ) (n : ℕ) → All (λ x. edge_of x < n) xs → length xs ≡ n
      → ((e : ℕ) → hits xs e ≤ 1)
      → (e : ℕ) → e < n → hits xs e ≡ 1
