-- Lists of words in the place of letters, as the private parts of maps have them.
use Rattle.std.specs.Prelude.{◌≡◌, ◌<◌, ◌⊎◌, ℕ, ℤ, pos, negsuc, List, Vec, length, map, slice_index, All}
use Rattle.std.specs.Global.{Global}
use Rattle.ideal_tri.specs.Labels.{edge_of}
use Rattle.ideal_tri.specs.Triangulations.{IsWalk, edge_count, triangle_of}
use Rattle.free_groupoid.specs.Walks.{DualWalk, walk_at}

-- the words that the vectors hold
abbrev pub words_of : List (Vec ℤ Global) → List (List ℤ)
words_of vectors = map (λ v. v.items) vectors

-- each letter is of one of the first n edges
abbrev pub IsBelow : ℕ → List ℤ → Type 0
IsBelow n w = All (λ x. edge_of x < n) w

-- the letter is of the edge of one of the sides b and d
abbrev pub IsOnSide : ℤ → ℤ → ℤ → Type 0
IsOnSide b d x = (edge_of x ≡ edge_of b) ⊎ (edge_of x ≡ edge_of d)

-- the walks of the labels 0, 1, .. lead from the image of each one's triangle to that of the
-- triangle of its inverse
pub record JoinImages (before after : List (List ℤ)) (walks : List DualWalk) (triangles : List ℕ) :
    Type 0 where
  pub one_per_edge : length walks ≡ edge_count before
  pub one_per_triangle : length triangles ≡ length before
  pub starts : (n : ℕ) → n < length walks
      → (walk_at walks n).start ≡ slice_index triangles (triangle_of before (pos n))
  pub leads : (n : ℕ) → n < length walks
      → IsWalk after (walk_at walks n).start (walk_at walks n).letters (slice_index triangles
      (triangle_of before (negsuc n)))
