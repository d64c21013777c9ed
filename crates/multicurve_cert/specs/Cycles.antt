-- The short cycles of the dual graph of a triangulation, each once, in order.
use Rattle.std.specs.Prelude.{◌≡◌, ◌≢◌, ◌⊎◌, ◌<◌, ◌≤◌, ◌+◌, ℕ, ℤ, pos, List, [], ◌∷◌, length, map}
use Rattle.std.specs.Prelude.{slice_index_or}
use Rattle.std.specs.List.{All, Contains, range_with_len}
use Rattle.ideal_tri.specs.Curves.{IsSameCurve, crossings}
use Rattle.ideal_tri.specs.Triangulations.{edge_count, triangle_of}
use Rattle.ideal_tri.specs.Vertices.{rank}
use Rattle.free_groupoid.specs.InnerLaws.{IsReducedLoop}
use Rattle.free_groupoid.specs.Walks.{DualWalk, walk_of_letters}

-- ---- the order of words

-- the letters in the order 0, ~0, 1, ~1, .., the first letter that differs decides
abbrev pub IsWordBefore : List ℤ → List ℤ → Type 0
IsWordBefore [] [] = ⊥
IsWordBefore [] (y ∷ w) = Unit {0}
IsWordBefore (x ∷ v) [] = ⊥
IsWordBefore (x ∷ v) (y ∷ w) = (rank x < rank y) ⊎ ((x ≡ y) × IsWordBefore v w)

-- shorter words first
abbrev pub IsBefore : List ℤ → List ℤ → Type 0
IsBefore v w =
    (length v < length w) ⊎ ((length v ≡ length w) × IsWordBefore v w)

-- ---- cycles

-- the most letters of a cycle
abbrev pub letter_limit : ℕ
letter_limit = 8

-- the letter at a place
abbrev pub letter_at : List ℤ → ℕ → ℤ
letter_at w i = slice_index_or w i (pos 0)

-- a closed walk with nothing to reduce, of one to eight letters, that visits no triangle twice; of
-- all words that run along the same curve it is the least
pub record IsCycle (triples : List (List ℤ)) (w : List ℤ) : Type 0 where
  pub loop : IsReducedLoop triples w
  pub short : length w ≤ letter_limit
  pub once : (i j : ℕ) → i < j → j < length w
      → triangle_of triples (letter_at w i) ≢ triangle_of triples (letter_at w j)
  pub least : (v : List ℤ) → IsSameCurve w v → (w ≡ v) ⊎ IsBefore w v

-- these are all cycles, each once, shorter ones first, those of a length in the order of words
pub record AreCycles (triples : List (List ℤ)) (words : List (List ℤ)) : Type 0 where
  pub each : All (IsCycle triples) words
  pub all : (w : List ℤ) → IsCycle triples w → Contains words w
  pub rising : (i : ℕ) → i + 1 < length words
      → IsBefore (slice_index_or words i []) (slice_index_or words (i + 1) [])

-- these walks are all cycles, each from the triangle of its first letter
abbrev pub AreCycleWalks : List (List ℤ) → List (List ℤ) → List DualWalk → Type 0
AreCycleWalks triples words walks =
    AreCycles triples words × (walks ≡ map (walk_of_letters triples) words)

-- how often a cycle crosses each edge
abbrev pub cycle_vector : List (List ℤ) → List ℤ → List ℕ
cycle_vector triples w =
    map (λ e. crossings e (w ∷ [])) (range_with_len 0 (edge_count triples))
