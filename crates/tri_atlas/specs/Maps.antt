-- The maps of moves and paths on walks, as substitutions, and the images of curves.
use Rattle.std.specs.Prelude.{◌≡◌, ◌<◌, ◌+◌, ℕ, zero, suc, ℤ, pos, List, [], ◌∷◌, ◌++◌, length, map}
use Rattle.std.specs.Prelude.{slice_index, if◌then◌else◌}
use Rattle.std.specs.List.{flat_map}
use Rattle.std.specs.Ordering.{int_eq}
use Rattle.ideal_tri.specs.Labels.{inverse}
use Rattle.ideal_tri.specs.Words.{inverse_word, reduce, cyclic_reduce}
use Rattle.ideal_tri.specs.Vectors.{IsMulticurve}
use Rattle.ideal_tri.specs.Curves.{IsSameCurves, crossings}
use Rattle.ideal_tri.specs.Strands.{State, IsDrawing, words_of}
use Rattle.ideal_tri.specs.Triangulations.{IsLabel, IsWalk, edge_count, triangle_of}
use Rattle.ideal_tri.specs.Relabellings.{image_of}
use Rattle.tri_atlas.specs.Moves.{Move, flip, unflip, relabel}

-- a substitution puts a word in the place of each letter; it is odd where inverse letters get
-- inverse words
abbrev pub IsOdd : (ℤ → List ℤ) → Type 0
IsOdd f = (x : ℤ) → f (inverse x) ≡ inverse_word (f x)

-- each letter stays
abbrev pub identity : ℤ → List ℤ
identity x = x ∷ []

-- first f, then g, reduced
abbrev pub after : (ℤ → List ℤ) → (ℤ → List ℤ) → ℤ → List ℤ
after g f x = reduce (flat_map g (f x))

-- what a flip puts before a letter: e before b, and the inverse of e before d
abbrev pub step_before : ℤ → ℤ → ℤ → ℤ → List ℤ
step_before e b d x = if int_eq x b then e ∷ [] else if int_eq x d then inverse e ∷ [] else []

-- the image of a letter under a flip with these sides b and d: the homotopy of the quadrilateral
abbrev pub flip_image : ℤ → ℤ → ℤ → ℤ → List ℤ
flip_image e b d x = step_before e b d x ++ (x ∷ inverse_word (step_before e b d (inverse x)))

-- the image of a letter under a move; the backward flip has the same with e and its inverse
-- exchanged
abbrev pub image_of_letter : Move → ℤ → List ℤ
image_of_letter (flip e a b c d) x = flip_image e b d x
image_of_letter (unflip e a b c d) x = flip_image (inverse e) b d x
image_of_letter (relabel images) x = image_of images x ∷ []

-- the maps of the moves, one after another, behind a first map; each image is reduced after each
-- move
abbrev pub map_behind : (ℤ → List ℤ) → List Move → ℤ → List ℤ
map_behind f [] = f
map_behind f (m ∷ moves) = map_behind (after (image_of_letter m) f) moves

-- the map of a path
abbrev pub path_map : List Move → ℤ → List ℤ
path_map moves = map_behind identity moves

-- a map of walks from one triangulation to another: a substitution, and where each triangle goes
pub record IsMap (source target : List (List ℤ)) (f : ℤ → List ℤ) (triangles : ℕ → ℕ) : Type 0 where
  pub odd : IsOdd f
  pub within : (t : ℕ) → t < length source → triangles t < length target
  pub walks : (x : ℤ) → IsLabel source x
      → IsWalk target (triangles (triangle_of source x)) (f x)
      (triangles (triangle_of source (inverse x)))

-- how many letters the images of the labels 0, 1, .. below n have together
abbrev pub letters_below : ℕ → (ℤ → List ℤ) → ℕ
letters_below zero f = 0
letters_below (suc n) f = letters_below n f + length (f (pos n))

-- how many letters a map of a triangulation has: those of the images of 0 to n - 1, with n edges
abbrev pub letters_of : List (List ℤ) → (ℤ → List ℤ) → ℕ
letters_of triples f = letters_below (edge_count triples) f

-- ---- curves

-- closed words under a map, each cyclically reduced
abbrev pub images_under : (ℤ → List ℤ) → List (List ℤ) → List (List ℤ)
images_under f words = map (λ w. cyclic_reduce (flat_map f w)) words

-- v is the image of the multicurve w under a map to a triangulation with as many edges: it counts
-- the crossings of the images of the curves of w, however they are drawn
pub record IsImageVector (triples : List (List ℤ)) (w : List ℕ) (f : ℤ → List ℤ) (v : List ℕ)
    : Type 0 where
  pub multicurve : IsMulticurve triples w
  pub one_per_edge : length v ≡ edge_count triples
  pub counts : (runs : List (List State)) → IsDrawing triples w runs
      → (e : ℕ) → e < edge_count triples
      → slice_index v e ≡ crossings e (images_under f (words_of runs))

-- the map carries the curves to themselves, up to order, rotation and direction
abbrev pub IsFixed : (ℤ → List ℤ) → List (List ℤ) → Type 0
IsFixed f words = IsSameCurves (images_under f words) words
