-- Maps of walks from one triangulation to another: a reduced walk for each label, and where each
-- triangle goes.
use Rattle.std.specs.Prelude.{◌≡◌, ◌<◌, ℕ, ℤ, pos, negsuc, List, [], ◌∷◌, length, map, slice_index}
use Rattle.std.specs.Prelude.{slice_index_or, All}
use Rattle.std.specs.List.{flat_map, range_with_len}
use Rattle.ideal_tri.specs.Words.{inverse_word, IsReduced, reduce}
use Rattle.ideal_tri.specs.Triangulations.{edge_count, triangle_of}
use Rattle.tri_atlas.specs.Moves.{triangle_image}
use Rattle.tri_atlas.specs.Maps.{IsMap, image_of_letter, letters_below}
use Rattle.tri_atlas.specs.Arena.{Arena, MoveHandle, IsTriIn, triangulation, source_of, target_of}
use Rattle.tri_atlas.specs.Arena.{step_of}
use Rattle.free_groupoid.specs.Walks.{DualWalk}

-- the numbers of the triangulations where it starts and ends, the images of the labels 0, 1, ..,
-- and those of the triangles
pub record GroupoidMap : Type 0 where
  pub source : ℕ
  pub target : ℕ
  pub images : List (List ℤ)
  pub triangles : List ℕ

-- the word in the place of a letter, where those of the labels 0, 1, .. are listed: inverse letters
-- get inverse words
abbrev pub substitution : List (List ℤ) → ℤ → List ℤ
substitution images (pos n) = slice_index_or images n []
substitution images (negsuc n) = inverse_word (slice_index_or images n [])

-- where the triangle with this number goes
abbrev pub vertex_image : GroupoidMap → ℕ → ℕ
vertex_image f t = slice_index f.triangles t

-- a word under a substitution, reduced
abbrev pub reduced_image : (ℤ → List ℤ) → List ℤ → List ℤ
reduced_image f w = reduce (flat_map f w)

-- how many letters the images of the labels 0, 1, .. have together
abbrev pub letters_in : List (List ℤ) → ℕ
letters_in images = letters_below (length images) (substitution images)

-- a map of reduced walks between two triangulations of the arena
pub record IsMapIn (arena : Arena) (f : GroupoidMap) : Type 0 where
  pub source_in : IsTriIn arena f.source
  pub target_in : IsTriIn arena f.target
  pub one_per_edge : length f.images ≡ edge_count (triangulation arena f.source)
  pub one_per_triangle : length f.triangles ≡ length (triangulation arena f.source)
  pub reduced : All IsReduced f.images
  pub maps : IsMap (triangulation arena f.source) (triangulation arena f.target) (substitution
      f.images) (vertex_image f)

-- ---- the maps that the calls make

-- each letter and each triangle stays
abbrev pub identity_map : Arena → ℕ → GroupoidMap
identity_map arena t = record {
  source = t;
  target = t;
  images = map (λ n. pos n ∷ []) (range_with_len 0 (edge_count (triangulation arena t)));
  triangles = range_with_len 0 (length (triangulation arena t));
}

-- the map, and then that of a move
abbrev pub followed : Arena → GroupoidMap → MoveHandle → GroupoidMap
followed arena f m = record {
  source = f.source;
  target = target_of arena m;
  images = map (reduced_image (image_of_letter (step_of arena m))) f.images;
  triangles = map (triangle_image (triangulation arena (source_of arena m)) (triangulation arena
      (target_of arena m)) (step_of arena m)) f.triangles;
}

-- the map, and then those of the moves, one after another
abbrev pub followed_along : Arena → GroupoidMap → List MoveHandle → GroupoidMap
followed_along arena f [] = f
followed_along arena f (m ∷ moves) = followed_along arena (followed arena f m) moves

-- the one map, and then the other
abbrev pub composed : GroupoidMap → GroupoidMap → GroupoidMap
composed f g = record {
  source = f.source;
  target = g.target;
  images = map (reduced_image (substitution g.images)) f.images;
  triangles = map (vertex_image g) f.triangles;
}

-- the image of a walk, reduced
abbrev pub image_walk : GroupoidMap → DualWalk → DualWalk
image_walk f w = record {
  start = vertex_image f w.start;
  letters = reduced_image (substitution
      f.images) w.letters;
}

-- ---- maps given by walks

-- the map that sends the labels 0, 1, .. along these walks, and the triangles there
abbrev pub map_of_walks : ℕ → ℕ → List DualWalk → List ℕ → GroupoidMap
map_of_walks source target walks triangles = record {
  source = source;
  target = target;
  images = map (λ w. w.letters) walks;
  triangles = triangles;
}

-- the walks make a map with these images of the triangles: each starts at the image of the triangle
-- of its label
pub record AreImages (arena : Arena) (source target : ℕ) (walks : List DualWalk) (triangles : List
    ℕ) : Type 0 where
  pub maps : IsMapIn arena (map_of_walks source target walks triangles)
  pub starts : (n : ℕ) → n < length walks
      → slice_index (map (λ w. w.start) walks) n
      ≡ slice_index triangles (triangle_of (triangulation arena source) (pos n))
