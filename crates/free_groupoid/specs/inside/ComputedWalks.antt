-- The walks that are computed for a map, from each root and from each triangle.
use Rattle.std.specs.Prelude.{ℕ, ℤ, List, [], nat_eq, if◌then◌else◌}
use Rattle.free_groupoid.specs.Walks.{DualWalk}
use Rattle.free_groupoid.specs.GroupoidMaps.{GroupoidMap, substitution, vertex_image}
use Rattle.free_groupoid.specs.TestWalks.{root_of}
use Rattle.free_groupoid.specs.inside.InnerPaths.{root_path, inner_path}

-- for a root its walk, and for another triangle no letters
abbrev pub root_word : List (List ℤ) → GroupoidMap → ℕ → List ℤ
root_word triples f t =
    if nat_eq (root_of triples t) t then root_path triples (substitution f.images) (vertex_image f)
    t else []

-- the walk from a triangle
abbrev pub path_from : List (List ℤ) → GroupoidMap → ℕ → DualWalk
path_from triples f t = record {
  start = t;
  letters = inner_path triples (substitution f.images) (vertex_image f) t;
}
