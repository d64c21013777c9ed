-- What `show` prints of a surface: a line for each fact, a word and its values.
use Rattle.std.specs.Prelude.{◌++◌, ℕ, List, [], ◌∷◌, length, map, codes, nat_lt}
use Rattle.std.specs.Prelude.{if◌then◌else◌}
use Rattle.std.specs.Fmt.{decimal}
use Rattle.std.specs.List.{flat_map}
use Rattle.ideal_tri.specs.Components.{component_count}
use Rattle.ideal_tri.specs.Triangulations.{edge_count}
use Rattle.ideal_tri.specs.Vertices.{genus, vertex_count}
use Rattle.surface_lib.specs.Described.{Described}

-- a word, each value with one space before it, and the end of the line
abbrev pub line : List ℕ → List (List ℕ) → List ℕ
line word values = word ++ flat_map (λ v. 32 ∷ v) values ++ 10 ∷ []

-- a line of one number
abbrev pub number_line : List ℕ → ℕ → List ℕ
number_line word n = line word (decimal n ∷ [])

-- the number of components, where there are several
abbrev pub components_line : ℕ → List ℕ
components_line count = if nat_lt 1 count then number_line (codes "components") count else []

abbrev pub show_lines : Described → List ℕ
show_lines s =
    line (codes "name") (s.name ∷ [])
    ++ number_line (codes "edges") (edge_count s.triangles)
    ++ number_line (codes "triangles") (length s.triangles)
    ++ number_line (codes "vertices") (vertex_count s.triangles)
    ++ number_line (codes "genus") (genus s.triangles)
    ++ line (codes "generators") (map (λ g. g.spelt) s.generators)
    ++ components_line (component_count s.triangles)
