-- The surfaces that are built in. The label -1 - n is written `negsuc n`.
use Rattle.std.specs.Prelude.{◌≡◌, ℕ, pos, negsuc, List, [], ◌∷◌, codes, Option, Some}
use Rattle.std.specs.Prelude.{None, is_some, true}
use Rattle.std.specs.Prelude.{if◌then◌else◌}
use Rattle.std.specs.Str.{bytes_eq}
use Rattle.tri_atlas.specs.Moves.{flip, relabel}
use Rattle.surface_lib.specs.Described.{Described}
use Rattle.surface_lib.specs.declared.builtins.BuiltinError.{BuiltinError}
use Rattle.surface_lib.specs.declared.builtins.BuiltinError.TheVariants.{UnknownBuiltin, Memory}

-- the once-punctured torus; each generator flips edge 0, with the sides (0,1,2) and (-1,-2,-3)
-- before it, and relabels
abbrev pub once_punctured_torus : Described
once_punctured_torus = record {
  name = codes "S_1_1";
  triangles = (pos 0 ∷ pos 1 ∷ pos 2 ∷ []) ∷ (negsuc 0 ∷ negsuc 1 ∷ negsuc 2 ∷ []) ∷ [];
  generators =
      record {
        spelt = codes "a";
        moves = flip (pos 0) (pos 1) (pos 2) (negsuc 1) (negsuc 2)
            ∷ relabel (pos 2 ∷ pos 1 ∷ negsuc 0 ∷ []) ∷ [];
      }
      ∷ record {
        spelt = codes "b";
        moves = flip (pos 0) (pos 1) (pos 2) (negsuc 1) (negsuc 2)
            ∷ relabel (negsuc 1 ∷ negsuc 0 ∷ pos 2 ∷ []) ∷ [];
      }
      ∷ [];
}

-- the three-punctured sphere, and its rotation
abbrev pub three_punctured_sphere : Described
three_punctured_sphere = record {
  name = codes "S_0_3";
  triangles = (pos 0 ∷ pos 1 ∷ pos 2 ∷ []) ∷ (negsuc 0 ∷ negsuc 2 ∷ negsuc 1 ∷ []) ∷ [];
  generators =
      record { spelt = codes "r"; moves = relabel (pos 1 ∷ pos 2 ∷ pos 0 ∷ []) ∷ [] } ∷ [];
}

-- the four-punctured sphere, a tetrahedron, and its rotation about a vertex
abbrev pub four_punctured_sphere : Described
four_punctured_sphere = record {
  name = codes "S_0_4";
  triangles =
      (pos 0 ∷ pos 3 ∷ negsuc 1 ∷ []) ∷ (pos 2 ∷ negsuc 4 ∷ negsuc 0 ∷ [])
      ∷ (pos 1 ∷ pos 5 ∷ negsuc 2 ∷ []) ∷ (pos 4 ∷ negsuc 5 ∷ negsuc 3 ∷ []) ∷ [];
  generators =
      record {
        spelt = codes "r";
        moves = relabel (pos 1 ∷ pos 2 ∷ pos 0 ∷ pos 5 ∷ negsuc 3 ∷ negsuc 4 ∷ []) ∷ [];
      }
      ∷ [];
}

-- the surface with this name
abbrev pub builtin_named : List ℕ → Option Described
builtin_named name =
    if bytes_eq name (codes "S_1_1") then Some once_punctured_torus
    else if bytes_eq name (codes "S_0_3") then Some three_punctured_sphere
    else if bytes_eq name (codes "S_0_4") then Some four_punctured_sphere else None

-- no surface has the name; or one has it, and memory is wanting
abbrev pub IsRefusedBuiltin : List ℕ → BuiltinError → Type 0
IsRefusedBuiltin name UnknownBuiltin = builtin_named name ≡ None
IsRefusedBuiltin name Memory = is_some (builtin_named name) ≡ true
