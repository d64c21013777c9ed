-- What the moves of a loop of an atlas are: a path from the base's triangulation to itself.
use Rattle.std.proofs.Common.{ℕ, subst}
use Rattle.ideal_tri.specs.Triangulations.{IsTriangulation}
use Rattle.tri_atlas.specs.Arena.{Arena, IsArena, triangulation}
use Rattle.tri_atlas.specs.AtlasLaws.{WayLaws}
use Rattle.tri_atlas.specs.Moves.{ArePath}
use Rattle.tri_atlas.specs.Paths.{MovePath, moves_of}
use Rattle.surface_lib.specs.Surfaces.{IsLoop}

pub sound_base : (arena : Arena) → IsArena arena → IsTriangulation (triangulation arena 0)
sound_base arena sound = sound.sound 0 sound.base

pub loop_path : WayLaws → (arena : Arena) (word : MovePath) → IsArena arena → IsLoop arena word
    → ArePath (triangulation arena 0) (moves_of arena word) (triangulation arena 0)
loop_path ways arena word sound loop =
    subst (λ (t : ℕ). ArePath (triangulation arena 0) (moves_of arena word) (triangulation arena t)) loop.end
    (subst (λ (s : ℕ). ArePath (triangulation arena s) (moves_of arena word) (triangulation arena word.end)) loop.start
    (ways.leads arena word sound loop.within))
