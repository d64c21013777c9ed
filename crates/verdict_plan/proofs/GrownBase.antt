-- The base of an atlas and the moves of a path stay what they are as the atlas grows.
use Rattle.std.proofs.Common.{ℤ, List, ◌≡◌, sym, subst}
use Rattle.tri_atlas.specs.Arena.{Arena, Grows, IsTriIn, triangulation}
use Rattle.tri_atlas.specs.AtlasLaws.{GrowthLaws}
use Rattle.tri_atlas.specs.Moves.{Move}
use Rattle.tri_atlas.specs.Paths.{MovePath, moves_of}
use Rattle.surface_lib.specs.Surfaces.{IsLoop}

module _ (laws : GrowthLaws) (old new : Arena) (path : MovePath) (grows : Grows old new) (base : IsTriIn old 0)
    (loop : IsLoop old path) where
  same_base : triangulation new 0 ≡ triangulation old 0
  same_base = laws.triangulation old new 0 grows base

  same_moves : moves_of new path ≡ moves_of old path
  same_moves = laws.moves old new path grows loop.within

  -- what holds of the base and the moves before holds of them after, and the other way round
  pub onward : (P : List (List ℤ) → List Move → Type 0) → P (triangulation old 0) (moves_of old path)
      → P (triangulation new 0) (moves_of new path)
  onward P h =
      subst (λ (ms : List Move). P (triangulation new 0) ms) (sym same_moves)
      (subst (λ (ts : List (List ℤ)). P ts (moves_of old path)) (sym same_base) h)

  pub backward : (P : List (List ℤ) → List Move → Type 0) → P (triangulation new 0) (moves_of new path)
      → P (triangulation old 0) (moves_of old path)
  backward P h =
      subst (λ (ts : List (List ℤ)). P ts (moves_of old path)) same_base
      (subst (λ (ms : List Move). P (triangulation new 0) ms) same_moves h)

  pub loop_on : IsLoop new path
  loop_on = record {
    within = laws.path_in old new path grows loop.within;
    start = loop.start;
    end = loop.end;
  }
