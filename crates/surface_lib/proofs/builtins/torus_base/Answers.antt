use Rattle.std.proofs.Common.{pos, [], ◌∷◌, refl}
use Rattle.surface_lib.specs.BuiltinSurfaces.{once_punctured_torus}
use Rattle.surface_lib.proofs.TestedBases.{no_refusal}
use Rattle.surface_lib.proofs.builtins.torus_base.Goals as goal

pub unreachable-requires : goal.unreachable-requires
unreachable-requires c = no_refusal once_punctured_torus.triangles (pos 0 ∷ []) refl _ c.in-Err.ensures.refused
