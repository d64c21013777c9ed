use Rattle.std.proofs.Common.{pos, [], ◌∷◌, refl}
use Rattle.surface_lib.specs.BuiltinSurfaces.{three_punctured_sphere}
use Rattle.surface_lib.proofs.TestedBases.{no_refusal}
use Rattle.surface_lib.proofs.builtins.sphere_of_three_base.Goals as goal

pub unreachable-requires : goal.unreachable-requires
unreachable-requires c = no_refusal three_punctured_sphere.triangles (pos 0 ∷ []) refl _ c.in-Err.ensures.refused
