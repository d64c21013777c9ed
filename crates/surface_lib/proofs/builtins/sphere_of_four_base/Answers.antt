use Rattle.std.proofs.Common.{pos, negsuc, [], ◌∷◌, refl}
use Rattle.surface_lib.specs.BuiltinSurfaces.{four_punctured_sphere}
use Rattle.surface_lib.proofs.TestedBases.{no_refusal}
use Rattle.surface_lib.proofs.builtins.sphere_of_four_base.Goals as goal

pub unreachable-requires : goal.unreachable-requires
unreachable-requires c = no_refusal four_punctured_sphere.triangles (pos 0 ∷ negsuc 1 ∷ pos 3 ∷ []) refl _ c.in-Err.ensures.refused
