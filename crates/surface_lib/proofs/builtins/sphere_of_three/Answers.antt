use Rattle.std.proofs.Common.{pos, [], ◌∷◌, refl}
use Rattle.surface_lib.specs.BuiltinSurfaces.{three_punctured_sphere}
use Rattle.surface_lib.specs.Described.{described}
use Rattle.surface_lib.proofs.MadeSurfaces.{start, started, closed, none}
use Rattle.surface_lib.proofs.builtins.sphere_of_three.Goals as goal

pub insert-requires-clause-closed : goal.insert-requires-clause-closed
insert-requires-clause-closed c =
    let begun = started three_punctured_sphere (described c.in_ok-s.s) _ c.in_ok-s.ensures.holds c.sphere_of_three_base.ensures in
    closed (start three_punctured_sphere) (described c.in_ok-s.s) [] (pos 1 ∷ pos 2 ∷ pos 0 ∷ []) (none three_punctured_sphere.triangles)
    begun refl refl

pub returns-clause-holds : goal.returns-clause-holds
returns-clause-holds c =
    let begun = started three_punctured_sphere (described c.in_ok-s.s) _ c.in_ok-s.ensures.holds c.sphere_of_three_base.ensures in
    c.in_ok-insert.ensures.behind (start three_punctured_sphere) (none three_punctured_sphere.triangles) begun refl
