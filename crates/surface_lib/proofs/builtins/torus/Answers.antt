use Rattle.std.proofs.Common.{pos, negsuc, [], ◌∷◌, ◌++◌, ap, codes, refl}
use Rattle.tri_atlas.specs.Moves.{relabel}
use Rattle.surface_lib.specs.BuiltinSurfaces.{once_punctured_torus}
use Rattle.surface_lib.specs.Described.{Described, described}
use Rattle.surface_lib.specs.GeneratorFiles.{is_taken}
use Rattle.surface_lib.specs.inside.ClosedForms.{with_generator}
use Rattle.surface_lib.proofs.MadeSurfaces.{start, started, closed, torus_flip, flipped}
use Rattle.surface_lib.proofs.builtins.torus.Goals as goal

abbrev half : Described
half = with_generator (start once_punctured_torus) (codes "a")
    (torus_flip.moves ++ relabel (pos 2 ∷ pos 1 ∷ negsuc 0 ∷ []) ∷ [])

pub insert-requires-clause-closed : goal.insert-requires-clause-closed
insert-requires-clause-closed c =
    let begun = started once_punctured_torus (described c.in_ok-s.s) _ c.in_ok-s.ensures.holds c.torus_base.ensures in
    closed (start once_punctured_torus) (described c.in_ok-s.s) (pos 0 ∷ []) (pos 2 ∷ pos 1 ∷ negsuc 0 ∷ []) torus_flip
    begun flipped refl

pub insert-requires-2-clause-new : goal.insert-requires-2-clause-new
insert-requires-2-clause-new c =
    let begun = started once_punctured_torus (described c.in_ok-s.s) _ c.in_ok-s.ensures.holds c.torus_base.ensures in
    ap (λ (d : Described). is_taken d.generators (codes "b"))
    (c.in_ok-insert.ensures.behind (start once_punctured_torus) torus_flip begun flipped)

pub insert-requires-2-clause-closed : goal.insert-requires-2-clause-closed
insert-requires-2-clause-closed c =
    let begun = started once_punctured_torus (described c.in_ok-s.s) _ c.in_ok-s.ensures.holds c.torus_base.ensures in
    closed half (described c.insert.new.s) (pos 0 ∷ []) (negsuc 1 ∷ negsuc 0 ∷ pos 2 ∷ []) torus_flip
    (c.in_ok-insert.ensures.behind (start once_punctured_torus) torus_flip begun flipped) flipped refl

pub returns-clause-holds : goal.returns-clause-holds
returns-clause-holds c =
    let begun = started once_punctured_torus (described c.in_ok-s.s) _ c.in_ok-s.ensures.holds c.torus_base.ensures in
    c.in_ok-insert-2.ensures.behind half torus_flip
    (c.in_ok-insert.ensures.behind (start once_punctured_torus) torus_flip begun flipped) flipped
