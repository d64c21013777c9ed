use Rattle.std.proofs.Common.{◌≡◌, refl}
use Rattle.tri_atlas.specs.Arena.{triangulation}
use Rattle.surface_lib.specs.Described.{described}
use Rattle.surface_lib.specs.declared.surface.Surface.{Surface}
use Rattle.surface_lib.proofs.Grown.{described_grown, on_ok}
use Rattle.surface_lib.proofs.generators.path_in.Goals as goal

pub returns-in-Flips-clause-unchanged : goal.returns-in-Flips-clause-unchanged
returns-in-Flips-clause-unchanged g c =
    let s = c.args.s.now in
    let t : Surface = record { name = s.name; atlas = c.flips_path.new.atlas; generators = s.generators } in
    on_ok c.flips_path.result (triangulation t.atlas 0 ≡ triangulation s.atlas 0) (described t ≡ described s)
    (described_grown c.atlas_laws.ensures.growth s t c.flips_path.ensures.grows c.requires refl refl)
    c.flips_path.ensures.base

pub returns-in-Twist-clause-unchanged : goal.returns-in-Twist-clause-unchanged
returns-in-Twist-clause-unchanged g c =
    let s = c.args.s.now in
    let t : Surface = record { name = s.name; atlas = c.twist_path.new.atlas; generators = s.generators } in
    on_ok c.twist_path.result (triangulation t.atlas 0 ≡ triangulation s.atlas 0) (described t ≡ described s)
    (described_grown c.atlas_laws.ensures.growth s t c.twist_path.ensures.grows c.requires refl refl)
    c.twist_path.ensures.base
