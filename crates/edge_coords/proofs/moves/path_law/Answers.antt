use Rattle.std.proofs.Common.{ℕ, subst}
use Rattle.tri_atlas.specs.Arena.{Arena, triangulation}
use Rattle.tri_atlas.specs.Paths.{moves_of}
use Rattle.tri_atlas.specs.Moves.{ArePath}
use Rattle.edge_coords.proofs.moves.path_law.Goals as goal

pub returns-clause-along : goal.returns-clause-along
returns-clause-along c =
    let arena : Arena = c.args.atlas.now in
    c.vector_laws.ensures.paths (triangulation arena c.args.w.now.tri) (triangulation arena c.args.p.now.end)
    (moves_of arena c.args.p.now) c.args.w.now.numbers
    (c.base.ensures.sound.sound c.args.w.now.tri c.requires.coordinates.tri_in)
    (subst (λ (t : ℕ). ArePath (triangulation arena t) (moves_of arena c.args.p.now) (triangulation arena
    c.args.p.now.end))
    c.requires.starts (c.atlas_laws.ensures.ways.leads arena c.args.p.now c.base.ensures.sound c.requires.path))
    c.requires.coordinates.multicurve
