use Rattle.std.proofs.Common.{ℕ, subst}
use Rattle.tri_atlas.specs.Arena.{Arena, triangulation}
use Rattle.tri_atlas.specs.Moves.{ArePath}
use Rattle.tri_atlas.specs.Paths.{moves_of}
use Rattle.multicurve_cert.proofs.Powers.{power_laws}
use Rattle.multicurve_cert.proofs.power_law.power_laws.Goals as goal

pub returns : goal.returns
returns c =
    let arena : Arena = c.args.atlas.now in
    let sound = c.base.ensures.sound.sound 0 c.base.ensures.sound.base in
    power_laws (triangulation arena 0) (moves_of arena c.args.word.now) c.vector_laws.ensures
    c.map_laws.ensures.paths (c.drawing_laws.ensures (triangulation arena 0) sound) sound
    (subst (λ (t : ℕ). ArePath (triangulation arena 0) (moves_of arena c.args.word.now) (triangulation arena t))
    c.requires.end
    (subst (λ (s : ℕ). ArePath (triangulation arena s) (moves_of arena c.args.word.now)
    (triangulation arena c.args.word.now.end)) c.requires.start
    (c.atlas_laws.ensures.ways.leads arena c.args.word.now c.base.ensures.sound c.requires.path)))
