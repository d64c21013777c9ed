use Rattle.std.proofs.Common.{ℕ, sym, subst}
use Rattle.tri_atlas.specs.Arena.{triangulation}
use Rattle.train_track.specs.Tracks.{ArePlaced}
use Rattle.train_track.proofs.FreeCorners.{free_placed}
use Rattle.train_track.proofs.track.Track.from_coords.Goals as goal

pub of_corners-requires-clause-placed : goal.of_corners-requires-clause-placed
of_corners-requires-clause-placed c =
    subst (λ (t : ℕ). ArePlaced (triangulation c.args.atlas.now t) c.in_ok-left_out.left_out.items) (sym c.tri.ensures)
    (subst (ArePlaced (triangulation c.args.atlas.now c.args.w.now.tri)) (sym c.in_ok-left_out.ensures)
    (free_placed c.label_laws.ensures (triangulation c.args.atlas.now c.args.w.now.tri) c.args.w.now.numbers))
