use Rattle.std.proofs.Common.{sym, subst}
use Rattle.ideal_tri.specs.Triangulations.{IsLabel}
use Rattle.tri_atlas.specs.Arena.{triangulation}
use Rattle.cert_checker.proofs.BranchParts.{last_label, listed_first, listed_last}
use Rattle.cert_checker.proofs.train_paths.way_along.Goals as goal

pub connection-requires-clause-listed : goal.connection-requires-clause-listed
connection-requires-clause-listed c =
    listed_first (triangulation c.args.atlas.now c.args.site.now.track.tri) c.args.site.now.track c.args.branch.now
    c.first_letter.result c.requires.here.here.on c.requires.branch c.first_letter.ensures

pub connection-requires-2-clause-label : goal.connection-requires-2-clause-label
connection-requires-2-clause-label c =
    subst (IsLabel (triangulation c.args.atlas.now c.args.site.now.track.tri)) (sym c.last_letter.ensures)
    (last_label (triangulation c.args.atlas.now c.args.site.now.track.tri) c.args.site.now.track.left_out
    c.args.branch.now c.requires.branch)

pub connection-requires-2-clause-listed : goal.connection-requires-2-clause-listed
connection-requires-2-clause-listed c =
    listed_last (triangulation c.args.atlas.now c.args.site.now.track.tri) c.args.site.now.track c.args.branch.now
    c.last_letter.result c.requires.here.here.on c.requires.branch c.last_letter.ensures
