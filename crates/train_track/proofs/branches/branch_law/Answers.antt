use Rattle.train_track.proofs.BranchWalks.{walks, words}
use Rattle.train_track.proofs.branches.branch_law.Goals as goal

pub returns : goal.returns
returns c = record {
  walks =
      walks c.args.tri.now c.args.left_out.now c.label_laws.ensures
      (c.surface_laws.ensures.triangles c.args.tri.now c.requires.sound) c.requires.single;
  list =
      words c.args.tri.now c.args.left_out.now c.label_laws.ensures
      (c.surface_laws.ensures.triangles c.args.tri.now c.requires.sound) c.requires.single;
}
