use Rattle.train_track.proofs.CutLegal.{walk_can_be_cut}
use Rattle.train_track.proofs.track.cut_law.Goals as goal

pub returns : goal.returns
returns c =
    walk_can_be_cut c.label_laws.ensures c.args.track.now c.args.w.now c.requires
    (c.surface_laws.ensures.triangles c.requires.triples c.requires.sound)
