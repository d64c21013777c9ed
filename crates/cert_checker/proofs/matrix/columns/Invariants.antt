use Rattle.train_track.specs.Branches.{words_of}
use Rattle.cert_text.specs.Certificates.{walks_of}
use Rattle.cert_checker.specs.inside.Columns.{ArePassColumns}
use Rattle.cert_checker.proofs.matrix.columns.Given as goal

abbrev pub invariant-loop-j : goal.invariant-loop-j
invariant-loop-j l =
    ArePassColumns (words_of l.track.branches) (walks_of l.c.images.items) l.j l.columns.items
