use Rattle.train_track.specs.Branches.{words_of}
use Rattle.verdict_plan.specs.inside.Trials.{ArePassColumns}
use Rattle.verdict_plan.proofs.track_growth.columns.Given as goal

abbrev pub invariant-loop-j : goal.invariant-loop-j
invariant-loop-j l =
    ArePassColumns (words_of l.track.branches) (words_of l.c.images) l.j l.columns.items
