use Rattle.std.proofs.Common.{◌≡◌, ◌++◌, ◌∷◌, [], rules, subst, sym, length, ◌<◌}
use Rattle.train_track.specs.Branches.{words_of}
use Rattle.verdict_plan.specs.inside.Trials.{ArePassColumns}
use Rattle.verdict_plan.proofs.PassColumns.{column_of, one_more}
use Rattle.verdict_plan.proofs.track_growth.columns.Goals as goal

pub loop-j-preserved : goal.loop-j-preserved
loop-j-preserved c =
    let pushed : c.push.new.self.items ≡ c.loop-j.columns.items ++ (c.in_ok-decompose.field-0 ∷ []) = search rules in
    let within : c.loop-j.j < length c.args.c.now.images = search rules in
    subst (ArePassColumns (words_of c.args.track.now.branches) (words_of c.args.c.now.images) _) (sym pushed)
    (one_more (words_of c.args.track.now.branches) (words_of c.args.c.now.images) c.loop-j.j c.loop-j.columns.items
    c.in_ok-decompose.field-0 c.loop-j.invariant
    (column_of (words_of c.args.track.now.branches) c.args.c.now.images c.loop-j.j c.image.result.now
    c.in_ok-decompose.field-0.items within c.image.ensures c.in_ok-decompose.ensures))
