use Rattle.std.proofs.Common.{List, ℤ, map, ◌≡◌, sym, ◌∙◌, ap, subst}
use Rattle.std.specs.Prelude.{IfOk}
use Rattle.free_groupoid.specs.Walks.{DualWalk}
use Rattle.train_track.specs.Branches.{TrainTrack, words_of}
use Rattle.train_track.specs.Passes.{Pass, ArePassesOf}
use Rattle.train_track.specs.inside.Passing.{CanBeCutInto}
use Rattle.train_track.proofs.track.Track.decompose.Goals as goal

pub passes-requires-clause-cut : goal.passes-requires-clause-cut
passes-requires-clause-cut c =
    subst (λ (bs : List DualWalk). CanBeCutInto (words_of bs) c.deref-2.result.now)
    (sym (ap (λ (t : TrainTrack). t.branches) c.self.view_is) ∙ sym c.deref.ensures.value)
    (subst (CanBeCutInto (words_of c.args.self.now.branches))
    (sym (ap (λ (w : DualWalk). w.letters) c.w.view_is) ∙ sym c.deref-2.ensures.value) c.cut_law.ensures)

pub returns : goal.returns
returns c =
    subst (λ (bs : List DualWalk). IfOk c.passes.result
    (λ numbers. (ps : List Pass) × ArePassesOf (words_of bs) ps c.args.w.now.letters
    × (numbers.items ≡ map (λ p. p.branch) ps)))
    (c.deref.ensures.value ∙ ap (λ (t : TrainTrack). t.branches) c.self.view_is)
    (subst (λ (w : List ℤ). IfOk c.passes.result
    (λ numbers. (ps : List Pass) × ArePassesOf (words_of c.deref.result.now) ps w
    × (numbers.items ≡ map (λ p. p.branch) ps)))
    (c.deref-2.ensures.value ∙ ap (λ (w : DualWalk). w.letters) c.w.view_is) c.passes.ensures)
