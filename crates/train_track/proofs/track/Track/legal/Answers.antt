use Rattle.std.proofs.Common.{List, ℤ, sym, ◌∙◌, ap, subst}
use Rattle.std.specs.List.{All}
use Rattle.ideal_tri.specs.Triangulations.{IsLabel}
use Rattle.tri_atlas.specs.Arena.{triangulation}
use Rattle.free_groupoid.specs.Walks.{DualWalk}
use Rattle.train_track.specs.Branches.{TrainTrack}
use Rattle.train_track.proofs.LegalWalks.{walk_labels}
use Rattle.train_track.proofs.track.Track.legal.Goals as goal

pub is_legal-requires-clause-labels : goal.is_legal-requires-clause-labels
is_legal-requires-clause-labels c =
    subst (λ (w : List ℤ). All (IsLabel c.tri.result.now) w)
    (sym (ap (λ (w : DualWalk). w.letters) c.w.view_is) ∙ sym c.deref-2.ensures.value)
    (subst (λ (ts : List (List ℤ)). All (IsLabel ts) c.args.w.now.letters)
    (sym (ap (λ (t : TrainTrack). triangulation c.args.atlas.now t.tri) c.self.view_is) ∙ sym c.tri.ensures.value)
    (walk_labels _ _ _ _ c.requires.walk.leads))
