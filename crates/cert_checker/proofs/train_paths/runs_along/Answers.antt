use Rattle.std.proofs.Common.{ℕ, ℤ, List, ◌≡◌, sym, ◌∙◌, ap, subst}
use Rattle.std.proofs.lemmas.Bool.Decides.{Decides-int_eq}
use Rattle.std.proofs.lemmas.Slice.Eq.{slice_eq-Decides}
use Rattle.ideal_tri.specs.Triangulations.{IsWalk, triangle_of}
use Rattle.ideal_tri.specs.Words.{but_last}
use Rattle.tri_atlas.specs.Arena.{triangulation}
use Rattle.free_groupoid.specs.GroupoidMaps.{reduced_image, substitution}
use Rattle.train_track.specs.Branches.{letter_at}
use Rattle.cert_checker.proofs.BranchParts.{front_walk}
use Rattle.cert_checker.proofs.train_paths.runs_along.Goals as goal

pub image-requires-clause-walk : goal.image-requires-clause-walk
image-requires-clause-walk c =
    let here : List (List ℤ) = triangulation c.args.atlas.now c.args.site.now.track.tri in
    subst (λ (w : List ℤ). (t : ℕ) × IsWalk here (triangle_of here (letter_at w 0)) w t) (sym c.before_last.ensures)
    (front_walk here c.args.site.now.track.left_out c.args.branch.now c.requires.branch)

pub returns : goal.returns
returns c =
    let f : ℤ → List ℤ = substitution c.args.site.now.map.images in
    let along : c.in_ok-along.along.items ≡ reduced_image f (but_last c.args.branch.now) =
    c.in_ok-along.ensures ∙ ap (reduced_image f) c.before_last.ensures in
    let test = slice_eq-Decides Decides-int_eq c.in_ok-along.along.items c.in_ok-way.way.items c.eq.result
    c.eq.ensures in (
      λ h. sym along ∙ test.0 h ∙ c.in_ok-way.ensures,
      λ e. test.1 (along ∙ e ∙ sym c.in_ok-way.ensures),
    )
