use Rattle.std.proofs.Common.{ℤ, List, [], ◌∷◌, ◌++◌, ◌∙◌, ap, subst}
use Rattle.ideal_tri.specs.Relabellings.{IsRelabelling}
use Rattle.tri_atlas.specs.Arena.{triangulation}
use Rattle.tri_atlas.specs.Moves.{Move, relabel}
use Rattle.tri_atlas.specs.Paths.{moves_of}
use Rattle.relabel.specs.Refusals.{IsRefusedFor}
use Rattle.surface_lib.proofs.Flips.{moves_then}
use Rattle.surface_lib.proofs.flips_form.closed_by.Goals as goal

pub returns-in-Err-clause-refused : goal.returns-in-Err-clause-refused
returns-in-Err-clause-refused c =
    let at = triangulation c.args.atlas.now in
    let from = c.tri.ensures.value ∙ ap at c.end-end.ensures in
    let to = c.tri-2.ensures.value ∙ ap at c.base-base.ensures.number in
    c.fault_of.ensures (at c.args.flips.end) (at 0) c.args.images.now
    (subst (λ (z : List (List ℤ)). IsRefusedFor (at c.args.flips.end) z c.args.images.now c.in-Err.error) to
    (subst (λ (z : List (List ℤ)). IsRefusedFor z c.tri-2.result.now c.args.images.now c.in-Err.error) from
    c.in-Err.ensures.refused))

pub returns-clause-read : goal.returns-clause-read
returns-clause-read c =
    let at = triangulation c.args.atlas.now in
    let from = c.tri.ensures.value ∙ ap at c.end-end.ensures in
    let to = c.tri-2.ensures.value ∙ ap at c.base-base.ensures.number in
    let (relabels, same) = c.in-Ok.ensures.accepted in (
      subst (λ (z : List (List ℤ)). IsRelabelling (at c.args.flips.end) z c.args.images.now) to
          (subst (λ (z : List (List ℤ)). IsRelabelling z c.tri-2.result.now c.args.images.now) from relabels),
      moves_then c.atlas_laws.ensures.growth c.args.atlas.now c.push.new.atlas c.args.flips c.push-2.new.self c.in_ok-m.m
          _ c.push.ensures.grows c.requires.path c.in_ok-push.ensures.accepted
          ∙ ap (λ (z : Move). moves_of c.args.atlas.now c.args.flips ++ z ∷ [])
          (c.in_ok-m.ensures.accepted.step ∙ ap relabel same),
    )
