use Rattle.std.proofs.Common.{◌≡◌, ◌∙◌, List, sym, ap, subst}
use Rattle.std.specs.List.{All}
use Rattle.tri_atlas.specs.Arena.{MoveHandle, IsMoveIn}
use Rattle.tri_atlas.specs.Paths.{MovePath}
use Rattle.tri_atlas.proofs.AtlasPaths.{lead_in}
use Rattle.tri_atlas.proofs.path.Path.flips.Goals as goal

pub count_flips-requires : goal.count_flips-requires
count_flips-requires c =
    let moves : c.deref.result.now ≡ c.args.self.now.moves =
    c.deref.ensures.value ∙ ap (λ (p : MovePath). p.moves) c.self.view_is in
    subst (λ (z : List MoveHandle). All (IsMoveIn c.args.atlas.now) z) (sym moves)
    (lead_in c.args.atlas.now _ _ _ c.requires.moves_lead)
