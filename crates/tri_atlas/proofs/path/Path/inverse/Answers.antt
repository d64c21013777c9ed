use Rattle.std.proofs.Common.{◌≡◌, ◌∙◌, List, sym, ap, subst, map, reverse}
use Rattle.std.specs.List.{All}
use Rattle.tri_atlas.specs.Arena.{MoveHandle, IsMoveIn, back}
use Rattle.tri_atlas.specs.Paths.{MovePath, IsPathIn}
use Rattle.tri_atlas.proofs.AtlasPaths.{lead_in, path_equal, path_inverse}
use Rattle.tri_atlas.proofs.path.Path.inverse.Goals as goal

pub backs-requires : goal.backs-requires
backs-requires c =
    let moves : c.deref.result.now ≡ c.args.self.now.moves =
    c.deref.ensures.value ∙ ap (λ (p : MovePath). p.moves) c.self.view_is in
    subst (λ (z : List MoveHandle). All (IsMoveIn c.args.atlas.now) z) (sym moves)
    (lead_in c.args.atlas.now _ _ _ c.requires.moves_lead)

pub returns-clause-path : goal.returns-clause-path
returns-clause-path c =
    let start : c.self.inside.end ≡ c.args.self.now.end = ap (λ (p : MovePath). p.end) c.self.view_is in
    let end : c.self.inside.start ≡ c.args.self.now.start = ap (λ (p : MovePath). p.start) c.self.view_is in
    let moves : c.deref.result.now ≡ c.args.self.now.moves =
    c.deref.ensures.value ∙ ap (λ (p : MovePath). p.moves) c.self.view_is in
    let back_moves : c.reverse.new.self.items ≡ reverse (map back c.args.self.now.moves) =
    c.reverse.ensures.items ∙ ap reverse (c.in_ok-moves.ensures.accepted ∙ ap (map back) moves) in
    subst (IsPathIn c.args.atlas.now) (sym (path_equal _ _ _ _ _ _ start end back_moves))
    (path_inverse c.args.atlas.now c.args.self.now c.requires)
