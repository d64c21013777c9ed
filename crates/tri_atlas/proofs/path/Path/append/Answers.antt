use Rattle.std.proofs.Common.{◌≡◌, ◌∙◌, ◌++◌, List, sym, ap, subst}
use Rattle.tri_atlas.specs.Arena.{MoveHandle}
use Rattle.tri_atlas.specs.Paths.{MovePath, IsPathIn}
use Rattle.tri_atlas.proofs.AtlasPaths.{path_equal, path_joined}
use Rattle.tri_atlas.proofs.path.Path.append.Goals as goal

pub returns-clause-path : goal.returns-clause-path
returns-clause-path c = λ arena ours theirs.
    let start : c.self.inside.start ≡ c.args.self.now.start = ap (λ (p : MovePath). p.start) c.self.view_is in
    let end : c.other.inside.end ≡ c.args.other.now.end = ap (λ (p : MovePath). p.end) c.other.view_is in
    let moves : c.extend.new.moves.items ≡ c.args.self.now.moves ++ c.args.other.now.moves =
    c.in_ok-extend.ensures.accepted
    ∙ ap (λ (z : List MoveHandle). c.self.inside.moves.items ++ z)
    (c.deref.ensures.value ∙ ap (λ (p : MovePath). p.moves) c.other.view_is)
    ∙ ap (λ (p : MovePath). p.moves ++ c.args.other.now.moves) c.self.view_is in
    subst (IsPathIn arena) (sym (path_equal _ _ _ _ _ _ start end moves))
    (path_joined arena c.args.self.now c.args.other.now c.requires.follows ours theirs)
