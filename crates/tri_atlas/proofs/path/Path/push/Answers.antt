use Rattle.std.proofs.Common.{◌≡◌, ◌∙◌, ◌++◌, [], ◌∷◌, sym, ap, subst}
use Rattle.tri_atlas.specs.Arena.{IsTriIn}
use Rattle.tri_atlas.specs.Paths.{MovePath, IsPathIn}
use Rattle.tri_atlas.proofs.AtlasPaths.{path_equal, path_pushed}
use Rattle.tri_atlas.proofs.path.Path.push.Goals as goal

pub returns-clause-path : goal.returns-clause-path
returns-clause-path c =
    let start : c.self.inside.start ≡ c.args.self.now.start = ap (λ (p : MovePath). p.start) c.self.view_is in
    let moves : c.push.new.self.items ≡ c.args.self.now.moves ++ c.args.m ∷ [] =
    c.in_ok-push.ensures.items ∙ ap (λ (p : MovePath). p.moves ++ c.args.m ∷ []) c.self.view_is in
    subst (IsPathIn c.args.atlas.now) (sym (path_equal _ _ _ _ _ _ start c.target-self-inside.ensures.value moves))
    (path_pushed c.args.atlas.now c.args.self.now c.args.m c.requires.path c.requires.here c.requires.follows
    (subst (IsTriIn c.args.atlas.now) c.target-self-inside.ensures.value c.target-self-inside.ensures.here))
