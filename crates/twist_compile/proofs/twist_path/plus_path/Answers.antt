use Rattle.std.proofs.Common.{rules, ◌≡◌, ℤ, List, ◌++◌, ◌∙◌, ap}
use Rattle.std.proofs.lemmas.Result.{IfOk-weaker}
use Rattle.curve_shorten.specs.Twists.{IsAnnulus}
use Rattle.tri_atlas.specs.Arena.{Arena, triangulation}
use Rattle.tri_atlas.specs.Moves.{back_along}
use Rattle.tri_atlas.specs.Paths.{IsPathIn, moves_of}
use Rattle.twist_compile.proofs.Paths.{plus_path_moves}
use Rattle.twist_compile.proofs.twist_path.plus_path.Goals as goal
use Rattle.twist_compile.specs.inside.EndSteps.{end_moves, joined_three}

pub returns-clause-path : goal.returns-clause-path
returns-clause-path c =
    IfOk-weaker c.joined_three.result
    (λ p. (arena : Arena) → IsPathIn arena c.args.short.now.path → IsPathIn arena c.in_ok-steps.steps
    → IsPathIn arena c.in_ok-up.up → IsPathIn arena p)
    (IsPathIn c.end_path.new.atlas)
    (λ p h. h c.end_path.new.atlas
    (c.atlas_laws.ensures.growth.path_in c.args.atlas.now c.end_path.new.atlas c.args.short.now.path
    c.in_ok-steps.ensures.grows c.requires.path)
    c.in_ok-steps.ensures.path c.in_ok-up.ensures.path)
    c.joined_three.ensures.path

pub returns-clause-moves : goal.returns-clause-moves
returns-clause-moves c =
    let tri : List (List ℤ) = triangulation c.args.atlas.now c.args.short.now.coords.tri in
    let w = c.args.short.now.coords.numbers in
    let p : ℤ = c.annulus-p.result.0 in
    let q : ℤ = c.annulus-p.result.1 in
    IfOk-weaker c.joined_three.result
    (λ path. path ≡ joined_three c.args.short.now.path c.in_ok-steps.steps c.in_ok-up.up)
    (λ path. (p : ℤ) × (q : ℤ) × IsAnnulus tri w p q
    × (moves_of c.end_path.new.atlas path ≡ moves_of c.args.atlas.now c.args.short.now.path ++ end_moves tri p q
    ++ back_along (moves_of c.args.atlas.now c.args.short.now.path)))
    (λ path is. (
      p,
      q,
      search rules,
      ap (moves_of c.end_path.new.atlas) is
          ∙ plus_path_moves c.atlas_laws.ensures c.args.atlas.now c.end_path.new.atlas c.in_ok-steps.ensures.grows
          c.base.ensures.sound c.args.short.now.path c.in_ok-steps.steps c.in_ok-up.up c.requires.path (end_moves tri p q)
          c.in_ok-steps.ensures.moves c.in_ok-up.ensures.accepted,
    ))
    c.joined_three.ensures.accepted
