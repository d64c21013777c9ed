use Rattle.std.proofs.Common.{List, sym, ◌∙◌, ap, subst, map}
use Rattle.std.specs.List.{All}
use Rattle.tri_atlas.specs.Arena.{MoveHandle, IsMoveIn, step_of}
use Rattle.tri_atlas.specs.MovedVectors.{flipped_edge}
use Rattle.twist_compile.proofs.Paths.{all_in, moved_through}
use Rattle.twist_compile.proofs.twist_path.parts_of.Goals as goal

pub flipped_edges-requires : goal.flipped_edges-requires
flipped_edges-requires c =
    subst (λ (z : List MoveHandle). All (IsMoveIn c.args.atlas.now) z) (sym c.moves.ensures)
    (all_in c.args.atlas.now _ _ _ c.requires.path.moves_lead)

pub returns-clause-down : goal.returns-clause-down
returns-clause-down c =
    c.in_ok-flipped_edges.ensures
    ∙ ap (λ (z : List MoveHandle). map (λ (m : MoveHandle). flipped_edge (step_of c.args.atlas.now m)) z) c.moves.ensures
    ∙ sym (moved_through (step_of c.args.atlas.now) flipped_edge c.args.short.now.path.moves)
