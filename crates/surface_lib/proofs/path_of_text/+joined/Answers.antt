use Rattle.std.proofs.Common.{ap}
use Rattle.tri_atlas.specs.Paths.{MovePath}
use Rattle.tri_atlas.specs.Arena.{back}
use Rattle.surface_lib.specs.Words.{moves_written}
use Rattle.surface_lib.specs.Surfaces.{names_of}
use Rattle.surface_lib.proofs.Loops.{loop_is_empty, value_begins}
use Rattle.surface_lib.proofs.path_of_text.+joined.Goals as goal

pub path_of_text-loop-rest-init : goal.path_of_text-loop-rest-init
path_of_text-loop-rest-init t c = record {
  closed = loop_is_empty c.args.s.now.atlas c.base.result c.new-path.result c.new-path.ensures c.base.ensures.number
      c.base.ensures.here;
  left = value_begins (moves_written back) (names_of c.args.s.now) c.args.levels c.args.text.now _ _
      (ap (λ (z : MovePath). z.moves) c.new-path.ensures) c.pieces-rest.ensures.parts c.if-levels-eq0.false;
}
