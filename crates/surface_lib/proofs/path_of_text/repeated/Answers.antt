use Rattle.std.proofs.Common.{◌-◌, ◌+◌, ◌++◌, ◌∙◌, ap}
use Rattle.std.specs.List.{repeat}
use Rattle.tri_atlas.specs.Paths.{MovePath}
use Rattle.surface_lib.proofs.Loops.{nothing_repeated, once_more, begins, loop_is_empty, loops_joined}
use Rattle.surface_lib.proofs.path_of_text.repeated.Goals as goal

pub returns-then-is_empty-clause-moves : goal.returns-then-is_empty-clause-moves
returns-then-is_empty-clause-moves c =
    ap (λ (z : MovePath). z.moves) c.new-whole.ensures
    ∙ nothing_repeated c.args.times c.moves.result.now c.args.path.now.moves c.if-is_empty.ensures c.moves.ensures

pub loop-turn-init : goal.loop-turn-init
loop-turn-init c = record {
  closed = loop_is_empty c.args.s.now.atlas c.base.result c.new-whole.result c.new-whole.ensures c.base.ensures.number
      c.base.ensures.here;
  left = begins c.args.times c.args.path.now.moves c.new-whole.result.moves (ap (λ (z : MovePath). z.moves)
      c.new-whole.ensures);
}

pub loop-turn-preserved : goal.loop-turn-preserved
loop-turn-preserved c =
    let now = c.in_ok-append.ensures in
    let before = c.loop-turn.invariant in
    record {
      closed = loops_joined c.args.s.now.atlas c.loop-turn.whole c.args.path.now c.append.new.self now.accepted
          (now.path c.args.s.now.atlas before.closed.within c.requires.within) before.closed c.requires;
      left = ap (λ (z : MovePath). z.moves ++ repeat (c.args.times - (c.loop-turn._turn + 1)) c.args.path.now.moves)
          now.accepted
          ∙ once_more c.args.times c.loop-turn._turn c.loop-turn.whole.moves c.args.path.now.moves c.loop-turn-test.true
          ∙ before.left;
    }
