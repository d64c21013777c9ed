use Rattle.std.proofs.Common.{◌≡◌, ◌+◌, ℕ, List, map, drop, ◌∙◌, ap, sym, subst}
use Rattle.tri_atlas.specs.Arena.{Arena, MoveHandle, IsMoveIn, source_of, target_of, step_of}
use Rattle.tri_atlas.specs.Paths.{Lead}
use Rattle.edge_coords.specs.Coordinates.{Coordinates}
use Rattle.edge_coords.specs.MovedCoordinates.{IsFirstOverflow}
use Rattle.edge_coords.proofs.Along.{GoOn, here_more, lead_here, numbers_more, fit_more, first_overflow}
use Rattle.edge_coords.proofs.coords.Coords.along.Goals as goal

pub flips-requires : goal.flips-requires
flips-requires c =
    here_more c.args.atlas.now c.moves-moves.result.now c.loop-k.k c.index-moves-k.result c.loop-k-test.true
    c.index-moves-k.is
    (lead_here c.args.atlas.now c.loop-k.moved.tri c.args.p.now.end c.moves-moves.result.now c.loop-k.k
    c.index-moves-k.result
    c.loop-k-test.true c.index-moves-k.is c.loop-k.invariant.lead).0
    c.loop-k.invariant.moves_here

pub returns-in-Err-clause-refused : goal.returns-in-Err-clause-refused
returns-in-Err-clause-refused c =
    subst (λ (hs : List MoveHandle). IsFirstOverflow c.args.self.now.numbers (map (step_of c.args.atlas.now) hs)
    (record { flip = c.flips.result; edge = c.in-Err.overflow.edge; value = c.in-Err.overflow.value }))
    c.moves-moves.ensures
    (first_overflow c.args.atlas.now c.moves-moves.result.now c.args.self.now.numbers c.loop-k.moved.numbers c.loop-k.k
    c.flips.result c.index-moves-k.result c.in-Err.overflow c.loop-k-test.true c.index-moves-k.is
    c.loop-k.invariant.numbers
    c.in-Err.ensures.refused c.loop-k.invariant.fits c.flips.ensures)

pub loop-k-preserved : goal.loop-k-preserved
loop-k-preserved c =
    let arena : Arena = c.args.atlas.now in
    let handles : List MoveHandle = c.moves-moves.result.now in
    let m : MoveHandle = c.index-moves-k.result in
    let lead : IsMoveIn arena m × (source_of arena m ≡ c.loop-k.moved.tri)
    × Lead arena (target_of arena m) (drop (c.loop-k.k + 1) handles) c.args.p.now.end =
    lead_here arena c.loop-k.moved.tri c.args.p.now.end handles c.loop-k.k m c.loop-k-test.true c.index-moves-k.is
    c.loop-k.invariant.lead in
    let next : GoOn (map (step_of arena) handles) c.args.self.now.numbers =
    subst (λ (hs : List MoveHandle). GoOn (map (step_of arena) hs) c.args.self.now.numbers) (sym c.moves-moves.ensures)
    c.next_law.ensures in
    record {
      numbers =
          ap (λ (d : Coordinates). d.numbers) c.in_default.ensures.moved
          ∙ numbers_more arena handles c.args.self.now.numbers c.loop-k.moved.numbers c.loop-k.k m next
          c.loop-k-test.true
          c.index-moves-k.is c.loop-k.invariant.numbers;
      here = c.in_default.ensures.here;
      moves_here =
          here_more arena handles c.loop-k.k m c.loop-k-test.true c.index-moves-k.is lead.0
          c.loop-k.invariant.moves_here;
      lead =
          subst (λ (t : ℕ). Lead arena t (drop (c.loop-k.k + 1) handles) c.args.p.now.end)
          (sym (ap (λ (d : Coordinates). d.tri) c.in_default.ensures.moved)) lead.2;
      fits =
          fit_more arena handles c.args.self.now.numbers c.loop-k.moved.numbers c.loop-k.k m c.loop-k-test.true
          c.index-moves-k.is c.loop-k.invariant.numbers c.in_default.ensures.fits c.loop-k.invariant.fits;
    }
