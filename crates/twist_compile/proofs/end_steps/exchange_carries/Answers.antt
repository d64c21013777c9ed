use Rattle.twist_compile.proofs.ExchangeCarries.{Given, carries, flippable}
use Rattle.twist_compile.proofs.end_steps.exchange_carries.Goals as goal
use Rattle.twist_compile.proofs.end_steps.exchange_carries.Goals.{After-triple_laws}

given : (c : After-triple_laws) → Given
given c = record {
  labels = c.label_laws.ensures;
  surfaces = c.surface_laws.ensures;
  triples = c.triple_laws.ensures;
  flips = c.flip_laws.ensures;
  hits = c.hit_laws.ensures;
  drawings = c.drawing_laws.ensures;
}

pub returns-clause-flippable : goal.returns-clause-flippable
returns-clause-flippable c =
    flippable (given c) c.args.tri.now c.requires.sound c.args.w.now c.requires.two c.args.p c.args.q c.requires.annulus

pub returns-clause-carries : goal.returns-clause-carries
returns-clause-carries c =
    carries (given c) c.args.tri.now c.requires.sound c.args.w.now c.requires.two c.args.p c.args.q c.requires.annulus
