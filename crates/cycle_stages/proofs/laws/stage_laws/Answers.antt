use Rattle.cycle_stages.proofs.StageSteps.{kept_as_it_grows, kept_the_same}
use Rattle.cycle_stages.proofs.laws.stage_laws.Goals as goal

pub returns : goal.returns
returns c = record {
  kept = λ old new s grows. kept_as_it_grows old new c.atlas_laws.ensures.growth grows s;
  there = λ old new s grows h. c.atlas_laws.ensures.growth.triangulation old new s.coords.tri grows h.here.tri_in;
  same = kept_the_same;
}
