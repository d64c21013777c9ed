use Rattle.tri_atlas.specs.Arena.{triangulation}
use Rattle.cycle_stages.specs.inside.OpenWalks.{AreShut}
use Rattle.cycle_stages.proofs.open_cycles.first_open.Given as goal

abbrev pub invariant-loop-cycle : goal.invariant-loop-cycle
invariant-loop-cycle l = AreShut (triangulation l.atlas 0) l.cycles l.cycle-index
