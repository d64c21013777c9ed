use Rattle.tri_atlas.proofs.Growth.{growth_laws}
use Rattle.tri_atlas.proofs.Ways.{handle_laws, way_laws}
use Rattle.tri_atlas.proofs.laws.atlas_laws.Goals as goal

pub returns : goal.returns
returns c = record {
  growth = growth_laws;
  handles = handle_laws c.map_laws.ensures.moves;
  ways = way_laws c.map_laws.ensures;
}
