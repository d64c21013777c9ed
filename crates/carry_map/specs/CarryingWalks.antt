-- What carries a track, with walks in the place of words, as contracts see it.
use Rattle.std.specs.Prelude.{ℤ, List}
use Rattle.free_groupoid.specs.Walks.{DualWalk}
use Rattle.train_track.specs.Branches.{words_of}
use Rattle.carry_map.specs.CarriedMaps.{Carrying}

-- where the switches go, the connecting walks, and the train paths
pub record CarryingWalks : Type 0 where
  pub to : List ℤ
  pub connect : List DualWalk
  pub images : List DualWalk

abbrev pub carrying_of : CarryingWalks → Carrying
carrying_of c =
    record { to = c.to; connect = words_of c.connect; images = words_of c.images }
