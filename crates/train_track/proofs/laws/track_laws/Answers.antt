use Rattle.train_track.proofs.TrackTheory.{track_laws}
use Rattle.train_track.proofs.laws.track_laws.Goals as goal

pub returns : goal.returns
returns c = track_laws c.label_laws.ensures c.surface_laws.ensures
