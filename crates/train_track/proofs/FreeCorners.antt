-- The corners without strands stand in the order of labels.
use Rattle.std.proofs.Common.{ℕ, ℤ, List, ◌<◌, ◌==◌}
use Rattle.std.proofs.lemmas.List.Elements.{All-filter}
use Rattle.std.proofs.lemmas.List.Kept.{AllPairs-filter}
use Rattle.ideal_tri.specs.LabelLaws.{LabelLaws}
use Rattle.ideal_tri.specs.Triangulations.{IsLabel}
use Rattle.ideal_tri.specs.Vectors.{corner_count}
use Rattle.ideal_tri.specs.Vertices.{rank, ordered_labels}
use Rattle.train_track.specs.Tracks.{ArePlaced}
use Rattle.train_track.specs.Refusals.{free_corners}
use Rattle.train_track.proofs.InOrder.{labels_in_order, labels_listed}
use Rattle.train_track.proofs.LeftOut.{placed_from}

pub free_placed : LabelLaws → (ts : List (List ℤ)) (w : List ℕ) → ArePlaced ts (free_corners ts w)
free_placed labels ts w =
    placed_from ts (free_corners ts w)
    (All-filter (λ x. corner_count ts w x == 0) (IsLabel ts) (ordered_labels ts) (labels_listed labels ts))
    (AllPairs-filter (λ x y. rank x < rank y) (λ x. corner_count ts w x == 0) (ordered_labels ts) (labels_in_order labels ts))
