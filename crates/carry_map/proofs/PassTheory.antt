-- What holds of the passes of every track, from the laws of labels, surfaces, words and tracks.
use Rattle.std.proofs.Common.{ℤ, List}
use Rattle.ideal_tri.specs.LabelLaws.{LabelLaws}
use Rattle.ideal_tri.specs.WordLaws.{WordLaws}
use Rattle.ideal_tri.specs.SurfaceLaws.{SurfaceLaws}
use Rattle.ideal_tri.specs.Triangulations.{IsTriangulation}
use Rattle.train_track.specs.Tracks.{IsSingleInTriangles}
use Rattle.train_track.specs.Branches.{IsBranchList}
use Rattle.train_track.specs.TrackLaws.{TrackLaws}
use Rattle.carry_map.specs.IterateLaws.{LoopLaws}
use Rattle.carry_map.proofs.PassFacts.{PassFacts}
use Rattle.carry_map.proofs.TrackKnown.{TrackKnown, track_known}
use Rattle.carry_map.proofs.CutWalks.{cut, labels, legal, end, split}
use Rattle.carry_map.proofs.BackwardPasses.{back}
use Rattle.carry_map.proofs.LoopPasses.{loop_rotation, loop_reduced, begun, switch, some, turned}
use Rattle.carry_map.proofs.LegalLoops.{exists}
use Rattle.carry_map.proofs.LoopCounts.{loop_counts}

facts_of : (ts : List (List ℤ)) (out : List ℤ) (bs : List (List ℤ)) → TrackKnown ts out bs → PassFacts ts out bs
facts_of ts out bs k = record {
  cut = cut ts out bs k;
  labels = labels ts out bs k;
  legal = λ x passes w l. legal ts out bs k x passes w;
  end = end ts out bs k;
  split = split ts out bs k;
  back = back ts out bs k;
  loop_rotation = loop_rotation ts out bs k;
  loop_exists = exists ts out bs k;
  loop_reduced = loop_reduced ts out bs k;
  begun = begun ts out bs k;
  switch = switch ts out bs k;
  some = some ts out bs k;
  turned = turned ts out bs k;
}

module _ (label : LabelLaws) (surface : SurfaceLaws) (word : WordLaws) (track : TrackLaws)
    (triples : List (List ℤ)) (left_out : List ℤ) (branches : List (List ℤ)) (sound : IsTriangulation triples)
    (single : IsSingleInTriangles triples left_out) (list : IsBranchList triples left_out branches) where
  pub pass_facts : PassFacts triples left_out branches
  pass_facts =
      facts_of triples left_out branches
      (track_known label surface word track triples left_out branches sound single list)

  pub loop_laws : LoopLaws triples left_out branches
  loop_laws = loop_counts word.rotations triples left_out branches pass_facts
