use Rattle.std.proofs.Common.{◌+◌}
use Rattle.ideal_tri.specs.Vectors.{corner_count}
use Rattle.ideal_tri.proofs.Triangles.{triangle_laws}
use Rattle.ideal_tri.proofs.Drawings.States.{setting}
use Rattle.ideal_tri.proofs.Drawings.CornerCounts.{multicurve_of_counts, corners_of_counts, sum_counts}
use Rattle.ideal_tri.proofs.Drawings.LeastCounts.{tail_corner, least_count_there, least_count_least, least_count_same}
use Rattle.ideal_tri.proofs.Drawings.LeastCounts.{stripped_multicurve, corners_left, stripped_has_free, stripped_twice}
use Rattle.ideal_tri.proofs.Drawings.Round.{nonperipheral_criterion}
use Rattle.ideal_tri.proofs.laws.corner_laws.Goals as goal

pub returns : goal.returns
returns c = λ triples h. record {
  from_counts =
      λ w count long ends.
      (multicurve_of_counts triples h w count long ends, corners_of_counts triples h w count long ends);
  sum = λ u v w m k long added. (
    multicurve_of_counts triples h w (λ x. corner_count triples u x + corner_count triples v x) long
        (sum_counts triples h u v w m k added),
    corners_of_counts triples h w (λ x. corner_count triples u x + corner_count triples v x) long
        (sum_counts triples h u v w m k added),
  );
  tail = tail_corner triples (triangle_laws triples h);
  there = λ w x l. least_count_there triples w x;
  least = least_count_least triples (triangle_laws triples h);
  same = least_count_same triples (triangle_laws triples h);
  criterion = λ w runs m. nonperipheral_criterion triples w (setting triples w h m) runs;
  stripped_is = stripped_multicurve triples h;
  stripped_corners = λ w x m. corners_left triples h w m x;
  stripped_free = stripped_has_free triples h;
  stripped_again = stripped_twice triples h;
}
