-- The track of a certificate and the map of its path, in an arena.
use Rattle.std.specs.Prelude.{◌≡◌, ℤ, List}
use Rattle.ideal_tri.specs.Triangulations.{IsLabel}
use Rattle.tri_atlas.specs.Arena.{Arena, triangulation}
use Rattle.tri_atlas.specs.Maps.{path_map}
use Rattle.tri_atlas.specs.Moves.{Move}
use Rattle.free_groupoid.specs.GroupoidMaps.{substitution, vertex_image}
use Rattle.train_track.specs.Branches.{words_of}
use Rattle.carry_map.specs.AnchorAnswers.{IsMapOnTrack}
use Rattle.cert_text.specs.Certificates.{CarriedTrack}
use Rattle.cert_text.specs.PseudoAnosov.{track_path, track_triangles}
use Rattle.cert_checker.specs.TrackRefusals.{IsMapped}
use Rattle.cert_checker.specs.declared.sites.Site.{Site}

-- rules 12 to 14 hold. The track is the certificate's, on the triangulation behind the flips, and the
-- map is that of the path
pub record IsSite (arena : Arena) (moves : List Move) (c : CarriedTrack) (site : Site) : Type 0 where
  pub here : IsMapOnTrack arena site.track site.map
  pub tri : triangulation arena site.track.tri ≡ track_triangles (triangulation arena 0) c
  pub left_out : site.track.left_out ≡ c.left_out
  pub agrees : (x : ℤ) → IsLabel (triangulation arena site.track.tri) x
      → substitution site.map.images x ≡ path_map (track_path (triangulation arena 0) moves c) x
  pub mapped : IsMapped (triangulation arena 0) moves c (words_of site.track.branches)
      (vertex_image site.map)
