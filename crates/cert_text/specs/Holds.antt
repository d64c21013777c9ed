-- When a certificate holds for a word, kind by kind. The word's path runs from the triangulation to
-- itself, and these are its moves.
use Rattle.std.specs.Prelude.{◌≡◌, ◌<◌, ◌≤◌, ◌+◌, ℕ, ℤ, List, [], length, slice_index_or}
use Rattle.std.specs.List.{repeat}
use Rattle.ideal_tri.specs.PeripheralParts.{IsNonperipheral}
use Rattle.ideal_tri.specs.Strands.{State, IsDrawing, words_of}
use Rattle.ideal_tri.specs.Vectors.{IsMulticurve}
use Rattle.tri_atlas.specs.Maps.{IsFixed, path_map}
use Rattle.tri_atlas.specs.MovedVectors.{OverflowsAt}
use Rattle.tri_atlas.specs.Moves.{Move}
use Rattle.edge_coords.specs.Coordinates.{AreSmall}
use Rattle.edge_coords.specs.declared.coords.TheConstants.{COORDINATE_LIMIT}
use Rattle.free_groupoid.specs.Inner.{IsKept}
use Rattle.free_groupoid.specs.InnerLaws.{IsReducedLoop}
use Rattle.free_groupoid.specs.Periodic.{AreInnerWalks, IsWithin}
use Rattle.cert_text.specs.Certificates.{Certificate, periodic, reducible, pseudo_anosov, unknown}
use Rattle.cert_text.specs.Limits.{order_limit, letter_cap}
use Rattle.cert_text.specs.PseudoAnosov.{IsPseudoAnosovCertificate}

-- the power of this order is inner by these walks, one from each triangle in order; and for each
-- smaller power there is a closed walk, cyclically reduced and not empty, that it doesn't carry to
-- itself up to rotation
pub record IsPeriodicCertificate (triples : List (List ℤ)) (moves : List Move) (order : ℕ)
    (paths reasons : List (List ℤ)) : Type 0 where
  pub positive : 0 < order
  pub within_limit : order ≤ order_limit
  pub within_cap : IsWithin triples (repeat order moves) letter_cap
  pub inner : AreInnerWalks triples (repeat order moves) paths
  pub one_reason_each : length reasons + 1 ≡ order
  pub loops : (j : ℕ) → j < length reasons → IsReducedLoop triples (slice_index_or reasons j [])
  pub moved : (j : ℕ) → j < length reasons
      → ¬ IsKept (path_map (repeat (j + 1) moves)) (slice_index_or reasons j [])

-- these are the coordinates of a multicurve, below the limit. In any drawing (all have the same
-- curves) the map carries its curves to themselves, up to order, rotation and direction; there is a
-- curve, and none runs round a vertex. And the image stays below the limit after every flip
pub record IsReducibleCertificate (triples : List (List ℤ)) (moves : List Move) (coords : List ℕ)
    : Type 0 where
  pub multicurve : IsMulticurve triples coords
  pub small : AreSmall coords
  pub fixed : (runs : List (List State)) → IsDrawing triples coords runs
      → IsFixed (path_map moves) (words_of runs)
  pub nonperipheral : (runs : List (List State)) → IsDrawing triples coords runs
      → IsNonperipheral triples (words_of runs)
  pub within : (k : ℕ) → ¬ OverflowsAt COORDINATE_LIMIT triples coords moves k

-- a certificate without a verdict claims nothing
abbrev pub HoldsFor : List (List ℤ) → List Move → Certificate → Type 0
HoldsFor triples moves (periodic order paths reasons) =
    IsPeriodicCertificate triples moves order paths reasons
HoldsFor triples moves (reducible coords) = IsReducibleCertificate triples moves coords
HoldsFor triples moves (pseudo_anosov track) = IsPseudoAnosovCertificate triples moves track
HoldsFor triples moves (unknown powers capped curves tracks) = Unit {0}
