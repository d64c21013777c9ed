-- What a certificate that holds means.
use Rattle.std.specs.Prelude.{◌≡◌, ◌↔◌, ◌<◌, ◌≤◌, ◌*◌, ◌^◌, ℕ, ℤ, List, All, slice_index}
use Rattle.std.specs.List.{flat_map, repeat}
use Rattle.ideal_tri.specs.Words.{IsRotation, cyclic_reduce}
use Rattle.ideal_tri.specs.Drawings.{draw}
use Rattle.ideal_tri.specs.PeripheralParts.{HasFreeCorners, IsNonperipheral}
use Rattle.ideal_tri.specs.Strands.{IsDrawing, words_of}
use Rattle.ideal_tri.specs.Triangulations.{IsTriangulation}
use Rattle.ideal_tri.specs.Vectors.{IsMulticurve}
use Rattle.tri_atlas.specs.Maps.{IsFixed, IsMap, path_map}
use Rattle.tri_atlas.specs.MovedVectors.{OverflowsAt, vector_along}
use Rattle.tri_atlas.specs.Moves.{Move, ArePath}
use Rattle.edge_coords.specs.Coordinates.{AreSmall}
use Rattle.edge_coords.specs.declared.coords.TheConstants.{COORDINATE_LIMIT}
use Rattle.free_groupoid.specs.Periodic.{IsPeriodic}
use Rattle.train_track.specs.Branches.{IsBranchList}
use Rattle.train_track.specs.Tracks.{IsFilling}
use Rattle.transition_matrix.specs.Bounds.{paired, iterated}
use Rattle.transition_matrix.specs.Matrices.{IsPositivePower}
use Rattle.carry_map.specs.CarriedMaps.{IsCarried}
use Rattle.carry_map.specs.Iterates.{IsLegalLoop, CountsPasses, IsCarriedOften, IsTransition}
use Rattle.cert_text.specs.Certificates.{CarriedTrack, Certificate}
use Rattle.cert_text.specs.Certificates.{periodic, reducible, pseudo_anosov, unknown}
use Rattle.cert_text.specs.Holds.{HoldsFor, IsReducibleCertificate}
use Rattle.cert_text.specs.PseudoAnosov.{carrying_of, matrix_of, track_path, track_triangles}

-- the curves of this multicurve are drawn; there is one, and none runs round a vertex; and the word
-- carries them to themselves, up to order, rotation and direction. So the word is reducible (Farb and
-- Margalit, chapter 13)
pub record IsFixedMulticurve (triples : List (List ℤ)) (moves : List Move) (coords : List ℕ)
    : Type 0 where
  pub drawn : IsDrawing triples coords (draw triples coords)
  pub nonperipheral : IsNonperipheral triples (words_of (draw triples coords))
  pub fixed : IsFixed (path_map moves) (words_of (draw triples coords))

-- of the closed legal walk w, which passes the branches as y counts, and its n-th image v under the
-- carrying: the path taken n times takes w to v, the matrix counts the passes of v, and they lie
-- between the bounds
pub record IsIterateOf (triples : List (List ℤ)) (path : List Move) (branches : List (List ℤ))
    (c : CarriedTrack) (w : List ℤ) (y : ℕ → ℕ) (n : ℕ) (v : List ℤ) : Type 0 where
  pub legal : IsLegalLoop triples c.left_out v
  pub image : IsRotation (cyclic_reduce (flat_map (path_map (repeat n path)) w)) v
  pub passes : CountsPasses branches v (iterated (matrix_of c) n y)
  pub at_least : c.low.0 ^ n * paired (matrix_of c) (slice_index c.u) y
      ≤ c.low.1 ^ n * paired (matrix_of c) (slice_index c.u) (iterated (matrix_of c) n y)
  pub at_most : c.high.1 ^ n * paired (matrix_of c) (slice_index c.u) (iterated (matrix_of c) n y)
      ≤ c.high.0 ^ n * paired (matrix_of c) (slice_index c.u) y

-- a track fills the triangulation, and the map of the path carries it into itself, with a primitive
-- matrix of passes; and every iterate of every closed legal walk lies between the bounds, of which
-- the lower is above 1
pub record IsCarriedForEver (triples : List (List ℤ)) (path : List Move) (c : CarriedTrack)
    : Type 0 where
  pub branches : List (List ℤ)
  pub listed : IsBranchList triples c.left_out branches
  pub filling : IsFilling triples c.left_out
  pub triangles : ℕ → ℕ
  pub map : IsMap triples triples (path_map path) triangles
  pub carried : IsCarried triples c.left_out branches (path_map path) triangles (carrying_of c)
  pub matrix : IsTransition branches c.images (matrix_of c)
  pub primitive : (k : ℕ) × (0 < k) × IsPositivePower (matrix_of c) k
  pub grows : c.low.1 < c.low.0
  -- each closed legal walk passes branches, and has an n-th image
  pub counted : (w : List ℤ) → IsLegalLoop triples c.left_out w
      → (y : ℕ → ℕ) × CountsPasses branches w y
  pub images : (w : List ℤ) (n : ℕ) → IsLegalLoop triples c.left_out w
      → (v : List ℤ) × IsCarriedOften branches c.images n w v
  pub iterates : (w : List ℤ) (y : ℕ → ℕ) (n : ℕ) (v : List ℤ)
      → IsLegalLoop triples c.left_out w → CountsPasses branches w y
      → IsCarriedOften branches c.images n w v
      → IsIterateOf triples path branches c w y n v

-- the word is periodic of the certificate's order; or it fixes the certificate's multicurve
abbrev pub IsMeant : List (List ℤ) → List Move → Certificate → Type 0
IsMeant triples moves (periodic order paths reasons) = IsPeriodic triples moves order
IsMeant triples moves (reducible coords) = IsFixedMulticurve triples moves coords
IsMeant triples moves (pseudo_anosov c) =
    IsCarriedForEver (track_triangles triples c) (track_path triples moves c) c
IsMeant triples moves (unknown powers capped curves tracks) = Unit {0}

-- the test by numbers: they are a multicurve's, below the limit and not all zero, with a free corner
-- at each vertex, and the moves give them back, with no image that reaches the limit on the way (the
-- image does first where the new number of a flip does: law `overflow` of `tri_atlas`)
pub record IsFixedVector (triples : List (List ℤ)) (moves : List Move) (coords : List ℕ)
    : Type 0 where
  pub multicurve : IsMulticurve triples coords
  pub small : AreSmall coords
  pub some : ¬ All (λ n. n ≡ 0) coords
  pub free : HasFreeCorners triples coords
  pub within : (k : ℕ) → ¬ OverflowsAt COORDINATE_LIMIT triples coords moves k
  pub fixed : vector_along moves coords ≡ coords

pub record CertificateLaws : Type 0 where
  pub meaning : (triples : List (List ℤ)) (moves : List Move) (c : Certificate)
      → IsTriangulation triples → HoldsFor triples moves c → IsMeant triples moves c
  -- the certificate of a reducible word holds exactly where its numbers say so
  pub reducible : (triples : List (List ℤ)) (moves : List Move) (coords : List ℕ)
      → IsTriangulation triples → ArePath triples moves triples
      → IsReducibleCertificate triples moves coords ↔ IsFixedVector triples moves coords
