-- What the certificate of a carried track means: every iterate of every closed legal walk is that of the path taken so
-- many times, its passes are counted by the matrix, and they grow between the bounds.
use Rattle.std.proofs.Common.{◌≡◌, ℕ, ℤ, List, subst}
use Rattle.std.specs.List.{flat_map, repeat}
use Rattle.std.proofs.Math.Path.{fun_ext}
use Rattle.ideal_tri.specs.Triangulations.{IsTriangulation}
use Rattle.ideal_tri.specs.Words.{IsRotation, cyclic_reduce}
use Rattle.tri_atlas.specs.FlipPaths.{flips_along, flipped_along}
use Rattle.tri_atlas.specs.MapLaws.{MapLaws}
use Rattle.tri_atlas.specs.Maps.{path_map}
use Rattle.tri_atlas.specs.Moves.{Move}
use Rattle.carry_map.specs.Iterates.{times}
use Rattle.carry_map.specs.IterateLaws.{IterateLaws, IsIterate}
use Rattle.cert_text.specs.Certificates.{CarriedTrack}
use Rattle.cert_text.specs.CertificateLaws.{IsIterateOf, IsCarriedForEver}
use Rattle.cert_text.specs.PseudoAnosov.{matrix_of, carrying_of, track_path, track_triangles}
use Rattle.cert_text.specs.PseudoAnosov.{IsCarriedTrack, IsGrowing, IsPseudoAnosovCertificate}

module _ (laws : IterateLaws) where
  -- the iterates of the map of a path are the maps of the path taken several times
  iterates : (path : List Move) (n : ℕ) → times n (path_map path) ≡ path_map (repeat n path)
  iterates path n = fun_ext (λ x. laws.path path n x)

  iterate : (triples : List (List ℤ)) (path : List Move) (branches : List (List ℤ)) (c : CarriedTrack) (w : List ℤ)
      (y : ℕ → ℕ) (n : ℕ) (v : List ℤ) → IsGrowing (matrix_of c) c
      → IsIterate triples c.left_out branches (path_map path) (matrix_of c) w y n v
      → IsIterateOf triples path branches c w y n v
  iterate triples path branches c w y n v growing h = record {
    legal = h.legal;
    image =
        subst (λ (f : ℤ → List ℤ). IsRotation (cyclic_reduce (flat_map f w)) v) (iterates path n) h.image;
    passes = h.passes;
    at_least = h.at_least c.u c.low c.high growing.bounds;
    at_most = h.at_most c.u c.low c.high growing.bounds;
  }

  carried : (triples : List (List ℤ)) (path : List Move) (c : CarriedTrack) → IsTriangulation triples
      → IsCarriedTrack triples path c → IsGrowing (matrix_of c) c → IsCarriedForEver triples path c
  carried triples path c sound h growing =
      let loops = laws.loops triples c.left_out h.branches sound h.filling.single h.listed in
      let every =
      laws.every triples c.left_out h.branches (path_map path) h.triangles (carrying_of c) (matrix_of c) sound
      h.filling.single h.listed h.map h.carried h.matrix in record {
        branches = h.branches;
        listed = h.listed;
        filling = h.filling;
        triangles = h.triangles;
        map = h.map;
        carried = h.carried;
        matrix = h.matrix;
        primitive = (c.exponent, growing.some, growing.positive);
        grows = growing.bounds.grows;
        counted = loops.counted;
        images = every.carried;
        iterates = λ w y n v legal counts often.
            iterate triples path h.branches c w y n v growing (every.iterates w y n v legal counts often);
      }

  pub carried_for_ever : MapLaws → (triples : List (List ℤ)) (moves : List Move) (c : CarriedTrack)
      → IsTriangulation triples → IsPseudoAnosovCertificate triples moves c
      → IsCarriedForEver (track_triangles triples c) (track_path triples moves c) c
  carried_for_ever maps triples moves c sound h =
      carried (track_triangles triples c) (track_path triples moves c) c
      (maps.paths.end triples (flipped_along triples c.flips) (flips_along triples c.flips) sound
      (maps.flips.path triples c.flips sound h.flips)) h.track h.growth
