-- Where the certificate of a carried track holds, no positive power of the word is inner.
--
-- If the n-th power is inner, so is its own power, and then that of the path on the track's triangulation: back along
-- the flips, the word so many times, and the flips. An inner map carries each closed walk to itself, up to rotation.
-- Take a closed legal walk of the track. Its n-th image is a rotation of it, so the two pass each branch equally often.
-- But the row of the certificate grows by more than 1 each time.
use Rattle.std.proofs.Common.{◌≡◌, ◌<◌, ℕ, zero, suc, ℤ, pos, List, refl, sym, subst, arith}
use Rattle.std.specs.List.{flat_map, repeat}
use Rattle.ideal_tri.specs.Triangulations.{IsTriangulation, IsLabel}
use Rattle.ideal_tri.specs.Words.{cyclic_reduce, IsRotation}
use Rattle.tri_atlas.specs.FlipPaths.{flips_along}
use Rattle.tri_atlas.specs.Maps.{path_map}
use Rattle.tri_atlas.specs.Moves.{Move, ArePath}
use Rattle.free_groupoid.specs.Periodic.{IsInnerPath}
use Rattle.transition_matrix.specs.Bounds.{iterated}
use Rattle.carry_map.specs.IterateLaws.{LoopLaws}
use Rattle.carry_map.specs.Iterates.{IsLegalLoop, CountsPasses}
use Rattle.cert_text.specs.CertificateLaws.{IsCarriedForEver, IsIterateOf}
use Rattle.cert_text.specs.Certificates.{CarriedTrack, pseudo_anosov}
use Rattle.cert_text.specs.PseudoAnosov.{IsPseudoAnosovCertificate, matrix_of, track_path, track_triangles}
use Rattle.cert_checker.proofs.GrowingCounts.{no_return}
use Rattle.cert_checker.proofs.InnerPowers.{inner_power}
use Rattle.cert_checker.proofs.Known.{Known}
use Rattle.cert_checker.proofs.LegalLoops.{closed_walk}
use Rattle.cert_checker.proofs.TransportedPowers.{carried, carried_inner, carried_often, words_agree}

-- a path from a triangulation to itself, taken several times
pub path_often : Known → (triples : List (List ℤ)) (moves : List Move) (n : ℕ) → ArePath triples moves triples
    → ArePath triples (repeat n moves) triples
path_often known triples moves zero closed = refl
path_often known triples moves (suc n) closed =
    known.maps.paths.append triples triples triples moves (repeat n moves) closed
    (path_often known triples moves n closed)

-- there is a label
some_label : (triples : List (List ℤ)) → IsTriangulation triples → IsLabel triples (pos 0)
some_label triples sound = omega (arith, sound.edges, sound.some)

module _ (known : Known) (triples : List (List ℤ)) (moves : List Move) (c : CarriedTrack)
    (sound : IsTriangulation triples) (closed : ArePath triples moves triples)
    (h : IsPseudoAnosovCertificate triples moves c) where
  abbrev target : List (List ℤ)
  target = track_triangles triples c

  abbrev path : List Move
  path = track_path triples moves c

  abbrev flips : List Move
  flips = flips_along triples c.flips

  to_target : ArePath triples flips target
  to_target = known.maps.flips.path triples c.flips sound h.flips

  sound_target : IsTriangulation target
  sound_target = known.maps.paths.end triples target flips sound to_target

  forever : IsCarriedForEver target path c
  forever = known.certificates.meaning triples moves (pseudo_anosov c) sound h

  loops : LoopLaws target c.left_out forever.branches
  loops =
      known.iterates.loops target c.left_out forever.branches sound_target forever.filling.single forever.listed

  -- ---- what an inner power does to closed legal walks

  abbrev power : List Move
  power = repeat c.power moves

  -- the n-th power of the path, on labels
  same_power : (n : ℕ) (x : ℤ) → IsLabel target x
      → path_map (repeat n path) x ≡ path_map (carried known triples target flips sound to_target (repeat n power)) x
  same_power n x label =
      carried_often known triples target flips sound to_target power n x (path_often known triples moves c.power closed)
      label

  kept : (n : ℕ) (w : List ℤ) → IsInnerPath triples (repeat n moves) → IsLegalLoop target c.left_out w
      → IsRotation (cyclic_reduce (flat_map (path_map (repeat n path)) w)) (cyclic_reduce w)
  kept n w inner legal =
      let onward : List Move = carried known triples target flips sound to_target (repeat n power) in
      let (p, k) =
      carried_inner known triples target flips sound to_target (repeat n power)
      (inner_power known triples sound c.power n moves inner) in
      let (t, walk) =
      closed_walk target c.left_out known.labels (known.surfaces.triangles target sound_target) w legal in
      subst (λ (v : List ℤ). IsRotation (cyclic_reduce v) (cyclic_reduce w))
      (sym (words_agree known target (path_map (repeat n path)) (path_map onward) w (same_power n) legal.labels))
      (known.inner.closed target (path_map onward) k.triangles p t w k.inner walk)

  -- ---- a closed legal walk is its own cyclic reduction, up to rotation

  own_reduction : (w : List ℤ) (y : ℕ → ℕ) → IsLegalLoop target c.left_out w
      → CountsPasses forever.branches w y → IsRotation (cyclic_reduce w) w
  own_reduction w y legal counts =
      subst (λ (v : List ℤ). IsRotation (cyclic_reduce v) w) (known.maps.substitutions.none w)
      (forever.iterates w y 0 w legal counts refl).image

  -- so that its n-th image is a rotation of it
  returned : (n : ℕ) (w : List ℤ) (y : ℕ → ℕ) (v : List ℤ) → IsInnerPath triples (repeat n moves)
      → IsLegalLoop target c.left_out w → CountsPasses forever.branches w y
      → IsIterateOf target path forever.branches c w y n v → IsRotation w v
  returned n w y v inner legal counts image =
      let core : List ℤ = cyclic_reduce w in
      let there : List ℤ = cyclic_reduce (flat_map (path_map (repeat n path)) w) in
      known.words.rotations.along w core v (known.words.rotations.back core w (own_reduction w y legal counts))
      (known.words.rotations.along core there v (known.words.rotations.back there core (kept n w inner legal))
      image.image)

  -- and passes each branch as often
  counted_again : (n : ℕ) (w : List ℤ) (y : ℕ → ℕ) (v : List ℤ) → IsRotation w v
      → IsIterateOf target path forever.branches c w y n v
      → CountsPasses forever.branches w (iterated (matrix_of c) n y)
  counted_again n w y v turned image = record {
    turned = image.passes.turned;
    rotation = known.words.rotations.along w v image.passes.turned turned image.passes.rotation;
    passes = image.passes.passes;
    round = image.passes.round;
    counts = image.passes.counts;
  }

  pub never_inner : (n : ℕ) → 0 < n → ¬ IsInnerPath triples (repeat n moves)
  never_inner n some inner =
      let (w, legal) = loops.exists (pos 0) (some_label target sound_target) in
      let (y, counts) = loops.counted w legal in
      let (v, often) = forever.images w n legal in
      let image : IsIterateOf target path forever.branches c w y n v =
      forever.iterates w y n v legal counts often in
      let again : CountsPasses forever.branches w (iterated (matrix_of c) n y) =
      counted_again n w y v (returned n w y v inner legal counts image) image in
      no_return known.sums forever.branches (matrix_of c) c.u c.low c.high w n y (iterated (matrix_of c) n y)
      forever.matrix.size h.growth.bounds counts some
      (loops.only w y (iterated (matrix_of c) n y) legal counts again) image.at_least
