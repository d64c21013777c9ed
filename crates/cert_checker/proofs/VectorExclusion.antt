-- Where a rule refuses the certificate of a reducible word, it doesn't hold: the numbers that it holds by pass each of
-- the tests.
use Rattle.std.proofs.Common.{◌≢◌, ◌<◌, ◌≤◌, ℕ, ℤ, List, [], ap, arith}
use Rattle.std.specs.Prelude.{slice_index}
use Rattle.ideal_tri.specs.Triangulations.{IsTriangulation}
use Rattle.ideal_tri.specs.Vectors.{corner_count}
use Rattle.tri_atlas.specs.Moves.{Move, ArePath}
use Rattle.edge_coords.specs.Refusals.{IsRefusedFor}
use Rattle.edge_coords.specs.declared.coords.CoordsError.{CoordsError}
use Rattle.edge_coords.specs.declared.coords.CoordsError.TheVariants.{WrongLength, TooLarge, OddTriangle, LongSide}
use Rattle.cert_text.specs.CertificateLaws.{CertificateLaws, IsFixedVector}
use Rattle.cert_text.specs.Holds.{IsReducibleCertificate}
use Rattle.cert_checker.specs.VectorRules.{IsReducibleRefusal, by_fault, by_zero, by_vertex, by_overflow, by_edge}

not_both : (limit n : ℕ) → limit ≤ n → ¬ (n < limit)
not_both limit n large small = omega arith

not_none : (n : ℕ) → 0 < n → n ≢ 0
not_none n some none = omega (arith, none)

module _ (triples : List (List ℤ)) (moves : List Move) (coords : List ℕ) where
  no_fault : (fault : CoordsError) → IsRefusedFor triples coords fault → ¬ IsFixedVector triples moves coords
  no_fault (WrongLength n) (is, other) h = other h.multicurve.one_per_edge
  no_fault (TooLarge i) (is, least) h =
      not_both _ (slice_index coords i) least.large (h.small i 0 least.within)
  no_fault (OddTriangle t) (is, small, least) h = least.fails (h.multicurve.even t [] least.within)
  no_fault (LongSide t) (is, small, even, least) h =
      least.fails (h.multicurve.no_long_side t [] least.within)

  not_fixed : (rule place : ℕ) → IsReducibleRefusal triples moves coords rule place
      → ¬ IsFixedVector triples moves coords
  not_fixed rule place (by_fault fault is there refused) h = no_fault fault refused h
  not_fixed rule place (by_zero is there accepted zero) h = h.some zero
  not_fixed rule place (by_vertex is accepted some least) h =
      let (y, same, none) = h.free least.here.corner least.here.label in
      not_none (corner_count triples coords y) (least.here.all y same) none
  not_fixed rule place (by_overflow k is there accepted some free overflows) h = h.within k overflows
  not_fixed rule place (by_edge is accepted some free within first) h =
      first.fails (ap (λ (w : List ℕ). slice_index w place) h.fixed)

  pub excluded : (rule place : ℕ) → IsTriangulation triples → ArePath triples moves triples → CertificateLaws
      → IsReducibleRefusal triples moves coords rule place → ¬ IsReducibleCertificate triples moves coords
  excluded rule place sound path laws refused h =
      not_fixed rule place refused ((laws.reducible triples moves coords sound path).0 h)
