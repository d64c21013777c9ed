-- What certificates mean that hold. A periodic word's walks show that the power is inner, and the
-- reason at place j - 1 is a closed walk that power j moves, so that no smaller power is. A reducible
-- word's multicurve has a drawing, and of each drawing the certificate says what is meant. A
-- pseudo-Anosov word's track is carried, with all iterates of its closed walks.
use Rattle.std.proofs.Common.{◌<◌, ℕ, zero, suc, ℤ, List, [], length, slice_index_or, subst, arith}
use Rattle.std.specs.List.{repeat}
use Rattle.std.proofs.Math.Numerals.{add-one}
use Rattle.ideal_tri.specs.DrawingLaws.{DrawingLaws}
use Rattle.ideal_tri.specs.Drawings.{draw}
use Rattle.ideal_tri.specs.Strands.{IsDrawing}
use Rattle.ideal_tri.specs.Triangulations.{IsTriangulation}
use Rattle.tri_atlas.specs.MapLaws.{MapLaws}
use Rattle.tri_atlas.specs.Maps.{path_map}
use Rattle.tri_atlas.specs.Moves.{Move}
use Rattle.free_groupoid.specs.Inner.{IsKept}
use Rattle.free_groupoid.specs.InnerLaws.{IsReducedLoop}
use Rattle.free_groupoid.specs.Periodic.{IsPeriodic}
use Rattle.free_groupoid.specs.PeriodicLaws.{PeriodicLaws}
use Rattle.carry_map.specs.IterateLaws.{IterateLaws}
use Rattle.cert_text.specs.Certificates.{Certificate, periodic, reducible, pseudo_anosov, unknown}
use Rattle.cert_text.specs.CertificateLaws.{IsFixedMulticurve, IsMeant}
use Rattle.cert_text.specs.Holds.{IsPeriodicCertificate, IsReducibleCertificate, HoldsFor}
use Rattle.cert_text.proofs.CarriedTracks.{carried_for_ever}

-- each smaller power moves its reason
refuted : (triples : List (List ℤ)) (moves : List Move) (order : ℕ) (paths reasons : List (List ℤ)) (j : ℕ)
    → IsPeriodicCertificate triples moves order paths reasons → 0 < j → j < order
    → (w : List ℤ) × IsReducedLoop triples w × ¬ IsKept (path_map (repeat j moves)) w
refuted triples moves order paths reasons zero h some smaller = absurd (omega arith)
refuted triples moves order paths reasons (suc i) h some smaller =
    let inside : i < length reasons = omega (arith, h.one_reason_each) in (
      slice_index_or reasons i [],
      h.loops i inside,
      subst (λ (k : ℕ). ¬ IsKept (path_map (repeat k moves)) (slice_index_or reasons i [])) (add-one i)
          (h.moved i inside),
    )

least_power : (laws : PeriodicLaws) (triples : List (List ℤ)) (moves : List Move) (order : ℕ)
    (paths reasons : List (List ℤ)) → IsTriangulation triples
    → IsPeriodicCertificate triples moves order paths reasons → IsPeriodic triples moves order
least_power laws triples moves order paths reasons sound h =
    laws.least triples moves order sound h.positive ((λ t. slice_index_or paths t []), h.inner.inner)
    (λ j some smaller. refuted triples moves order paths reasons j h some smaller)

fixed_multicurve : (triples : List (List ℤ)) (moves : List Move) (coords : List ℕ) → DrawingLaws triples
    → IsReducibleCertificate triples moves coords → IsFixedMulticurve triples moves coords
fixed_multicurve triples moves coords drawings h =
    let drawn : IsDrawing triples coords (draw triples coords) = drawings.exists coords h.multicurve in record {
      drawn = drawn;
      nonperipheral = h.nonperipheral (draw triples coords) drawn;
      fixed = h.fixed (draw triples coords) drawn;
    }

pub meaning : (laws : PeriodicLaws) → ((triples : List (List ℤ)) → IsTriangulation triples → DrawingLaws triples)
    → MapLaws → IterateLaws → (triples : List (List ℤ)) (moves : List Move) (c : Certificate)
    → IsTriangulation triples → HoldsFor triples moves c → IsMeant triples moves c
meaning laws drawings maps iterates triples moves (periodic order paths reasons) sound h =
    least_power laws triples moves order paths reasons sound h
meaning laws drawings maps iterates triples moves (reducible coords) sound h =
    fixed_multicurve triples moves coords (drawings triples sound) h
meaning laws drawings maps iterates triples moves (pseudo_anosov c) sound h =
    carried_for_ever iterates maps triples moves c sound h
meaning laws drawings maps iterates triples moves (unknown powers capped curves tracks) sound h = tt
