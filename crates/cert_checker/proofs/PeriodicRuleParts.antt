-- The rules for certificates of periodic words, one after another: what fails at a rule is the refusal, and where all
-- rules hold the certificate does.
use Rattle.std.proofs.Common.{ℕ, ℤ, List, length}
use Rattle.ideal_tri.specs.Triangulations.{edge_count}
use Rattle.ideal_tri.specs.WordLaws.{ReductionLaws}
use Rattle.tri_atlas.specs.Arena.{Arena, triangulation}
use Rattle.tri_atlas.specs.MapLaws.{MapLaws}
use Rattle.tri_atlas.specs.Moves.{Move}
use Rattle.free_groupoid.specs.GroupoidMaps.{GroupoidMap, substitution, vertex_image}
use Rattle.cert_text.specs.Holds.{IsPeriodicCertificate}
use Rattle.cert_checker.specs.FirstFailing.{IsFirstFailing, AllPass}
use Rattle.cert_checker.specs.PeriodicRules.{IsPeriodicRefusal, by_reason, by_cap, by_path, by_equation, by_kept}
use Rattle.cert_checker.specs.PeriodicRules.{IsCounted, IsReason, IsTurnWithin, IsPathFrom, IsEquation, IsMoved}
use Rattle.cert_checker.specs.PeriodicRules.{IsTurned}
use Rattle.cert_checker.specs.declared.verdict.Stop.{Stop}
use Rattle.cert_checker.specs.inside.PeriodicParts.{IsPower, IsFirstFailingFromOne}
use Rattle.cert_checker.specs.inside.Stops.{IsStop, IsRule}
use Rattle.cert_checker.proofs.Stopped.{stopped}
use Rattle.cert_checker.proofs.PowerMaps.{map_of_moves, first_equation, inner_by}

module _ (arena : Arena) (moves : List Move) (order : ℕ) (paths reasons : List (List ℤ))
    (counted : IsCounted (triangulation arena 0) order paths reasons) where
  abbrev base : List (List ℤ)
  base = triangulation arena 0

  abbrev Fails : ℕ → ℕ → Type 0
  Fails = IsPeriodicRefusal base moves order paths reasons

  pub at_reason : (stop : Stop)
      → IsStop (IsRule 4 (IsFirstFailingFromOne (length reasons) (IsReason base reasons))) stop
      → IsStop Fails stop
  at_reason =
      stopped (IsRule 4 (IsFirstFailingFromOne (length reasons) (IsReason base reasons))) Fails
      (λ rule place (is, (i, at, first)). by_reason i is at counted first)

  module _ (loops : AllPass (length reasons) (IsReason base reasons)) where
    pub at_cap : (stop : Stop)
        → IsStop (IsRule 5 (IsFirstFailingFromOne order (IsTurnWithin base moves))) stop
        → IsStop Fails stop
    at_cap =
        stopped (IsRule 5 (IsFirstFailingFromOne order (IsTurnWithin base moves))) Fails
        (λ rule place (is, (i, at, first)). by_cap i is at counted loops first)

    module _ (maps : MapLaws) (f : GroupoidMap) (power : IsPower arena moves order f) where
      turned : IsTurned base moves order paths reasons (vertex_image f)
      turned = record {
        counted = counted;
        loops = loops;
        within_cap = power.within;
        map = map_of_moves maps arena moves order f power;
      }

      pub at_path : (stop : Stop)
          → IsStop (IsRule 6 (IsFirstFailing (length base) (IsPathFrom base (vertex_image f) paths))) stop
          → IsStop Fails stop
      at_path =
          stopped (IsRule 6 (IsFirstFailing (length base) (IsPathFrom base (vertex_image f) paths))) Fails
          (λ rule place (is, first). by_path (vertex_image f) is turned first)

      module _ (walks : AllPass (length base) (IsPathFrom base (vertex_image f) paths)) where
        abbrev HoldsAt : ℕ → Type 0
        HoldsAt = IsEquation base (substitution f.images) paths

        pub at_equation : (stop : Stop)
            → IsStop (IsRule 7 (IsFirstFailing (edge_count base) HoldsAt)) stop
            → IsStop Fails stop
        at_equation =
            stopped (IsRule 7 (IsFirstFailing (edge_count base) HoldsAt)) Fails
            (λ rule place (is, first). by_equation (vertex_image f) is turned walks
            (first_equation maps arena moves order f power paths place first))

        module _ (reduction : ReductionLaws) (equations : AllPass (edge_count base) HoldsAt) where
          pub at_kept : (stop : Stop)
              → IsStop (IsRule 8 (IsFirstFailingFromOne (length reasons) (IsMoved base moves reasons))) stop
              → IsStop Fails stop
          at_kept =
              stopped (IsRule 8 (IsFirstFailingFromOne (length reasons) (IsMoved base moves reasons))) Fails
              (λ rule place (is, (i, at, first)). by_kept (vertex_image f) i is at turned
              (inner_by maps arena moves order f power paths reduction counted.one_path_each walks equations) first)

          pub all_hold : AllPass (length reasons) (IsMoved base moves reasons)
              → IsPeriodicCertificate base moves order paths reasons
          all_hold moved = record {
            positive = counted.order_within.0;
            within_limit = counted.order_within.1;
            within_cap = power.within;
            inner =
                inner_by maps arena moves order f power paths reduction counted.one_path_each walks equations;
            one_reason_each = counted.one_reason_each;
            loops = loops;
            moved = moved;
          }
