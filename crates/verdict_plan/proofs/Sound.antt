-- What the phases found is a verdict, and its certificate holds and means what it says.
use Rattle.std.proofs.Common.{◌≡◌, ◌≤◌, ◌∙◌, sym, subst, ℕ, ℤ, List, [], Option, Some, None, MatchOption, arith, refl}
use Rattle.std.proofs.Common.{ap, inl, inr}
use Rattle.std.proofs.lemmas.List.{append-nil}
use Rattle.edge_coords.specs.Coordinates.{Coordinates}
use Rattle.edge_coords.specs.declared.lines.CurveLine.{CurveLine}
use Rattle.ideal_tri.specs.PeripheralParts.{HasFreeCorners}
use Rattle.ideal_tri.specs.Triangulations.{IsTriangulation}
use Rattle.ideal_tri.specs.Vectors.{IsMulticurve}
use Rattle.tri_atlas.specs.Arena.{Arena, triangulation}
use Rattle.tri_atlas.specs.Moves.{Move, ArePath}
use Rattle.free_groupoid.specs.InnerLaws.{InnerLaws, IsReducedLoop}
use Rattle.periodic_cert.specs.PowerAnswers.{AreAllRefuted, IsCapped, IsOrder}
use Rattle.multicurve_cert.specs.Candidates.{HasSmallImage, IsNothing, Passes, image_vector}
use Rattle.multicurve_cert.specs.CurveAnswers.{IsFoundIn, kind_of, vector_of}
use Rattle.multicurve_cert.specs.PowerLaws.{PowerLaws}
use Rattle.multicurve_cert.specs.declared.curve_search.Curves.TheVariants.{Found}
use Rattle.cert_text.specs.CertificateLaws.{CertificateLaws, IsFixedVector}
use Rattle.cert_text.specs.declared.carried_track.Pa.{Pa}
use Rattle.cert_text.specs.declared.certificate.Certificate.TheVariants.{PseudoAnosov}
use Rattle.cert_text.specs.declared.lines.TrackLine.{TrackLine}
use Rattle.cert_text.specs.PseudoAnosov.{IsPseudoAnosovCertificate}
use Rattle.multicurve_cert.specs.LastTests.{PassesLast}
use Rattle.verdict_plan.specs.AllCandidates.{AreFailedCurves, AreFailedTracks, IsFoundCurve, IsFoundTrack}
use Rattle.cert_text.specs.Certificates.{pseudo_anosov, track_seen}
use Rattle.cert_text.specs.Certificates.{Certificate, periodic, reducible, unknown, seen}
use Rattle.cert_text.specs.Holds.{HoldsFor, IsPeriodicCertificate}
use Rattle.cert_text.specs.Limits.{letter_cap, order_limit}
use Rattle.cert_text.specs.declared.certificate.Certificate.{Certificate as Declared}
use Rattle.verdict_plan.specs.Verdicts.{HasNoOrder, IsVerdict}
use Rattle.verdict_plan.specs.declared.budget.Budget.{Budget}
use Rattle.verdict_plan.specs.inside.Tried.{IsSound}

-- the walks that refute the smaller powers are test walks, and these are closed and reduced
order_holds : (triples : List (List ℤ)) (moves : List Move) (limit k : ℕ) (paths reasons : List (List ℤ))
    → IsTriangulation triples → InnerLaws → limit ≤ order_limit
    → IsOrder triples moves limit letter_cap k paths reasons → IsPeriodicCertificate triples moves k paths reasons
order_holds triples moves limit k paths reasons tri laws few h = record {
  positive = (let one = h.one_reason_each in omega arith);
  within_limit = (let within = h.within_limit in omega arith);
  within_cap = h.within_cap;
  inner = h.inner;
  one_reason_each = h.one_reason_each;
  loops = λ j below.
      let first = h.refuted j below in
      subst (IsReducedLoop triples) (sym first.walk) (laws.loops triples tri first.place [] first.within);
  moved = λ j below. (h.refuted j below).moved;
}

module _ (triples : List (List ℤ)) (moves : List Move) (budget : Budget) (tri : IsTriangulation triples)
    (laws : CertificateLaws) where
  -- a certificate that is a verdict and holds means what it says
  sound_as : (c : Declared) (told : Certificate) → seen c ≡ told → IsVerdict triples moves budget told
      → HoldsFor triples moves told → IsSound triples moves budget c
  sound_as c told is verdict holds =
      let here : HoldsFor triples moves (seen c) = subst (HoldsFor triples moves) (sym is) holds in record {
        verdict = subst (IsVerdict triples moves budget) (sym is) verdict;
        holds = here;
        means = laws.meaning triples moves (seen c) tri here;
      }

  pub order_sound : InnerLaws → budget.powers ≤ order_limit → (c : Declared) (k : ℕ) (paths reasons : List (List ℤ))
      → seen c ≡ periodic k paths reasons → IsOrder triples moves budget.powers letter_cap k paths reasons
      → IsSound triples moves budget c
  order_sound tests few c k paths reasons is h =
      sound_as c (periodic k paths reasons) is h (order_holds triples moves budget.powers k paths reasons tri tests few h)

  -- the moves, taken once
  first_time : PowerLaws triples moves → ArePath triples moves triples
  first_time powers = subst (λ (ms : List Move). ArePath triples ms triples) (append-nil moves) (powers.path 1)

  -- a candidate that passes makes the last three tests
  passes_last : (number : ℕ) (numbers : List ℕ) → IsFoundCurve triples moves budget.curves number numbers
      → PassesLast triples moves numbers
  passes_last number numbers (inl first) =
      let passes : Passes triples moves (vector_of triples first.cycles number) (kind_of first.cycles number) =
      first.passes in
      record {
        some = subst (λ (v : List ℕ). ¬ IsNothing v) (sym first.are_numbers) passes.0.some;
        small = subst (HasSmallImage triples moves) (sym first.are_numbers) passes.1;
        fixed = subst (λ (v : List ℕ). image_vector triples moves v ≡ v) (sym first.are_numbers) passes.2;
      }
  passes_last number numbers (inr further) = further.2.2.2.passes.passes

  -- so its numbers are fixed by the moves
  found_vector : (arena : Arena) → triples ≡ triangulation arena 0 → PowerLaws triples moves → (number : ℕ)
      (coords : Coordinates) → PassesLast triples moves coords.numbers
      → IsFoundIn arena (Found number coords) → IsFixedVector triples moves coords.numbers
  found_vector arena base powers number coords last found =
      let curve : IsMulticurve triples coords.numbers =
      subst (λ (ts : List (List ℤ)). IsMulticurve ts coords.numbers)
      (ap (triangulation arena) found.0 ∙ sym base) found.1.multicurve in
      record {
        multicurve = curve;
        small = found.1.small;
        some = last.some;
        free = subst (λ (ts : List (List ℤ)). HasFreeCorners ts coords.numbers) (sym base) found.2;
        within = last.small;
        fixed = sym (powers.image coords.numbers curve) ∙ last.fixed;
      }

  pub reducible_sound : (arena : Arena) → triples ≡ triangulation arena 0 → PowerLaws triples moves
      → HasNoOrder triples moves budget.powers → (c : Declared) (number : ℕ) (coords : Coordinates)
      → seen c ≡ reducible coords.numbers → IsFoundCurve triples moves budget.curves number coords.numbers
      → IsFoundIn arena (Found number coords) → IsSound triples moves budget c
  reducible_sound arena base powers none c number coords is curve found =
      sound_as c (reducible coords.numbers) is (none, (number, curve))
      ((laws.reducible triples moves coords.numbers tri (first_time powers)).1
      (found_vector arena base powers number coords (passes_last number coords.numbers curve) found))

  pub unknown_sound : HasNoOrder triples moves budget.powers → (c : Declared) (reasons : List (List ℤ))
      (past : Option (ℕ × ℕ)) (curves : List CurveLine) (tracks : List TrackLine)
      → seen c ≡ unknown reasons past curves tracks
      → MatchOption past (AreAllRefuted triples moves budget.powers letter_cap reasons)
      (λ p. IsCapped triples moves budget.powers letter_cap p.0 p.1 reasons)
      → AreFailedCurves triples moves budget.curves curves → AreFailedTracks triples moves budget.tracks tracks
      → IsSound triples moves budget c
  unknown_sound none c reasons None curves tracks is log lines others =
      sound_as c (unknown reasons None curves tracks) is (log, lines, others) tt
  unknown_sound none c reasons (Some p) curves tracks is log lines others =
      sound_as c (unknown reasons (Some p) curves tracks) is (log, lines, others) tt

  pub track_sound : HasNoOrder triples moves budget.powers → (log : List CurveLine)
      → AreFailedCurves triples moves budget.curves log → (number : ℕ) (pa : Pa)
      → IsFoundTrack triples moves budget.tracks number (track_seen pa)
      → IsPseudoAnosovCertificate triples moves (track_seen pa)
      → IsSound triples moves budget (PseudoAnosov pa)
  track_sound none log lines number pa first holds =
      sound_as (PseudoAnosov pa) (pseudo_anosov (track_seen pa)) refl (none, (log, lines), (number, first)) holds
