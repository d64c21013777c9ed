-- What the phases know, and what they answer.
use Rattle.std.specs.Prelude.{◌<◌, ◌≤◌, ℕ, ℤ, List, MatchOption}
use Rattle.std.specs.List.{repeat}
use Rattle.tri_atlas.specs.Moves.{Move}
use Rattle.free_groupoid.specs.Periodic.{IsInnerPath}
use Rattle.cert_text.specs.CertificateLaws.{IsMeant}
use Rattle.cert_text.specs.Certificates.{seen}
use Rattle.cert_text.specs.Holds.{HoldsFor}
use Rattle.cert_text.specs.Limits.{letter_cap}
use Rattle.cert_text.specs.declared.certificate.Certificate.{Certificate}
use Rattle.periodic_cert.specs.PowerAnswers.{AreAllRefuted, IsCapped, letters_of_walks}
use Rattle.verdict_plan.specs.Verdicts.{HasNoOrder, IsVerdict}
use Rattle.verdict_plan.specs.declared.budget.Budget.{Budget}
use Rattle.verdict_plan.specs.declared.power_phase.PowerLog.{PowerLog}
use Rattle.verdict_plan.specs.declared.power_phase.Powers.{Powers}
use Rattle.verdict_plan.specs.declared.power_phase.Powers.TheVariants.{Verdict, Log}

-- the certificate is that of the verdict, holds, and means what it says
pub record IsSound (triples : List (List ℤ)) (moves : List Move) (budget : Budget) (c : Certificate)
    : Type 0 where
  pub verdict : IsVerdict triples moves budget (seen c)
  pub holds : HoldsFor triples moves (seen c)
  pub means : IsMeant triples moves (seen c)

-- none of the powers up to the limit is inner
abbrev pub AreRuledOut : List (List ℤ) → List Move → ℕ → Type 0
AreRuledOut triples moves limit =
    (k : ℕ) → 0 < k → k ≤ limit → ¬ IsInnerPath triples (repeat k moves)

-- the log of the powers up to the limit
abbrev pub IsPowerLog : List (List ℤ) → List Move → ℕ → PowerLog → Type 0
IsPowerLog triples moves limit log =
    let reasons : List (List ℤ) = letters_of_walks log.reasons.items in
    MatchOption log.capped (AreAllRefuted triples moves limit letter_cap reasons)
    (λ capped. IsCapped triples moves limit letter_cap capped.0 capped.1 reasons)

-- what the powers gave
abbrev pub IsOfPowers : List (List ℤ) → List Move → Budget → Powers → Type 0
IsOfPowers triples moves budget (Verdict c) = IsSound triples moves budget c
IsOfPowers triples moves budget (Log log) =
    IsPowerLog triples moves budget.powers log × HasNoOrder triples moves budget.powers
