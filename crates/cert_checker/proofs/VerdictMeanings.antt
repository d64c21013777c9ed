-- What an answer of the checker says of a certificate: it is accepted exactly where it claims a verdict and holds, and
-- what holds means what it claims.
use Rattle.std.proofs.Common.{◌≡◌, ℕ, ℤ, List, Ok, Err, Result, IfOk, refl, sym, subst}
use Rattle.ideal_tri.specs.Triangulations.{IsTriangulation}
use Rattle.tri_atlas.specs.Moves.{Move, ArePath}
use Rattle.cert_text.specs.CertificateLaws.{IsMeant}
use Rattle.cert_text.specs.Certificates.{Certificate, periodic, reducible, pseudo_anosov, unknown}
use Rattle.cert_text.specs.Holds.{HoldsFor}
use Rattle.cert_checker.specs.Verdicts.{IsExact, IsNeverInner, IsRefusal, IsVerdict}
use Rattle.cert_checker.specs.declared.verdict.Verdict.{Verdict}
use Rattle.cert_checker.specs.declared.verdict.Verdict.TheVariants.{Accepted, NoClaim, Refused}
use Rattle.cert_checker.proofs.Known.{Known}
use Rattle.cert_checker.proofs.NeverInner.{never_inner}
use Rattle.cert_checker.proofs.PeriodicExclusion.{excluded as not_periodic}
use Rattle.cert_checker.proofs.TrackExclusion.{excluded as not_pseudo_anosov}
use Rattle.cert_checker.proofs.VectorExclusion.{excluded as not_reducible}

-- what is said of every value
all_ok : {T E : Type 0} (P Q : T → Type 0) (r : Result T E) → ((v : T) → P v → Q v) → IfOk r P → IfOk r Q
all_ok P Q (Ok v) f h = f v h
all_ok P Q (Err e) f h = tt

-- ---- the answers are different

abbrev WasAccepted : Verdict → Type 0
WasAccepted Accepted = Unit {0}
WasAccepted NoClaim = ⊥
WasAccepted (Refused rule place) = ⊥

accepted_once : (v : Verdict) → Accepted ≡ v → WasAccepted v
accepted_once v e = subst WasAccepted e tt

module _ (known : Known) (triples : List (List ℤ)) (moves : List Move) (sound : IsTriangulation triples)
    (closed : ArePath triples moves triples) where
  refused : (c : Certificate) (rule place : ℕ) → IsRefusal triples moves c rule place → ¬ HoldsFor triples moves c
  refused (periodic order paths reasons) rule place h =
      not_periodic known.surfaces known.maps.paths triples moves order paths reasons rule place sound closed h
  refused (reducible coords) rule place h =
      not_reducible triples moves coords rule place sound closed known.certificates h
  refused (pseudo_anosov track) rule place h =
      not_pseudo_anosov known triples moves track rule place sound closed h
  refused (unknown powers capped curves tracks) rule place h = absurd h

  exact : (c : Certificate) (v : Verdict) → IsVerdict triples moves c v → IsExact triples moves c v
  exact c Accepted h = (λ same. h, λ held. refl)
  exact c NoClaim h = (λ same. absurd (accepted_once NoClaim (sym same)), λ held. absurd (h held.0))
  exact c (Refused rule place) h = (
    λ same. absurd (accepted_once (Refused rule place) (sym same)),
    λ held. absurd (refused c rule place h held.1),
  )

  accepted : (c : Certificate) (v : Verdict) → IsVerdict triples moves c v → v ≡ Accepted → HoldsFor triples moves c
  accepted c v h is = (subst (IsVerdict triples moves c) is h).1

  never : (c : Certificate) → HoldsFor triples moves c → IsNeverInner triples moves c
  never (periodic order paths reasons) h = tt
  never (reducible coords) h = tt
  never (pseudo_anosov track) h = never_inner known triples moves track sound closed h
  never (unknown powers capped curves tracks) h = tt

  -- ---- of every answer

  pub answers_exact : (c : Certificate) {E : Type 0} (r : Result Verdict E) → IfOk r (IsVerdict triples moves c)
      → IfOk r (IsExact triples moves c)
  answers_exact c {E} r h = all_ok (IsVerdict triples moves c) (IsExact triples moves c) r (exact c) h

  pub answers_mean : (c : Certificate) {E : Type 0} (r : Result Verdict E) → IfOk r (IsVerdict triples moves c)
      → IfOk r (λ v. v ≡ Accepted → IsMeant triples moves c)
  answers_mean c {E} r h =
      all_ok (IsVerdict triples moves c) (λ v. v ≡ Accepted → IsMeant triples moves c) r
      (λ v k is. known.certificates.meaning triples moves c sound (accepted c v k is)) h

  pub answers_never_inner : (c : Certificate) {E : Type 0} (r : Result Verdict E) → IfOk r (IsVerdict triples moves c)
      → IfOk r (λ v. v ≡ Accepted → IsNeverInner triples moves c)
  answers_never_inner c {E} r h =
      all_ok (IsVerdict triples moves c) (λ v. v ≡ Accepted → IsNeverInner triples moves c) r
      (λ v k is. never c (accepted c v k is)) h
