-- What the checker answers of a certificate. The word's path runs from the triangulation to itself,
-- and these are its moves.
use Rattle.std.specs.Prelude.{◌≡◌, ◌<◌, ◌↔◌, ℕ, ℤ, List}
use Rattle.std.specs.List.{repeat}
use Rattle.tri_atlas.specs.Moves.{Move}
use Rattle.free_groupoid.specs.Periodic.{IsInnerPath}
use Rattle.cert_text.specs.Certificates.{Certificate, periodic, reducible, pseudo_anosov, unknown}
use Rattle.cert_text.specs.Holds.{HoldsFor}
use Rattle.cert_checker.specs.PeriodicRules.{IsPeriodicRefusal}
use Rattle.cert_checker.specs.TrackRefusals.{IsTrackRefusal}
use Rattle.cert_checker.specs.VectorRules.{IsReducibleRefusal}
use Rattle.cert_checker.specs.declared.verdict.Verdict.{Verdict}
use Rattle.cert_checker.specs.declared.verdict.Verdict.TheVariants.{Accepted, NoClaim, Refused}

-- the certificate claims a verdict
abbrev pub IsClaim : Certificate → Type 0
IsClaim (periodic order paths reasons) = Unit {0}
IsClaim (reducible coords) = Unit {0}
IsClaim (pseudo_anosov track) = Unit {0}
IsClaim (unknown powers capped curves tracks) = ⊥

-- this rule is the first that fails, at this place
abbrev pub IsRefusal : List (List ℤ) → List Move → Certificate → ℕ → ℕ → Type 0
IsRefusal triples moves (periodic order paths reasons) rule place =
    IsPeriodicRefusal triples moves order paths reasons rule place
IsRefusal triples moves (reducible coords) rule place =
    IsReducibleRefusal triples moves coords rule place
IsRefusal triples moves (pseudo_anosov track) rule place =
    IsTrackRefusal triples moves track rule place
IsRefusal triples moves (unknown powers capped curves tracks) rule place = ⊥

-- a certificate is accepted that holds, none is where nothing is claimed, and otherwise the first
-- rule is told that fails
abbrev pub IsVerdict : List (List ℤ) → List Move → Certificate → Verdict → Type 0
IsVerdict triples moves c Accepted = IsClaim c × HoldsFor triples moves c
IsVerdict triples moves c NoClaim = ¬ IsClaim c
IsVerdict triples moves c (Refused rule place) = IsRefusal triples moves c rule place

-- where the certificate claims that the word is pseudo-Anosov, none of its positive powers is inner
abbrev pub IsNeverInner : List (List ℤ) → List Move → Certificate → Type 0
IsNeverInner triples moves (pseudo_anosov track) =
    (n : ℕ) → 0 < n → ¬ IsInnerPath triples (repeat n moves)
IsNeverInner triples moves _ = Unit {0}

-- what an answer says of a certificate: it is accepted exactly where it claims a verdict and holds
abbrev pub IsExact : List (List ℤ) → List Move → Certificate → Verdict → Type 0
IsExact triples moves c v = (v ≡ Accepted) ↔ (IsClaim c × HoldsFor triples moves c)
