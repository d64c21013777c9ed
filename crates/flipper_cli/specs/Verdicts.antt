-- The lines that `classify` prints of a verdict, and the line that `check` prints of the checker's.
use Rattle.std.specs.Prelude.{◌++◌, ℕ, List, codes}
use Rattle.std.specs.Fmt.{decimal}
use Rattle.cert_text.specs.Certificates.{Certificate, periodic, reducible, pseudo_anosov, unknown}
use Rattle.cert_text.specs.Texts.{certificate_text}
use Rattle.cert_checker.specs.declared.verdict.Verdict.{Verdict}
use Rattle.cert_checker.specs.declared.verdict.Verdict.TheVariants.{Accepted, NoClaim, Refused}
use Rattle.flipper_cli.specs.Line.{spaced_numbers}

-- a quotient as it is printed, not cancelled
abbrev pub quotient_text : ℕ × ℕ → List ℕ
quotient_text q = decimal q.0 ++ codes "/" ++ decimal q.1

-- the verdict itself: a reducible word's with the numbers of a multicurve that it fixes, edge by
-- edge; a pseudo-Anosov word's with the power that carries a track, and the lower and the upper
-- bound of its growth
abbrev pub verdict_text : Certificate → List ℕ
verdict_text (periodic order paths reasons) = codes "periodic " ++ decimal order
verdict_text (reducible coords) = codes "reducible " ++ spaced_numbers coords
verdict_text (pseudo_anosov track) =
    codes "pseudo-Anosov power " ++ decimal track.power
    ++ codes " growth " ++ quotient_text track.low ++ codes " " ++ quotient_text track.high
verdict_text (unknown powers capped curves tracks) = codes "unknown"

-- the line of the verdict, and the line of its certificate
abbrev pub verdict_lines : Certificate → List ℕ
verdict_lines c = verdict_text c ++ codes "\n" ++ certificate_text c ++ codes "\n"

-- ---- the checker's verdict

-- of a refused certificate the number of the first rule that fails, and the place
abbrev pub checked_text : Verdict → List ℕ
checked_text Accepted = codes "accepted"
checked_text NoClaim = codes "no claim"
checked_text (Refused rule place) =
    codes "refused rule " ++ decimal rule ++ codes " at " ++ decimal place

abbrev pub checked_line : Verdict → List ℕ
checked_line v = checked_text v ++ codes "\n"
