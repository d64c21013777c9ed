-- The line on the error stream: what is refused, why, and where.
use Rattle.std.specs.Prelude.{◌++◌, List, ℕ, codes}
use Rattle.edge_coords.specs.declared.coords.CoordsError.{CoordsError}
use Rattle.edge_coords.specs.declared.coords.CoordsError.TheVariants.{WrongLength, TooLarge}
use Rattle.edge_coords.specs.declared.coords.CoordsError.TheVariants.{OddTriangle, LongSide}
use Rattle.edge_coords.specs.declared.moves.OverflowAt.{OverflowAt}
use Rattle.flipper_cli.specs.ErrorTexts.{with_number, word_text, surface_text, with_certificate_key}
use Rattle.flipper_cli.specs.declared.refusal.CertificateFault.{CertificateFault}
use Rattle.flipper_cli.specs.declared.refusal.CertificateFault.TheVariants as certificate
use Rattle.flipper_cli.specs.declared.refusal.CoordinatesError.{CoordinatesError}
use Rattle.flipper_cli.specs.declared.refusal.CoordinatesError.TheVariants.{BadNumber, Coords}
use Rattle.flipper_cli.specs.declared.refusal.Refusal.{Refusal}
use Rattle.flipper_cli.specs.declared.refusal.Refusal.TheVariants.{Usage, Absent, Failed}
use Rattle.flipper_cli.specs.declared.refusal.Refusal.TheVariants.{UnknownBuiltin}
use Rattle.flipper_cli.specs.declared.refusal.Refusal.TheVariants.{Surface, Word, Coordinates}
use Rattle.flipper_cli.specs.declared.refusal.Refusal.TheVariants.{Twist, Certificate, Overflow, Memory}
use Rattle.flipper_cli.specs.declared.refusal.TwistFault.{TwistFault}
use Rattle.flipper_cli.specs.declared.refusal.TwistFault.TheVariants.{TotalOver, NotOneCurve}
use Rattle.flipper_cli.specs.declared.refusal.TwistFault.TheVariants.{Peripheral, Stuck}

abbrev pub coords_text : CoordsError → List ℕ
coords_text (WrongLength n) = with_number (codes "WrongLength") n
coords_text (TooLarge e) = with_number (codes "TooLarge") e
coords_text (OddTriangle t) = with_number (codes "OddTriangle") t
coords_text (LongSide t) = with_number (codes "LongSide") t

abbrev pub coordinates_text : CoordinatesError → List ℕ
coordinates_text (BadNumber i) = with_number (codes "BadNumber") i
coordinates_text (Coords error) = coords_text error

-- the flip, counted from 1, the edge, and the number that it was to get
abbrev pub overflow_text : OverflowAt → List ℕ
overflow_text o = with_number (codes "flip") o.flip ++ codes " "
    ++ with_number (codes "edge") o.edge ++ codes " " ++ with_number (codes "value") o.value

-- the total of the curve, or that where its descent ended
abbrev pub twist_text : TwistFault → List ℕ
twist_text (TotalOver n) = with_number (codes "TotalOver") n
twist_text NotOneCurve = codes "NotOneCurve"
twist_text Peripheral = codes "Peripheral"
twist_text (Stuck n) = with_number (codes "Stuck") n

abbrev pub certificate_text : CertificateFault → List ℕ
certificate_text certificate.FileTooLong = codes "FileTooLong"
certificate_text certificate.NotJson = codes "NotJson"
certificate_text (certificate.MissingKey k) = with_certificate_key (codes "MissingKey") k
certificate_text (certificate.BadShape k) = with_certificate_key (codes "BadShape") k

abbrev pub refusal_text : Refusal → List ℕ
refusal_text Usage = codes "usage"
refusal_text Absent = codes "shelf Absent"
refusal_text Failed = codes "shelf Failed"
refusal_text UnknownBuiltin = codes "surface UnknownBuiltin"
refusal_text (Surface error) = codes "surface " ++ surface_text error
refusal_text (Word error) = codes "word " ++ word_text error
refusal_text (Coordinates error) = codes "coordinates " ++ coordinates_text error
refusal_text (Twist fault) = codes "twist " ++ twist_text fault
refusal_text (Certificate fault) = codes "certificate " ++ certificate_text fault
refusal_text (Overflow o) = codes "overflow " ++ overflow_text o
refusal_text Memory = codes "memory"

abbrev pub line_for : Refusal → List ℕ
line_for r = codes "error: " ++ refusal_text r ++ codes "\n"
