-- What is printed of the errors of words, surface files and certificates: the name of the cause, and behind
-- one space its number or its key.
use Rattle.std.specs.Prelude.{◌++◌, ℕ, ℤ, List, codes}
use Rattle.std.specs.Fmt.{decimal, signed_decimal}
use Rattle.cert_text.specs.declared.cert_error.CertKey.{CertKey}
use Rattle.cert_text.specs.declared.cert_error.CertKey.TheVariants as certificate
use Rattle.surface_lib.specs.declared.error.WordError.{WordError}
use Rattle.surface_lib.specs.declared.error.WordError.TheVariants as word
use Rattle.surface_lib.specs.declared.surface_error.Key.{Key}
use Rattle.surface_lib.specs.declared.surface_error.Key.TheVariants as key
use Rattle.surface_lib.specs.declared.surface_error.GeneratorFault.{GeneratorFault}
use Rattle.surface_lib.specs.declared.surface_error.GeneratorFault.TheVariants as fault
use Rattle.surface_lib.specs.declared.surface_error.SurfaceError.{SurfaceError}
use Rattle.surface_lib.specs.declared.surface_error.SurfaceError.TheVariants as surface

-- ---- a name, and what stands behind it

abbrev pub with_number : List ℕ → ℕ → List ℕ
with_number name n = name ++ codes " " ++ decimal n

abbrev pub with_label : List ℕ → ℤ → List ℕ
with_label name x = name ++ codes " " ++ signed_decimal x

-- a key as it stands in a surface file; the file and a generator have none
abbrev pub key_name : Key → List ℕ
key_name key.File = codes "file"
key_name key.Format = codes "format"
key_name key.Version = codes "version"
key_name key.Name = codes "name"
key_name key.Triangles = codes "triangles"
key_name key.Generators = codes "generators"
key_name key.Generator = codes "generator"
key_name key.Flips = codes "flips"
key_name key.Relabel = codes "relabel"
key_name key.Twist = codes "twist"
key_name key.Hand = codes "hand"
key_name key.Word = codes "word"

abbrev pub with_key : List ℕ → Key → List ℕ
with_key name k = name ++ codes " " ++ key_name k

-- a key as it stands in a certificate; the text itself has none
abbrev pub certificate_key_name : CertKey → List ℕ
certificate_key_name certificate.File = codes "file"
certificate_key_name certificate.Kind = codes "kind"
certificate_key_name certificate.Anchors = codes "anchors"
certificate_key_name certificate.Capped = codes "capped"
certificate_key_name certificate.Coords = codes "coords"
certificate_key_name certificate.Curves = codes "curves"
certificate_key_name certificate.Exponent = codes "exponent"
certificate_key_name certificate.Flips = codes "flips"
certificate_key_name certificate.High = codes "high"
certificate_key_name certificate.Images = codes "images"
certificate_key_name certificate.LeftOut = codes "left_out"
certificate_key_name certificate.Low = codes "low"
certificate_key_name certificate.Matrix = codes "matrix"
certificate_key_name certificate.Order = codes "order"
certificate_key_name certificate.Paths = codes "paths"
certificate_key_name certificate.Power = codes "power"
certificate_key_name certificate.Powers = codes "powers"
certificate_key_name certificate.Reasons = codes "reasons"
certificate_key_name certificate.Tracks = codes "tracks"
certificate_key_name certificate.U = codes "u"

abbrev pub with_certificate_key : List ℕ → CertKey → List ℕ
with_certificate_key name k = name ++ codes " " ++ certificate_key_name k

-- ---- words

-- want of memory has a line of its own, and is never printed here
abbrev pub word_text : WordError → List ℕ
word_text (word.BadGroup n) = with_number (codes "BadGroup") n
word_text (word.WordTooLong n) = with_number (codes "WordTooLong") n
word_text (word.EmptyPart n) = with_number (codes "EmptyPart") n
word_text (word.UnknownName n) = with_number (codes "UnknownName") n
word_text (word.BadPower n) = with_number (codes "BadPower") n
word_text (word.PartsOver n) = with_number (codes "PartsOver") n
word_text (word.FlipsOver n) = with_number (codes "FlipsOver") n
word_text (word.MovesOver n) = with_number (codes "MovesOver") n
word_text word.Memory = codes "Memory"

-- ---- surface files

abbrev pub fault_text : GeneratorFault → List ℕ
fault_text (fault.MissingKey k) = with_key (codes "MissingKey") k
fault_text (fault.BadShape k) = with_key (codes "BadShape") k
fault_text fault.BadName = codes "BadName"
fault_text fault.SameName = codes "SameName"
fault_text (fault.TooManyFlips n) = with_number (codes "TooManyFlips") n
fault_text (fault.NotEdge j) = with_number (codes "NotEdge") j
fault_text (fault.NotFlippable j) = with_number (codes "NotFlippable") j
fault_text (fault.WrongLength n) = with_number (codes "WrongLength") n
fault_text (fault.NotLabel j) = with_number (codes "NotLabel") j
fault_text (fault.NotBijective x) = with_number (codes "NotBijective") x
fault_text (fault.BreaksTriangle t) = with_number (codes "BreaksTriangle") t
fault_text (fault.OddTriangle t) = with_number (codes "OddTriangle") t
fault_text (fault.LongSide t) = with_number (codes "LongSide") t
fault_text (fault.TotalOver n) = with_number (codes "TotalOver") n
fault_text fault.NotOneCurve = codes "NotOneCurve"
fault_text fault.Peripheral = codes "Peripheral"
fault_text (fault.Stuck n) = with_number (codes "Stuck") n
fault_text (fault.Word error) = codes "word " ++ word_text error

abbrev pub surface_text : SurfaceError → List ℕ
surface_text surface.FileTooLong = codes "FileTooLong"
surface_text surface.NotJson = codes "NotJson"
surface_text (surface.MissingKey k) = with_key (codes "MissingKey") k
surface_text (surface.BadShape k) = with_key (codes "BadShape") k
surface_text surface.NoTriangle = codes "NoTriangle"
surface_text (surface.TooManyEdges n) = with_number (codes "TooManyEdges") n
surface_text (surface.LabelRange x) = with_label (codes "LabelRange") x
surface_text (surface.LabelTwice x) = with_label (codes "LabelTwice") x
surface_text (surface.Disconnected t) = with_number (codes "Disconnected") t
surface_text (surface.TooManyGenerators n) = with_number (codes "TooManyGenerators") n
surface_text (surface.Generator i f) =
    with_number (codes "generator") i ++ codes " " ++ fault_text f
surface_text surface.Memory = codes "Memory"
