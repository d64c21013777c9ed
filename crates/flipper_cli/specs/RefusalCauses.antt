-- Which refusal answers an error of a layer below: want of memory is one refusal wherever it comes.
use Rattle.cert_text.specs.declared.cert_error.CertError.{CertError}
use Rattle.cert_text.specs.declared.cert_error.CertError.TheVariants as certificate
use Rattle.edge_coords.specs.Coordinates.{total_of}
use Rattle.flip_io.specs.declared.whole.ReadError.{ReadError}
use Rattle.flip_io.specs.declared.whole.ReadError.TheVariants as read
use Rattle.surface_lib.specs.declared.error.WordError.{WordError}
use Rattle.surface_lib.specs.declared.error.WordError.TheVariants as word
use Rattle.surface_lib.specs.declared.surface_error.SurfaceError.{SurfaceError}
use Rattle.surface_lib.specs.declared.surface_error.SurfaceError.TheVariants as surface
use Rattle.surface_lib.specs.declared.builtins.BuiltinError.{BuiltinError}
use Rattle.surface_lib.specs.declared.builtins.BuiltinError.TheVariants as builtin
use Rattle.surface_lib.specs.declared.twister.TwistError.{TwistError}
use Rattle.surface_lib.specs.declared.twister.TwistError.TheVariants as error
use Rattle.flipper_cli.specs.declared.coordinates.NumbersError.{NumbersError}
use Rattle.flipper_cli.specs.declared.coordinates.NumbersError.TheVariants as numbers
use Rattle.flipper_cli.specs.declared.refusal.CertificateFault.TheVariants.{FileTooLong, NotJson}
use Rattle.flipper_cli.specs.declared.refusal.CertificateFault.TheVariants.{MissingKey, BadShape}
use Rattle.flipper_cli.specs.declared.refusal.CoordinatesError.TheVariants.{BadNumber}
use Rattle.flipper_cli.specs.declared.refusal.Refusal.{Refusal}
use Rattle.flipper_cli.specs.declared.refusal.Refusal.TheVariants.{Absent, Failed}
use Rattle.flipper_cli.specs.declared.refusal.Refusal.TheVariants.{Surface, Word, Coordinates}
use Rattle.flipper_cli.specs.declared.refusal.Refusal.TheVariants.{Twist, Certificate, UnknownBuiltin, Memory}
use Rattle.flipper_cli.specs.declared.refusal.TwistFault.TheVariants.{TotalOver, NotOneCurve}
use Rattle.flipper_cli.specs.declared.refusal.TwistFault.TheVariants.{Peripheral, Stuck}

-- of the surface's file
abbrev pub for_read : ReadError → Refusal
for_read read.Absent = Absent
for_read read.Failed = Failed
for_read read.TooLong = Surface surface.FileTooLong
for_read read.Memory = Memory

abbrev pub for_surface : SurfaceError → Refusal
for_surface surface.Memory = Memory
for_surface error = Surface error

abbrev pub for_word : WordError → Refusal
for_word word.Memory = Memory
for_word error = Word error

abbrev pub for_numbers : NumbersError → Refusal
for_numbers (numbers.BadNumber i) = Coordinates (BadNumber i)
for_numbers numbers.Memory = Memory

abbrev pub for_builtin : BuiltinError → Refusal
for_builtin builtin.UnknownBuiltin = UnknownBuiltin
for_builtin builtin.Memory = Memory

abbrev pub for_twist : TwistError → Refusal
for_twist (error.TotalOver n) = Twist (TotalOver n)
for_twist error.NotOneCurve = Twist NotOneCurve
for_twist error.Peripheral = Twist Peripheral
for_twist (error.Stuck at) = Twist (Stuck (total_of at.numbers))
for_twist error.Memory = Memory

-- of the certificate's file
abbrev pub for_unread_certificate : ReadError → Refusal
for_unread_certificate read.Absent = Absent
for_unread_certificate read.Failed = Failed
for_unread_certificate read.TooLong = Certificate FileTooLong
for_unread_certificate read.Memory = Memory

abbrev pub for_certificate : CertError → Refusal
for_certificate certificate.NotJson = Certificate NotJson
for_certificate (certificate.MissingKey k) = Certificate (MissingKey k)
for_certificate (certificate.BadShape k) = Certificate (BadShape k)
for_certificate certificate.Memory = Memory
