-- The report of a call: which status, which bytes for the output and which for the error stream,
-- for its words over the files of the shelf.
use Rattle.std.specs.Prelude.{◌≡◌, ◌⊎◌, ◌<◌, ◌≤◌, ℕ, ℤ, List, length, Option, Some, None}
use Rattle.std.specs.Prelude.{Result, Ok, Err, MatchResult}
use Rattle.ideal_tri.specs.Labels.{edge_of}
use Rattle.ideal_tri.specs.Vectors.{IsMulticurve}
use Rattle.flip_io.specs.Files.{Files}
use Rattle.tri_atlas.specs.Maps.{IsImageVector, path_map}
use Rattle.tri_atlas.specs.MovedVectors.{OverflowsAt}
use Rattle.tri_atlas.specs.Moves.{Move}
use Rattle.edge_coords.specs.Coordinates.{AreSmall, Coordinates as CoordinatesAt, total_of}
use Rattle.edge_coords.specs.MovedCoordinates.{IsOverflowAlong}
use Rattle.edge_coords.specs.Refusals.{IsRefusedFor}
use Rattle.edge_coords.specs.declared.coords.CoordsError.{CoordsError}
use Rattle.edge_coords.specs.declared.coords.TheConstants.{COORDINATE_LIMIT}
use Rattle.edge_coords.specs.declared.moves.OverflowAt.{OverflowAt}
use Rattle.surface_lib.specs.BuiltinSurfaces.{builtin_named}
use Rattle.surface_lib.specs.Described.{Described}
use Rattle.surface_lib.specs.Refusals.{moves_kind, reading}
use Rattle.surface_lib.specs.SurfaceFiles.{IsReadingOf}
use Rattle.surface_lib.specs.declared.error.WordError.{WordError}
use Rattle.surface_lib.specs.declared.surface_error.SurfaceError.{SurfaceError}
use Rattle.surface_lib.specs.declared.twister.Hand.{Hand}
use Rattle.surface_lib.specs.declared.twister.TwistError.TheVariants as error
use Rattle.twist_compile.specs.TwistPaths.{IsCompiled, IsCompiledFrom, IsTwistable, exchange_images}
use Rattle.cert_checker.specs.Verdicts.{IsVerdict as IsCheckerVerdict}
use Rattle.cert_checker.specs.declared.verdict.Verdict.{Verdict}
use Rattle.cert_text.specs.Certificates.{Certificate}
use Rattle.cert_text.specs.Reading.{IsReadingOf as IsCertificateReading}
use Rattle.cert_text.specs.declared.cert_error.CertError.{CertError}
use Rattle.verdict_plan.specs.Verdicts.{IsVerdict}
use Rattle.verdict_plan.specs.declared.budget.Budget.{Budget}
use Rattle.flipper_cli.specs.Answers.{Report, printed, checked, refused}
use Rattle.flipper_cli.specs.Commands.{Command, Source, show, image, twist, classify, check, file}
use Rattle.flipper_cli.specs.Commands.{builtin, source_in}
use Rattle.flipper_cli.specs.Coordinates.{numbers_in}
use Rattle.flipper_cli.specs.Limits.{certificate_limit}
use Rattle.flipper_cli.specs.Line.{line_of}
use Rattle.flipper_cli.specs.RefusalCauses.{for_certificate, for_numbers}
use Rattle.flipper_cli.specs.Show.{show_lines}
use Rattle.flipper_cli.specs.Twists.{twist_lines}
use Rattle.flipper_cli.specs.Verdicts.{verdict_lines}
use Rattle.flipper_cli.specs.declared.coordinates.NumbersError.{NumbersError}
use Rattle.flipper_cli.specs.declared.refusal.CertificateFault.TheVariants.{FileTooLong}
use Rattle.flipper_cli.specs.declared.refusal.CoordinatesError.TheVariants.{Coords}
use Rattle.flipper_cli.specs.declared.refusal.Refusal.{Refusal}
use Rattle.flipper_cli.specs.declared.refusal.Refusal.TheVariants.{Usage, Absent, UnknownBuiltin}
use Rattle.flipper_cli.specs.declared.refusal.Refusal.TheVariants.{Surface, Word, Coordinates}
use Rattle.flipper_cli.specs.declared.refusal.Refusal.TheVariants.{Twist, Overflow}
use Rattle.flipper_cli.specs.declared.refusal.Refusal.TheVariants.{Certificate as NoCertificate}
use Rattle.flipper_cli.specs.declared.refusal.TwistFault.{TwistFault}
use Rattle.flipper_cli.specs.declared.refusal.TwistFault.TheVariants.{TotalOver, NotOneCurve}
use Rattle.flipper_cli.specs.declared.refusal.TwistFault.TheVariants.{Peripheral, Stuck}

-- ---- the surface

-- a file's reading, as the program answers it
abbrev pub as_found : Result Described SurfaceError → Result Described Refusal
as_found (Ok d) = Ok d
as_found (Err e) = Err (Surface e)

abbrev pub IsFoundIn : Option (List ℕ) → Result Described Refusal → Type 0
IsFoundIn None found = found ≡ Err Absent
IsFoundIn (Some bytes) found =
    (read : Result Described SurfaceError) × IsReadingOf IsCompiled bytes read × (found ≡ as_found read)

abbrev pub as_builtin : Option Described → Result Described Refusal
as_builtin None = Err UnknownBuiltin
as_builtin (Some d) = Ok d

-- the surface that FILE stands for over these files, or why there is none
abbrev pub IsFound : Files → Source → Result Described Refusal → Type 0
IsFound files (file name) found = IsFoundIn (files name) found
IsFound files (builtin name) found = found ≡ as_builtin (builtin_named name)

-- ---- coordinates

-- the numbers are no coordinates; or they are those of a multicurve, with numbers below 2^126, and
-- it is answered so
abbrev pub IsVectorReport : Described → (List ℕ → Report → Type 0) → List ℕ → Report → Type 0
IsVectorReport d IsAnswered w r =
    ((e : CoordsError) × IsRefusedFor d.triangles w e × (r ≡ refused (Coordinates (Coords e))))
    ⊎ (IsMulticurve d.triangles w × AreSmall w × IsAnswered w r)

abbrev pub IsNumbersReport : Described → (List ℕ → Report → Type 0) → Result (List ℕ) NumbersError
    → Report → Type 0
IsNumbersReport d IsAnswered numbers r =
    MatchResult numbers (λ w. IsVectorReport d IsAnswered w r) (λ e. r ≡ refused (for_numbers e))

-- ---- `image`, from the last step back

-- the vector, or the overflow, of a multicurve along the moves
abbrev pub IsImageReport : Described → List Move → List ℕ → Report → Type 0
IsImageReport d moves w r =
    ((o : OverflowAt) × IsOverflowAlong d.triangles w moves o × (r ≡ refused (Overflow o)))
    ⊎ (((k : ℕ) → ¬ OverflowsAt COORDINATE_LIMIT d.triangles w moves k)
    × ((v : List ℕ) × IsImageVector d.triangles w (path_map moves) v × (r ≡ printed (line_of v))))

abbrev pub IsWordReport : Described → Result (List Move) WordError → List ℕ → Report → Type 0
IsWordReport d word coordinates r =
    MatchResult word (λ moves. IsNumbersReport d (IsImageReport d moves) (numbers_in coordinates) r)
    (λ e. r ≡ refused (Word e))

-- ---- `twist`

-- why there is no twist about a multicurve: the first test that it fails
abbrev pub IsTwistFault : List (List ℤ) → List ℕ → Hand → TwistFault → Type 0
IsTwistFault triangles w hand (TotalOver n) = IsCompiled triangles w hand (Err (error.TotalOver n))
IsTwistFault triangles w hand NotOneCurve = IsCompiled triangles w hand (Err error.NotOneCurve)
IsTwistFault triangles w hand Peripheral = IsCompiled triangles w hand (Err error.Peripheral)
IsTwistFault triangles w hand (Stuck n) =
    (at : CoordinatesAt) × IsCompiled triangles w hand (Err (error.Stuck at))
    × (n ≡ total_of at.numbers)

-- the steps of the twist: the descent of the curve, the flip at its end, and the relabelling behind
abbrev pub IsStepsReport : Described → Hand → List ℕ → Report → Type 0
IsStepsReport d hand w r =
    (down : List ℕ) × (end : List (List ℤ)) × (p : ℤ) × (q : ℤ)
    × IsCompiledFrom d.triangles w down end p q
    × (r ≡ printed (twist_lines hand down (edge_of q) (exchange_images end p q)))

-- the steps of the twist about a multicurve, or why there is none
abbrev pub IsTwistReport : Described → Hand → List ℕ → Report → Type 0
IsTwistReport d hand w r =
    ((fault : TwistFault) × IsTwistFault d.triangles w hand fault × (r ≡ refused (Twist fault)))
    ⊎ (IsTwistable d.triangles w × IsStepsReport d hand w r)

-- ---- `classify`

-- the verdict on the moves of the word, and its certificate
abbrev pub IsVerdictReport : Described → List Move → Budget → Report → Type 0
IsVerdictReport d moves budget r =
    (c : Certificate) × IsVerdict d.triangles moves budget c × (r ≡ printed (verdict_lines c))

abbrev pub IsClassifyReport : Described → Result (List Move) WordError → Budget → Report → Type 0
IsClassifyReport d word budget r =
    MatchResult word (λ moves. IsVerdictReport d moves budget r) (λ e. r ≡ refused (Word e))

-- ---- `check`, from the last step back

-- a text's reading, as the program answers it
abbrev pub as_certificate : Result Certificate CertError → Result Certificate Refusal
as_certificate (Ok c) = Ok c
as_certificate (Err e) = Err (for_certificate e)

-- the certificate that a file holds, or why there is none
abbrev pub IsCertificateIn : Option (List ℕ) → Result Certificate Refusal → Type 0
IsCertificateIn None found = found ≡ Err Absent
IsCertificateIn (Some bytes) found =
    (certificate_limit < length bytes × (found ≡ Err (NoCertificate FileTooLong)))
    ⊎ (length bytes ≤ certificate_limit
    × ((read : Result Certificate CertError) × IsCertificateReading bytes read
    × (found ≡ as_certificate read)))

-- the checker's verdict on the certificate, for the moves of the word
abbrev pub IsCheckedReport : Described → List Move → Certificate → Report → Type 0
IsCheckedReport d moves c r =
    (v : Verdict) × IsCheckerVerdict d.triangles moves c v × (r ≡ checked v)

abbrev pub IsCertificateReport : Described → List Move → Option (List ℕ) → Report → Type 0
IsCertificateReport d moves certificate r =
    (found : Result Certificate Refusal) × IsCertificateIn certificate found
    × MatchResult found (λ c. IsCheckedReport d moves c r) (λ e. r ≡ refused e)

abbrev pub IsCheckReport : Described → Result (List Move) WordError → Option (List ℕ) → Report
    → Type 0
IsCheckReport d word certificate r =
    MatchResult word (λ moves. IsCertificateReport d moves certificate r) (λ e. r ≡ refused (Word e))

-- ---- the report of a call

-- the report of a command about this surface, over these files
abbrev pub IsSurfaceReport : Command → Files → Described → Report → Type 0
IsSurfaceReport (show source) files d r = r ≡ printed (show_lines d)
IsSurfaceReport (image source word coordinates) files d r =
    IsWordReport d (reading moves_kind d.generators word) coordinates r
IsSurfaceReport (twist source coordinates hand) files d r =
    IsNumbersReport d (IsTwistReport d hand) (numbers_in coordinates) r
IsSurfaceReport (classify source word budget) files d r =
    IsClassifyReport d (reading moves_kind d.generators word) budget r
IsSurfaceReport (check source word certificate) files d r =
    IsCheckReport d (reading moves_kind d.generators word) (files certificate) r

-- the report of these words, read as a command, over these files
abbrev pub IsReport : Option Command → Files → Report → Type 0
IsReport None files r = r ≡ refused Usage
IsReport (Some asked) files r =
    (found : Result Described Refusal) × IsFound files (source_in asked) found
    × MatchResult found (λ d. IsSurfaceReport asked files d r) (λ e. r ≡ refused e)
