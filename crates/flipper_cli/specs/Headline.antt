-- The program's claim. Each vector that `image` prints is the image of the given multicurve under
-- the map of the word, which composes the maps of its generators, the leftmost first, backwards
-- for inverse parts: the multicurve is drawn by curves, and the vector counts, edge by edge, how
-- often the images of these cross it, each taken along by the map and cyclically reduced. All
-- drawings of a multicurve have the same curves (`ideal_tri::drawing_laws`), so it is one image.
-- What `show` prints is true of the surface.
-- The steps that `twist` prints are those of the Dehn twist about the given curve, by its descent:
-- the path that they name, backwards for the hand minus, has the map of the twist of that hand, and
-- fixes the curve.
-- Each verdict of `classify` other than unknown carries a certificate that the checker accepts
-- exactly where it holds. It holds, so that the checker accepts it, and means what it says:
-- `periodic K` that the K-th power of the word's map is the first that is inner; `reducible` and a
-- vector that this is a multicurve's, with at least one curve and none that runs round a vertex, and
-- that the word's map carries its curves to themselves, up to order, rotation and direction, so that
-- its image is itself; `pseudo-Anosov power M growth P/Q P/Q` that a train track fills the
-- triangulation behind the printed flips, that the map of the flips backwards, the word M times and
-- the flips carries it into itself, with a primitive matrix of passes, and that every iterate of
-- every closed legal walk lies between the printed bounds, the lower first, which is above 1
-- (`IsMeant` of `cert_text`). The powers are tried first, then the candidates for such a vector, then
-- those for a track. With `unknown` comes a true log of what was tried.
-- What `check` prints is the checker's verdict on the certificate that CERT holds, for the word:
-- `accepted` exactly where it claims a verdict and holds, and then it means what it says, wherever it
-- comes from, and no positive power of a word that it calls pseudo-Anosov is inner; `no claim`
-- exactly where it claims none; and else, with a status of its own, the first rule that fails.
use Rattle.std.specs.Prelude.{◌≡◌, ℕ, ℤ, List, Option, Some, None, Ok}
use Rattle.cert_checker.specs.Verdicts.{IsClaim, IsExact, IsNeverInner}
use Rattle.cert_checker.specs.Verdicts.{IsVerdict as IsCheckerVerdict}
use Rattle.cert_checker.specs.declared.verdict.Verdict.{Verdict}
use Rattle.cert_checker.specs.declared.verdict.Verdict.TheVariants.{Accepted}
use Rattle.flip_io.specs.Files.{Files}
use Rattle.ideal_tri.specs.Drawings.{draw}
use Rattle.ideal_tri.specs.Labels.{edge_of}
use Rattle.ideal_tri.specs.Strands.{IsDrawing}
use Rattle.tri_atlas.specs.Maps.{IsImageVector, path_map}
use Rattle.tri_atlas.specs.Moves.{Move}
use Rattle.surface_lib.specs.Described.{Described}
use Rattle.surface_lib.specs.Refusals.{moves_kind, reading}
use Rattle.surface_lib.specs.declared.twister.Hand.{Hand}
use Rattle.twist_compile.specs.TwistLaws.{IsTwist}
use Rattle.twist_compile.specs.TwistPaths.{IsCompiledFrom, IsTwistable, exchange_images}
use Rattle.twist_compile.specs.TwistPaths.{hand_moves, plus_moves}
use Rattle.cert_text.specs.CertificateLaws.{IsMeant}
use Rattle.cert_text.specs.Certificates.{Certificate}
use Rattle.cert_text.specs.Holds.{HoldsFor}
use Rattle.verdict_plan.specs.Verdicts.{IsVerdict}
use Rattle.verdict_plan.specs.declared.budget.Budget.{Budget}
use Rattle.flipper_cli.specs.Answers.{Report, printed, rule_failed, checked}
use Rattle.flipper_cli.specs.Commands.{Command, show, image, twist, classify, check, source_in}
use Rattle.flipper_cli.specs.Coordinates.{numbers_in}
use Rattle.flipper_cli.specs.Line.{line_of}
use Rattle.flipper_cli.specs.Report.{IsCertificateIn, IsFound}
use Rattle.flipper_cli.specs.Show.{show_lines}
use Rattle.flipper_cli.specs.Twists.{twist_lines}
use Rattle.flipper_cli.specs.Verdicts.{verdict_lines}

-- the line printed for a multicurve is that of its image under the map of the word's moves
pub record IsImageLine (d : Described) (word coordinates printed : List ℕ) : Type 0 where
  pub moves : List Move
  pub multicurve : List ℕ
  pub vector : List ℕ
  pub of_word : reading moves_kind d.generators word ≡ Ok moves
  pub of_coordinates : numbers_in coordinates ≡ Ok multicurve
  pub is_drawn : IsDrawing d.triangles multicurve (draw d.triangles multicurve)
  pub is_image : IsImageVector d.triangles multicurve (path_map moves) vector
  pub is_printed : printed ≡ line_of vector

-- the lines printed for a curve that passes the tests are the steps of its twist; the path of these
-- steps, backwards for the hand minus, is the twist of the hand
pub record AreTwistSteps (triangles : List (List ℤ)) (curve : List ℕ) (hand : Hand)
    (printed : List ℕ) : Type 0 where
  pub down : List ℕ
  pub end : List (List ℤ)
  pub p : ℤ
  pub q : ℤ
  pub is_twistable : IsTwistable triangles curve
  pub are_steps : IsCompiledFrom triangles curve down end p q
  pub is_twist : IsTwist triangles curve down p q hand
      (hand_moves hand (plus_moves triangles down end p q))
  pub is_printed : printed ≡ twist_lines hand down (edge_of q) (exchange_images end p q)

-- the lines printed for coordinates and a hand are those of the twist about their curve
pub record IsTwistLines (d : Described) (coordinates : List ℕ) (hand : Hand) (printed : List ℕ)
    : Type 0 where
  pub curve : List ℕ
  pub of_coordinates : numbers_in coordinates ≡ Ok curve
  pub are_steps : AreTwistSteps d.triangles curve hand printed

-- where the certificate claims a verdict, the checker accepts it: no other answer is exact
abbrev pub IsAccepted : List (List ℤ) → List Move → Certificate → Type 0
IsAccepted triangles moves c =
    IsClaim c → (v : Verdict) → IsExact triangles moves c v → v ≡ Accepted

-- the lines printed for a word are those of its verdict, and the certificate holds
pub record IsVerdictLines (d : Described) (word : List ℕ) (budget : Budget) (printed : List ℕ)
    : Type 0 where
  pub moves : List Move
  pub certificate : Certificate
  pub of_word : reading moves_kind d.generators word ≡ Ok moves
  pub is_verdict : IsVerdict d.triangles moves budget certificate
  pub holds : HoldsFor d.triangles moves certificate
  pub means : IsMeant d.triangles moves certificate
  pub is_accepted : IsAccepted d.triangles moves certificate
  pub is_printed : printed ≡ verdict_lines certificate

-- the answer is the checker's verdict on the certificate that the file holds, for a word: accepted
-- exactly where it claims a verdict and holds, and then it means what it says; no claim where it
-- claims none; and otherwise the first rule that fails
pub record IsCheckedFor (d : Described) (word : List ℕ) (file : Option (List ℕ)) (answer : Report)
    : Type 0 where
  pub moves : List Move
  pub certificate : Certificate
  pub verdict : Verdict
  pub of_word : reading moves_kind d.generators word ≡ Ok moves
  pub of_file : IsCertificateIn file (Ok certificate)
  pub is_verdict : IsCheckerVerdict d.triangles moves certificate verdict
  pub exact : IsExact d.triangles moves certificate verdict
  pub means : verdict ≡ Accepted → IsMeant d.triangles moves certificate
  pub never_inner : verdict ≡ Accepted → IsNeverInner d.triangles moves certificate
  pub is_answered : answer ≡ checked verdict

-- what a command printed about a surface, with status 0, over these files of the certificate
abbrev pub IsPrinted : Command → Described → Files → List ℕ → Type 0
IsPrinted (show source) d files line = line ≡ show_lines d
IsPrinted (image source word coordinates) d files line = IsImageLine d word coordinates line
IsPrinted (twist source coordinates hand) d files line = IsTwistLines d coordinates hand line
IsPrinted (classify source word budget) d files line = IsVerdictLines d word budget line
IsPrinted (check source word certificate) d files line =
    IsCheckedFor d word (files certificate) (printed line)

-- what was printed with the status of a rule that fails: `check` alone has it
abbrev pub IsFailedLine : Command → Described → Files → List ℕ → Type 0
IsFailedLine (check source word certificate) d files line =
    IsCheckedFor d word (files certificate) (rule_failed line)
IsFailedLine _ d files line = ⊥

-- what the program printed, with status 0, for a command over these files: it is true of the
-- surface that FILE stands for. Over a shelf that tells its files, those read later for a
-- certificate are the same; else they may have changed
abbrev pub IsHeadline : Option Command → (files later : Files) → List ℕ → Type 0
IsHeadline None files later line = ⊥
IsHeadline (Some asked) files later line =
    (d : Described) × IsFound files (source_in asked) (Ok d) × IsPrinted asked d later line

-- and with the status of a rule that fails
abbrev pub IsRuleLine : Option Command → (files later : Files) → List ℕ → Type 0
IsRuleLine None files later line = ⊥
IsRuleLine (Some asked) files later line =
    (d : Described) × IsFound files (source_in asked) (Ok d) × IsFailedLine asked d later line
