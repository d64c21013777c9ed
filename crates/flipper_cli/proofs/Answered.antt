-- What a command answers, from what was found and what was made of it.
use Rattle.std.proofs.Common.{◌≡◌, ◌⊎◌, inl, inr, ℕ, List, Option, Some, None, Result, Ok, Err, Vec, IfOk}
use Rattle.std.proofs.Common.{IsErrAnd, IsErrOf, refl, sym, subst, ap, ◌∙◌}
use Rattle.std.specs.declared.alloc.Global.{Global}
use Rattle.flip_io.specs.Files.{Files}
use Rattle.tri_atlas.specs.Moves.{Move}
use Rattle.surface_lib.specs.Described.{Described, described}
use Rattle.surface_lib.specs.declared.error.WordError.{WordError}
use Rattle.surface_lib.specs.declared.surface.Surface.{Surface}
use Rattle.flipper_cli.specs.Answers.{Report, refused}
use Rattle.flipper_cli.specs.Commands.{Command, Source, check, source_in, IsReadFrom}
use Rattle.flipper_cli.specs.Coordinates.{numbers_in}
use Rattle.flipper_cli.specs.ReadNames.{IsCertificateOf}
use Rattle.flipper_cli.specs.Report.{IsFound, IsSurfaceReport, IsVectorReport, IsNumbersReport, IsWordReport}
use Rattle.flipper_cli.specs.Report.{IsImageReport}
use Rattle.flipper_cli.specs.Run.{IsAnswer, IsOver}
use Rattle.flipper_cli.specs.inside.CertificateFiles.{IsCheckedOutput}
use Rattle.flipper_cli.specs.inside.Places.{IsPlaced, IsSettled}
use Rattle.flipper_cli.specs.inside.Shown.{IsOutputOf, IsTrueOutput, as_output, made_as}
use Rattle.flipper_cli.specs.inside.Sources.{IsFoundUnless}
use Rattle.flipper_cli.specs.declared.answers.Output.{Output}
use Rattle.flipper_cli.specs.declared.answers.Output.TheVariants.{Success, FailedRule}
use Rattle.flipper_cli.specs.declared.coordinates.NumbersError.{NumbersError}
use Rattle.flipper_cli.specs.declared.refusal.Refusal.{Refusal}
use Rattle.flipper_cli.specs.declared.refusal.Refusal.TheVariants.{Absent, Failed, Memory}

-- ---- the coordinates were read, and the word

pub numbers_reported : (d : Described) (IsAnswered : List ℕ → Report → Type 0) (coordinates w : List ℕ) (r : Report)
    (NoMemory : Type 0) → numbers_in coordinates ≡ Ok w → IsVectorReport d IsAnswered w r ⊎ NoMemory
    → IsNumbersReport d IsAnswered (numbers_in coordinates) r ⊎ NoMemory
numbers_reported d IsAnswered coordinates w r NoMemory are_numbers (inr short) = inr short
numbers_reported d IsAnswered coordinates w r NoMemory are_numbers (inl h) =
    inl (subst (λ (x : Result (List ℕ) NumbersError). IsNumbersReport d IsAnswered x r) (sym are_numbers) h)

pub image_reported : (d : Described) (word : Result (List Move) WordError) (moves : List Move) (coordinates w : List ℕ)
    (r : Report) (NoMemory : Type 0) → word ≡ Ok moves → numbers_in coordinates ≡ Ok w
    → IsVectorReport d (IsImageReport d moves) w r ⊎ NoMemory → IsWordReport d word coordinates r ⊎ NoMemory
image_reported d word moves coordinates w r NoMemory is_word are_numbers answered =
    elim (numbers_reported d (IsImageReport d moves) coordinates w r NoMemory are_numbers answered) [
      | inl h ↦ inl (subst (λ (x : Result (List Move) WordError). IsWordReport d x coordinates r) (sym is_word) h)
      | inr short ↦ inr short
    ]

-- ---- a command that fails no rule

pub success_some : (Says : Files → Output → Type 0) (made : Result (Vec ℕ Global) Refusal) (r : Result Output Refusal)
    → r ≡ as_output made → IfOk made (λ bytes. Says (λ name. None) (Success bytes))
    → IfOk r (λ output. (later : Files) × Says later output)
success_some Says (Ok bytes) r is h =
    subst (λ (z : Result Output Refusal). IfOk z (λ output. (later : Files) × Says later output)) (sym is)
    (λ (name : List ℕ). None, h)
success_some Says (Err e) r is h =
    subst (λ (z : Result Output Refusal). IfOk z (λ output. (later : Files) × Says later output)) (sym is) tt

-- ---- a certificate that was checked

pub checked_output : (source : Source) (word certificate : List ℕ) (d : Described) (files : Files)
    (r : Result Output Refusal) → IfOk r (λ output. IsCheckedOutput d word (files certificate) output)
    → IfOk r (λ output. IsTrueOutput (check source word certificate) d files output)
checked_output source word certificate d files (Ok (Success bytes)) h = h
checked_output source word certificate d files (Ok (FailedRule bytes)) h = h
checked_output source word certificate d files (Err e) h = tt

pub checked_some : (source : Source) (word certificate : List ℕ) (d : Described) (r : Result Output Refusal)
    → IfOk r (λ output. (bytes : List ℕ) × IsCheckedOutput d word (Some bytes) output)
    → IfOk r (λ output. (later : Files) × IsTrueOutput (check source word certificate) d later output)
checked_some source word certificate d (Ok (Success bytes)) (file, h) = (λ (name : List ℕ). Some file, h)
checked_some source word certificate d (Ok (FailedRule bytes)) (file, h) = (λ (name : List ℕ). Some file, h)
checked_some source word certificate d (Err e) h = tt

-- ---- over which files

no_files : (files : Files) → None ≡ Some files → ⊥
no_files files is = cc

-- where the words read no file, none of the surface, and none of a certificate
pub over_source : (told : Option Files) (asked : Command) (files : Files) → IsOver told (Some asked) files
    → (told ≡ Some files) ⊎ ((name : List ℕ) → IsReadFrom (source_in asked) name → ⊥)
over_source told asked files (inl is) = inl is
over_source told asked files (inr none) =
    inr (λ (name : List ℕ) (read : IsReadFrom (source_in asked) name). none name (inl read))

pub over_certificate : (told later : Option Files) (asked : Command) (files : Files) → later ≡ told
    → IsOver told (Some asked) files
    → (later ≡ Some files) ⊎ ((name : List ℕ) → IsCertificateOf asked name → ⊥)
over_certificate told later asked files same (inl is) = inl (same ∙ is)
over_certificate told later asked files same (inr none) =
    inr (λ (name : List ℕ) (read : IsCertificateOf asked name).
    none name (inr (read, λ (f : Files) (is : None ≡ Some f). absurd (no_files f is))))

-- ---- no surface was found

refused_as : (asked : Command) (files : Files) (e : Refusal) (f : Result Surface Refusal) → f ≡ Err e
    → IsFoundUnless (IsFound files (source_in asked)) f → IsAnswer (Some asked) files (refused e)
refused_as asked files e (Ok s) is found = absurd (cc)
refused_as asked files e (Err z) is found =
    let same : z ≡ e = cc in
    elim found [
      | inl h ↦ inl (Err e, subst (λ (y : Refusal). IsFound files (source_in asked) (Err y)) same h, refl)
      | inr (inl failed) ↦ (let is_failed : e ≡ Failed = cc in inr (inl (ap refused is_failed)))
      | inr (inr short) ↦ (let is_short : e ≡ Memory = cc in inr (inr (ap refused is_short)))
    ]

pub answer_refused : (asked : Command) (files : Files) (e : Refusal) (f : Result Surface Refusal)
    (r : Result Output Refusal)
    → f ≡ Err e → IsFoundUnless (IsFound files (source_in asked)) f → IsErrAnd r (λ z. z ≡ e)
    → IsAnswer (Some asked) files (made_as r)
answer_refused asked files e f (Ok output) is found h = absurd h
answer_refused asked files e f (Err z) is found h =
    subst (λ (y : Refusal). IsAnswer (Some asked) files (refused y)) (sym h) (refused_as asked files e f is found)

-- a refusal that is handed on
pub handed_on : {X Y : Type 0} (e x : Refusal) (f : Result X Refusal) (r : Result Y Refusal) → f ≡ Err e
    → IsErrAnd r (λ z. z ≡ e) → (IsErrOf r x → IsErrOf f x) × (IsErrOf f x → IsErrOf r x)
handed_on e x f (Ok output) is h = absurd h
handed_on e x (Ok s) (Err z) is h = absurd (cc)
handed_on e x (Err y) (Err z) is h =
    let first : y ≡ e = cc in (
      λ (same : IsErrOf (Err z) x). (let last : z ≡ x = cc in ap (λ (u : Refusal). Err u) (first ∙ sym h ∙ last)),
      λ (same : IsErrOf (Err y) x). (let last : y ≡ x = cc in ap (λ (u : Refusal). Err u) (h ∙ sym first ∙ last)),
    )

-- ---- a surface was found

pub is_found : (P : Result Described Refusal → Type 0) (s : Surface) (f : Result Surface Refusal) → f ≡ Ok s
    → IsFoundUnless P f → P (Ok (described s))
is_found P s (Err e) is found = absurd (cc)
is_found P s (Ok t) is found =
    let same : t ≡ s = cc in
    elim found [
      | inl told ↦ subst (λ (u : Surface). P (Ok (described u))) same told
      | inr (inl failed) ↦ absurd (cc)
      | inr (inr short) ↦ absurd (cc)
    ]

-- an error was not found
pub found_ok : (x : Refusal) (s : Surface) (f : Result Surface Refusal) → f ≡ Ok s → IsErrOf f x → ⊥
found_ok x s (Ok t) is h = cc
found_ok x s (Err e) is h = cc

-- it is the surface over the files that are told
pub some_found : (asked : Command) (told : Option Files) (s : Surface) (f : Result Surface Refusal) → f ≡ Ok s
    → ((files : Files) → (told ≡ Some files) ⊎ ((name : List ℕ) → IsReadFrom (source_in asked) name → ⊥)
    → IsFoundUnless (IsFound files (source_in asked)) f)
    → (files : Files) → told ≡ Some files → IsFound files (source_in asked) (Ok (described s))
some_found asked told s f is found files t =
    is_found (IsFound files (source_in asked)) s f is (found files (inl t))

pub answer_told : (asked : Command) (files : Files) (s : Surface) (f : Result Surface Refusal)
    (r : Result Output Refusal)
    → f ≡ Ok s → IsFoundUnless (IsFound files (source_in asked)) f
    → IsSurfaceReport asked files (described s) (made_as r) ⊎ ((r ≡ Err Failed) ⊎ (r ≡ Err Memory))
    → IsAnswer (Some asked) files (made_as r)
answer_told asked files s f r is found (inr (inl failed)) = inr (inl (ap made_as failed))
answer_told asked files s f r is found (inr (inr short)) = inr (inr (ap made_as short))
answer_told asked files s f r is found (inl h) =
    inl (Ok (described s), is_found (IsFound files (source_in asked)) s f is found, h)

pub headline_told : (asked : Command) (files : Files) (s : Surface) (f : Result Surface Refusal)
    (r : Result Output Refusal)
    → f ≡ Ok s → IsFoundUnless (IsFound files (source_in asked)) f
    → IfOk r (λ output. IsTrueOutput asked (described s) files output)
    → IfOk r (λ output. IsOutputOf (Some asked) files files output)
headline_told asked files s f (Err e) is found h = tt
headline_told asked files s f (Ok (Success bytes)) is found h =
    (described s, is_found (IsFound files (source_in asked)) s f is found, h)
headline_told asked files s f (Ok (FailedRule bytes)) is found h =
    (described s, is_found (IsFound files (source_in asked)) s f is found, h)

pub headline_some : (asked : Command) (s : Surface) (r : Result Output Refusal)
    → (files : Files) × IsFound files (source_in asked) (Ok (described s))
    → IfOk r (λ output. (later : Files) × IsTrueOutput asked (described s) later output)
    → IfOk r (λ output. (files : Files) × (later : Files) × IsOutputOf (Some asked) files later output)
headline_some asked s (Err e) found h = tt
headline_some asked s (Ok (Success bytes)) (files, found) (later, h) = (files, later, (described s, found, h))
headline_some asked s (Ok (FailedRule bytes)) (files, found) (later, h) = (files, later, (described s, found, h))

-- ---- an answer whose line is made

no_memory : (r : Result Output Refusal) → r ≡ Err Memory → IsErrOf r Absent → ⊥
no_memory (Ok output) is h = cc
no_memory (Err e) is h =
    let first : e ≡ Memory = cc in
    let last : e ≡ Absent = cc in
    let no : Memory ≡ Absent = sym first ∙ last in
    cc

pub settled_lacks : (made settled : Result Output Refusal) (Lacks : Type 0) → IsSettled made settled
    → (IsErrOf made Absent → Lacks) → IsErrOf settled Absent → Lacks
settled_lacks made settled Lacks (inl is) there h = there (sym is ∙ h)
settled_lacks made settled Lacks (inr (placed, is)) there h = absurd (no_memory settled is h)

pub settled_lacking : (made settled : Result Output Refusal) → IsSettled made settled
    → IsErrOf made Absent → IsErrOf settled Absent
settled_lacking made settled (inl is) h = is ∙ h
settled_lacking made settled (inr (placed, is)) h = absurd (subst IsPlaced h placed)

pub settled_prints : (Says : Output → Type 0) (made settled : Result Output Refusal) → IsSettled made settled
    → IfOk made Says → IfOk settled Says
settled_prints Says made settled (inl is) h = subst (λ (r : Result Output Refusal). IfOk r Says) (sym is) h
settled_prints Says made settled (inr (placed, is)) h = subst (λ (r : Result Output Refusal). IfOk r Says) (sym is) tt
