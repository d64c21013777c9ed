-- The certificate that CERT stands for, from what was read of the file, and what is answered of it.
use Rattle.std.proofs.Common.{◌≡◌, ◌⊎◌, ◌≤◌, inl, inr, ℕ, List, length, Option, Some, Result, Ok, Err, IsErrAnd}
use Rattle.std.proofs.Common.{refl, sym, subst, ap, ◌∙◌}
use Rattle.flip_io.specs.Whole.{IsWhole}
use Rattle.flip_io.specs.declared.whole.ReadError.{ReadError}
use Rattle.flip_io.specs.declared.whole.ReadError.TheVariants as read
use Rattle.tri_atlas.specs.Moves.{Move}
use Rattle.surface_lib.specs.Described.{Described}
use Rattle.surface_lib.specs.declared.error.WordError.{WordError}
use Rattle.cert_text.specs.Certificates.{Certificate as Said, seen}
use Rattle.cert_text.specs.Reading.{IsReadingOf}
use Rattle.cert_text.specs.declared.cert_error.CertError.{CertError}
use Rattle.cert_text.specs.declared.cert_error.CertError.TheVariants as error
use Rattle.cert_text.specs.declared.certificate.Certificate.{Certificate}
use Rattle.cert_checker.specs.Verdicts.{IsVerdict}
use Rattle.cert_checker.specs.declared.verdict.Verdict.{Verdict}
use Rattle.flipper_cli.specs.Answers.{checked, refused}
use Rattle.flipper_cli.specs.Limits.{certificate_limit}
use Rattle.flipper_cli.specs.RefusalCauses.{for_certificate, for_unread_certificate}
use Rattle.flipper_cli.specs.Report.{IsCertificateIn, IsCheckReport}
use Rattle.flipper_cli.specs.inside.CertificateFiles.{IsHeldUnless}
use Rattle.flipper_cli.specs.inside.Shown.{made_as, put_out}
use Rattle.flipper_cli.specs.declared.answers.Output.{Output}
use Rattle.flipper_cli.specs.declared.refusal.CertificateFault.TheVariants.{FileTooLong}
use Rattle.flipper_cli.specs.declared.refusal.Refusal.{Refusal}
use Rattle.flipper_cli.specs.declared.refusal.Refusal.TheVariants.{Absent, Failed, Memory}
use Rattle.flipper_cli.specs.declared.refusal.Refusal.TheVariants.{Certificate as NoCertificate}

-- ---- the file

pub not_read : (told : Option (List ℕ)) (e : ReadError) → IsWhole told certificate_limit (Err e)
    → IsHeldUnless (IsCertificateIn told) (Err (for_unread_certificate e))
not_read told read.Absent none =
    inl (subst (λ (t : Option (List ℕ)). IsCertificateIn t (Err Absent)) (sym none) refl)
not_read told read.Failed h = inr (inl refl)
not_read told read.Memory h = inr (inr refl)
not_read told read.TooLong (bytes, is, long) =
    inl (subst (λ (t : Option (List ℕ)). IsCertificateIn t (Err (NoCertificate FileTooLong))) (sym is)
    (inl (long, refl)))

refused_text : (bytes : List ℕ) (e : CertError) → length bytes ≤ certificate_limit
    → (e ≡ error.Memory) ⊎ IsReadingOf bytes (Err e)
    → IsHeldUnless (IsCertificateIn (Some bytes)) (Err (for_certificate e))
refused_text bytes e within (inl is) =
    subst (λ (y : CertError). IsHeldUnless (IsCertificateIn (Some bytes)) (Err (for_certificate y))) (sym is)
    (inr (inr refl))
refused_text bytes e within (inr reading) = inl (inr (within, (Err e, reading, refl)))

pub not_certificate : (told : Option (List ℕ)) (bytes : List ℕ) (e : CertError) (r : Result Certificate Refusal)
    → told ≡ Some bytes → length bytes ≤ certificate_limit → (e ≡ error.Memory) ⊎ IsReadingOf bytes (Err e)
    → IsErrAnd r (λ z. z ≡ for_certificate e) → IsHeldUnless (IsCertificateIn told) r
not_certificate told bytes e (Ok c) is within reading h = absurd h
not_certificate told bytes e (Err z) is within reading h =
    subst (λ (t : Option (List ℕ)). IsHeldUnless (IsCertificateIn t) (Err z)) (sym is)
    (subst (λ (y : Refusal). IsHeldUnless (IsCertificateIn (Some bytes)) (Err y)) (sym h)
    (refused_text bytes e within reading))

pub a_certificate : (bytes : List ℕ) (c : Certificate) → length bytes ≤ certificate_limit
    → IsReadingOf bytes (Ok (seen c)) → IsCertificateIn (Some bytes) (Ok (seen c))
a_certificate bytes c within reading = inr (within, (Ok (seen c), reading, refl))

pub certificate_held : (told : Option (List ℕ)) (bytes : List ℕ) (c : Certificate) → told ≡ Some bytes
    → length bytes ≤ certificate_limit → IsReadingOf bytes (Ok (seen c)) → IsHeldUnless (IsCertificateIn told) (Ok c)
certificate_held told bytes c is within reading =
    inl (subst (λ (t : Option (List ℕ)). IsCertificateIn t (Ok (seen c))) (sym is)
    (a_certificate bytes c within reading))

pub is_held : (P : Result Said Refusal → Type 0) (c : Certificate) (f : Result Certificate Refusal) → f ≡ Ok c
    → IsHeldUnless P f → P (Ok (seen c))
is_held P c (Err e) is held = absurd (cc)
is_held P c (Ok d) is held =
    let same : d ≡ c = cc in
    elim held [
      | inl told ↦ subst (λ (u : Certificate). P (Ok (seen u))) same told
      | inr (inl failed) ↦ absurd (cc)
      | inr (inr short) ↦ absurd (cc)
    ]

-- ---- the answer

unread_as : (d : Described) (word : Result (List Move) WordError) (moves : List Move) (file : Option (List ℕ))
    (e : Refusal) (f : Result Certificate Refusal) → word ≡ Ok moves → f ≡ Err e
    → IsHeldUnless (IsCertificateIn file) f
    → IsCheckReport d word file (refused e) ⊎ ((e ≡ Failed) ⊎ (e ≡ Memory))
unread_as d word moves file e (Ok c) is_word is held = absurd (cc)
unread_as d word moves file e (Err z) is_word is held =
    let same : z ≡ e = cc in
    elim held [
      | inl h ↦
          inl (subst (λ (w : Result (List Move) WordError). IsCheckReport d w file (refused e)) (sym is_word)
          (Err e, subst (λ (y : Refusal). IsCertificateIn file (Err y)) same h, refl))
      | inr (inl failed) ↦ (let is_failed : e ≡ Failed = cc in inr (inl is_failed))
      | inr (inr short) ↦ (let is_short : e ≡ Memory = cc in inr (inr is_short))
    ]

pub unread_reported : (d : Described) (word : Result (List Move) WordError) (moves : List Move)
    (file : Option (List ℕ)) (e : Refusal) (f : Result Certificate Refusal) (r : Result Output Refusal)
    → word ≡ Ok moves → f ≡ Err e → IsHeldUnless (IsCertificateIn file) f → IsErrAnd r (λ z. z ≡ e)
    → IsCheckReport d word file (made_as r) ⊎ ((r ≡ Err Failed) ⊎ (r ≡ Err Memory))
unread_reported d word moves file e f (Ok output) is_word is held h = absurd h
unread_reported d word moves file e f (Err z) is_word is held h =
    elim (unread_as d word moves file e f is_word is held) [
      | inl report ↦ inl (subst (λ (y : Refusal). IsCheckReport d word file (refused y)) (sym h) report)
      | inr (inl failed) ↦ inr (inl (ap (λ (y : Refusal). Err y) (h ∙ failed)))
      | inr (inr short) ↦ inr (inr (ap (λ (y : Refusal). Err y) (h ∙ short)))
    ]

pub checked_reported : (d : Described) (word : Result (List Move) WordError) (moves : List Move)
    (file : Option (List ℕ)) (c : Certificate) (f : Result Certificate Refusal) (v : Verdict) (output : Output)
    → word ≡ Ok moves → f ≡ Ok c → IsHeldUnless (IsCertificateIn file) f
    → IsVerdict d.triangles moves (seen c) v → put_out output ≡ checked v
    → IsCheckReport d word file (put_out output)
checked_reported d word moves file c f v output is_word is held verdict answered =
    subst (λ (w : Result (List Move) WordError). IsCheckReport d w file (put_out output)) (sym is_word)
    (Ok (seen c), is_held (IsCertificateIn file) c f is held, (v, verdict, answered))
