use Rattle.std.proofs.Common.{ℕ, ℤ, List, Vec, ◌≡◌, length, min, refl, sym, ◌∙◌, ap, arith, rules}
use Rattle.std.specs.Global.{Global}
use Rattle.tri_atlas.specs.Arena.{triangulation}
use Rattle.free_groupoid.specs.GroupoidMaps.{substitution}
use Rattle.free_groupoid.specs.MapRefusals.{told}
use Rattle.train_track.specs.Branches.{words_of}
use Rattle.cert_text.specs.Certificates.{track_seen, walks_of}
use Rattle.cert_text.specs.PseudoAnosov.{letters_of_words}
use Rattle.cert_checker.specs.FirstFailing.{AllPass}
use Rattle.cert_checker.specs.TrackRefusals.{by_letters}
use Rattle.cert_checker.specs.inside.TrackParts.{IsImageOf}
use Rattle.cert_checker.proofs.ImageReads.{branch_count}
use Rattle.cert_checker.proofs.WalkReading.{walk_count}
use Rattle.cert_checker.proofs.ListsTogether.{few, fewer_pass, many, when_none}
use Rattle.cert_checker.proofs.images.check_images.Goals as goal

pub returns-then-letters_in-gt-LETTER_CAP-clause-refused :
    goal.returns-then-letters_in-gt-LETTER_CAP-clause-refused
returns-then-letters_in-gt-LETTER_CAP-clause-refused c =
    let images : List (Vec ℤ Global) = c.args.c.now.images.items in
    let branches : List (List ℤ) = words_of c.args.site.now.track.branches in
    let Passes : ℕ → Type 0 = IsImageOf (triangulation c.args.atlas.now c.args.site.now.track.tri)
    c.args.site.now.track.left_out (substitution c.args.site.now.map.images) (track_seen c.args.c.now) branches in
    let long : c.len-given.result ≡ length images = search rules in
    let count : length c.branches.result.now ≡ length branches =
    branch_count c.branches.result.now c.args.site.now.track.branches c.branches.ensures in
    let same : length (walks_of images) ≡ length branches =
    walk_count images ∙ sym long ∙ c.if-given-wanted.false ∙ count in (
      refl,
      by_letters count
          (fewer_pass Passes (length branches) (min (length (walks_of images)) (length branches))
          (omega (arith, same))
          (when_none (AllPass (min (length (walks_of images)) (length branches)) Passes) c.in_ok-j.field-0 c.in_default.is
          c.in_ok-j.ensures.none))
          same
          (many (letters_of_words (walks_of images)) c.letters_in.result
          (c.letters_in.ensures
          ∙ ap (λ (us : List (Vec ℤ Global)). told (letters_of_words (walks_of us))) c.deref.ensures.value)
          c.if-letters_in-gt-LETTER_CAP.true),
    )

pub returns-clause-held : goal.returns-clause-held
returns-clause-held c =
    let images : List (Vec ℤ Global) = c.args.c.now.images.items in
    let branches : List (List ℤ) = words_of c.args.site.now.track.branches in
    let Passes : ℕ → Type 0 = IsImageOf (triangulation c.args.atlas.now c.args.site.now.track.tri)
    c.args.site.now.track.left_out (substitution c.args.site.now.map.images) (track_seen c.args.c.now) branches in
    let long : c.len-given.result ≡ length images = search rules in
    let same : length (walks_of images) ≡ length branches =
    walk_count images ∙ sym long ∙ c.if-given-wanted.false
    ∙ branch_count c.branches.result.now c.args.site.now.track.branches c.branches.ensures in
    record {
      one_each = same;
      all =
          fewer_pass Passes (length branches) (min (length (walks_of images)) (length branches))
          (omega (arith, same))
          (when_none (AllPass (min (length (walks_of images)) (length branches)) Passes) c.in_ok-j.field-0 c.in_default.is
          c.in_ok-j.ensures.none);
      few =
          few (letters_of_words (walks_of images)) c.letters_in.result
          (c.letters_in.ensures
          ∙ ap (λ (us : List (Vec ℤ Global)). told (letters_of_words (walks_of us))) c.deref.ensures.value)
          c.if-letters_in-gt-LETTER_CAP.false;
    }
