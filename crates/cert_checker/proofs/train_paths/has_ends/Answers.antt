use Rattle.std.proofs.Common.{ℤ, ◌≡◌, sym, ◌∙◌, ap}
use Rattle.std.proofs.lemmas.Bool.Decides.{Decides-int_eq}
use Rattle.tri_atlas.specs.Arena.{triangulation}
use Rattle.train_track.specs.Branches.{letter_at}
use Rattle.carry_map.specs.CarriedMaps.{final, goes_to}
use Rattle.cert_text.specs.Certificates.{track_seen}
use Rattle.cert_text.specs.PseudoAnosov.{carrying_of}
use Rattle.cert_checker.proofs.BranchParts.{listed_first, listed_last}
use Rattle.cert_checker.proofs.train_paths.has_ends.Goals as goal

pub goes_to-requires-clause-listed : goal.goes_to-requires-clause-listed
goes_to-requires-clause-listed c =
    listed_first (triangulation c.args.atlas.now c.args.site.now.track.tri) c.args.site.now.track c.args.branch.now
    c.first_letter-2.result c.requires.here.here.on c.requires.branch c.first_letter-2.ensures

pub goes_to-requires-2-clause-listed : goal.goes_to-requires-2-clause-listed
goes_to-requires-2-clause-listed c =
    listed_last (triangulation c.args.atlas.now c.args.site.now.track.tri) c.args.site.now.track c.args.branch.now
    c.last_letter-2.result c.requires.here.here.on c.requires.branch c.last_letter-2.ensures

pub returns : goal.returns
returns c =
    let goes : ℤ → ℤ = goes_to c.args.site.now.track.switches (carrying_of (track_seen c.args.c.now)) in
    let begins : letter_at c.args.path.now 0 ≡ goes (letter_at c.args.branch.now 0) =
    sym c.first_letter.ensures
    ∙ c.letter_laws.ensures.agree c.first_letter.result c.goes_to.result c.ne.result c.ne.ensures c.if-ne.false
    ∙ c.goes_to.ensures ∙ ap goes c.first_letter-2.ensures in
    let end : c.goes_to-2.result ≡ goes (final c.args.branch.now) =
    c.goes_to-2.ensures ∙ ap goes c.last_letter-2.ensures in
    let test = Decides-int_eq c.last_letter.result c.goes_to-2.result in (
      λ h. (begins, sym c.last_letter.ensures ∙ test.0 (sym c.eq.ensures ∙ h) ∙ end),
      λ e. c.eq.ensures ∙ test.1 (c.last_letter.ensures ∙ e.1 ∙ sym end),
    )
