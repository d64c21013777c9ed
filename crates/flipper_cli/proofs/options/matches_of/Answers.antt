use Rattle.std.proofs.Common.{◌≡◌, map, string_bytes, subst, sym, true, Option, IfSome, List, ℕ}
use Rattle.std.proofs.lemmas.Result.{IfErr-weaker, IfOk-weaker}
use Rattle.flipper_cli.specs.Options.{is_short_number}
use Rattle.flipper_cli.proofs.ClapOptions.{finds_text, takes_words}
use Rattle.flipper_cli.proofs.OptionNumbers.{set_number}
use Rattle.flipper_cli.proofs.Settings.{fits_by, fits_with}
use Rattle.flipper_cli.proofs.options.matches_of.Goals as goal

pub returns : goal.returns
returns c =
    let is = c.in_ok-command.ensures in
    let words = map string_bytes c.args.words.now in
    let parse = c.try_get_matches_from in
    let some = fits_by words c.requires in
    record {
      found = IfOk-weaker parse.result _ _ (λ m has name all cut. finds_text _ words all m is (fits_with words all c.requires cut) has name)
          parse.ensures.matches;
      numbers = IfOk-weaker parse.result _ _ (λ m has name. subst (λ (o : Option (List ℕ)). IfSome o (λ text. is_short_number text ≡ true))
          (sym (finds_text _ words some.0 m is some.1 has name)) (set_number name some.0 some.1.fits))
          parse.ensures.matches;
      failed = IfErr-weaker parse.result _ _ (λ e h. h (takes_words _ words some.0 is some.1)) parse.ensures.passes;
    }
