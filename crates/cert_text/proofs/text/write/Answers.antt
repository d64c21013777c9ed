use Rattle.std.proofs.Common.{◌≤◌, ℕ, List, Some, ap, inr, subst, sym, ◌∙◌}
use Rattle.serde_json.specs.Data.{Data, depth}
use Rattle.serde_json.specs.Written.{has_float, compact_text}
use Rattle.cert_text.specs.Certificates.{seen}
use Rattle.cert_text.specs.Reading.{IsTree, body_of}
use Rattle.cert_text.specs.Texts.{certificate_data}
use Rattle.cert_text.proofs.CertificatesBack.{whole}
use Rattle.cert_text.proofs.Depths.{nests}
use Rattle.cert_text.proofs.Floats.{no_float}
use Rattle.cert_text.proofs.text.write.Goals as goal

pub returns-clause-text : goal.returns-clause-text
returns-clause-text c =
    let made = c.in_ok-value_of.ensures.tree in
    c.in_ok-to_vec.ensures.text (ap has_float made ∙ no_float (seen c.args.c.now)) ∙ ap compact_text made

pub returns-clause-tree : goal.returns-clause-tree
returns-clause-tree c =
    let made = c.in_ok-value_of.ensures.tree in
    let low = subst (λ (d : Data). depth d ≤ 127) (sym made) (nests (seen c.args.c.now)) in record {
      utf8 = c.in_ok-to_vec.ensures.utf8;
      parsed = c.in_ok-to_vec.ensures.reads_back low ∙ ap Some made;
    }

pub returns-clause-read_back : goal.returns-clause-read_back
returns-clause-read_back c =
    let k = seen c.args.c.now in
    let text = returns-clause-text c in
    let all = ap body_of text ∙ whole k ∙ sym text in
    inr (
      certificate_data k,
      subst (λ (bytes : List ℕ). IsTree bytes (certificate_data k)) (sym all) (returns-clause-tree c),
      sym c.in_ok-value_of.ensures.read_back,
    )
