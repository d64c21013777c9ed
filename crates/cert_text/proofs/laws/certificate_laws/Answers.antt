use Rattle.cert_text.proofs.FixedVectors.{holds_where_passes}
use Rattle.cert_text.proofs.Meanings.{meaning}
use Rattle.cert_text.proofs.laws.certificate_laws.Goals as goal

pub returns : goal.returns
returns c = record {
  meaning =
      meaning c.periodic_laws.ensures.powers c.drawing_laws.ensures c.map_laws.ensures c.iterate_laws.ensures;
  reducible = λ triples moves coords sound loop.
      holds_where_passes triples moves coords (c.drawing_laws.ensures triples sound)
      (c.corner_laws.ensures triples sound) c.vector_laws.ensures sound loop;
}
