-- What is known from the layers below.
use Rattle.ideal_tri.specs.LabelLaws.{LabelLaws}
use Rattle.ideal_tri.specs.SurfaceLaws.{SurfaceLaws}
use Rattle.ideal_tri.specs.VertexLaws.{VertexLaws}
use Rattle.ideal_tri.specs.WordLaws.{WordLaws}
use Rattle.tri_atlas.specs.MapLaws.{MapLaws}
use Rattle.free_groupoid.specs.InnerLaws.{InnerMapLaws}
use Rattle.transition_matrix.specs.MatrixLaws.{SumLaws}
use Rattle.carry_map.specs.IterateLaws.{IterateLaws}
use Rattle.cert_text.specs.CertificateLaws.{CertificateLaws}

pub record Known : Type 0 where
  pub labels : LabelLaws
  pub words : WordLaws
  pub surfaces : SurfaceLaws
  pub vertices : VertexLaws
  pub maps : MapLaws
  pub inner : InnerMapLaws
  pub sums : SumLaws
  pub iterates : IterateLaws
  pub certificates : CertificateLaws

pub known : LabelLaws → WordLaws → SurfaceLaws → VertexLaws → MapLaws → InnerMapLaws → SumLaws → IterateLaws
    → CertificateLaws → Known
known labels words surfaces vertices maps inner sums iterates certificates = record {
  labels = labels;
  words = words;
  surfaces = surfaces;
  vertices = vertices;
  maps = maps;
  inner = inner;
  sums = sums;
  iterates = iterates;
  certificates = certificates;
}
