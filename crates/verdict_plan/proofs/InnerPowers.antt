-- A power whose map is inner carries each multicurve to itself.
use Rattle.std.proofs.Common.{◌≡◌, ◌∙◌, ℕ, ℤ, List}
use Rattle.std.specs.List.{All, repeat}
use Rattle.ideal_tri.specs.Drawings.{draw}
use Rattle.ideal_tri.specs.DrawingLaws.{DrawingLaws}
use Rattle.ideal_tri.specs.Strands.{IsDrawing, words_of}
use Rattle.ideal_tri.specs.Triangulations.{IsTriangulation, IsWalk}
use Rattle.ideal_tri.specs.Vectors.{IsMulticurve}
use Rattle.ideal_tri.specs.Words.{IsCyclicallyReduced}
use Rattle.tri_atlas.specs.Maps.{IsFixed, path_map}
use Rattle.tri_atlas.specs.Moves.{Move}
use Rattle.tri_atlas.specs.VectorLaws.{VectorLaws}
use Rattle.free_groupoid.specs.InnerLaws.{InnerMapLaws}
use Rattle.free_groupoid.specs.Periodic.{IsInnerPath}
use Rattle.multicurve_cert.specs.Candidates.{image_number}
use Rattle.multicurve_cert.specs.PowerLaws.{PowerLaws}

-- words that are closed walks, with nothing to reduce
closed_words : (triples words : List (List ℤ)) → All (λ w. (t : ℕ) × IsWalk triples t w t) words
    → All IsCyclicallyReduced words → All (λ w. (t : ℕ) × IsWalk triples t w t × IsCyclicallyReduced w) words
closed_words triples words walks reduced k d below =
    ((walks k d below).0, (walks k d below).1, reduced k d below)

pub inner_fixed : (triples : List (List ℤ)) (moves : List Move) (w : List ℕ) (k : ℕ) → IsTriangulation triples
    → DrawingLaws triples → InnerMapLaws → VectorLaws → PowerLaws triples moves → IsMulticurve triples w
    → IsInnerPath triples (repeat k moves) → image_number triples moves w k ≡ w
inner_fixed triples moves w k sound drawing inner vectors powers curve is_inner =
    let drawn : IsDrawing triples w (draw triples w) = drawing.exists w curve in
    let words : List (List ℤ) = words_of (draw triples w) in
    let fixed : IsFixed (path_map (repeat k moves)) words =
    inner.curves triples (path_map (repeat k moves)) is_inner.1.triangles is_inner.0 words is_inner.1.inner
    (closed_words triples words (drawing.walks w (draw triples w) curve drawn)
    (drawing.reduced w (draw triples w) curve drawn)) in
    powers.along w k curve
    ∙ (vectors.fixed triples (repeat k moves) w (draw triples w) sound (powers.path k) curve drawn).0 fixed
