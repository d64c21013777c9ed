-- Generators of an atlas that has grown.
use Rattle.std.proofs.Common.{◌≡◌, ℤ, List, [], ◌∷◌, Result, Ok, Err, refl, ◌∙◌, ap, map, All, String, Global}
use Rattle.std.specs.Prelude.{string_bytes, OnOk}
use Rattle.std.proofs.lemmas.List.Elements.{All-head, All-tail}
use Rattle.tri_atlas.specs.Arena.{Arena, triangulation, Grows}
use Rattle.tri_atlas.specs.AtlasLaws.{GrowthLaws}
use Rattle.tri_atlas.specs.Moves.{Move}
use Rattle.tri_atlas.specs.Paths.{MovePath}
use Rattle.surface_lib.specs.Described.{NamedMoves, named_moves, described}
use Rattle.surface_lib.specs.Surfaces.{IsGenerator, IsSurface}
use Rattle.surface_lib.specs.declared.surface.Surface.{Surface}

pub moves_grown : GrowthLaws → (old new : Arena) (es : List (String Global × MovePath)) → Grows old new
    → All (IsGenerator old) es → map (named_moves new) es ≡ map (named_moves old) es
moves_grown laws old new [] grows all = refl
moves_grown laws old new (e ∷ es) grows all =
    let same = laws.moves old new e.1 grows (All-head (IsGenerator old) e es all).loop.within in
    ap (λ (z : List Move). record { spelt = string_bytes e.0; moves = z } ∷ map (named_moves new) es) same
    ∙ ap (λ (z : List NamedMoves). named_moves old e ∷ z)
    (moves_grown laws old new es grows (All-tail (IsGenerator old) e es all))

pub described_grown : GrowthLaws → (s t : Surface) → Grows s.atlas t.atlas → IsSurface s → t.name ≡ s.name
    → t.generators ≡ s.generators → triangulation t.atlas 0 ≡ triangulation s.atlas 0 → described t ≡ described s
described_grown laws s t grows is name generators base =
    let listed : map (named_moves t.atlas) t.generators.entries ≡ map (named_moves s.atlas) s.generators.entries =
    ap (λ z. map (named_moves t.atlas) z.entries) generators
    ∙ moves_grown laws s.atlas t.atlas s.generators.entries grows is in
    ap (λ (z : String Global). record {
      name = string_bytes z;
      triangles = triangulation t.atlas 0;
      generators = map (named_moves t.atlas) t.generators.entries;
    }) name
    ∙ ap (λ (z : List (List ℤ)). record {
      name = string_bytes s.name;
      triangles = z;
      generators = map (named_moves t.atlas) t.generators.entries;
    }) base
    ∙ ap (λ (z : List NamedMoves). record {
      name = string_bytes s.name;
      triangles = triangulation s.atlas 0;
      generators = z;
    }) listed

-- what follows from a fact of an answer
pub on_ok : {X E : Type 0} (result : Result X E) (P Q : Type 0) → (P → Q) → OnOk result P → OnOk result Q
on_ok (Ok x) P Q f p = f p
on_ok (Err e) P Q f p = tt
