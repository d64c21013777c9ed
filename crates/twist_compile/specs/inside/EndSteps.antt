-- The end of a descent at the total 2, and the steps of the twist there.
use Rattle.std.specs.Prelude.{◌≡◌, ℕ, ℤ, pos, List, [], ◌∷◌, ◌++◌, sum}
use Rattle.ideal_tri.specs.Labels.{edge_of}
use Rattle.ideal_tri.specs.PeripheralParts.{HasFreeCorners}
use Rattle.ideal_tri.specs.Vectors.{IsMulticurve}
use Rattle.tri_atlas.specs.Arena.{flip_of}
use Rattle.tri_atlas.specs.Moves.{Move, relabel}
use Rattle.tri_atlas.specs.Paths.{MovePath}
use Rattle.twist_compile.specs.TwistPaths.{exchange_images}
use Rattle.curve_shorten.specs.declared.short.ShortError.{ShortError}
use Rattle.curve_shorten.specs.declared.short.ShortError.TheVariants as short
use Rattle.surface_lib.specs.declared.twister.TwistError.{TwistError}
use Rattle.surface_lib.specs.declared.twister.TwistError.TheVariants as twist

-- a multicurve with the total 2, none of whose curves runs round a vertex
pub record HasTotalTwo (triples : List (List ℤ)) (w : List ℕ) : Type 0 where
  pub multicurve : IsMulticurve triples w
  pub free : HasFreeCorners triples w
  pub two : sum w ≡ 2

-- the flip of the edge of q, and the exchange
abbrev pub end_moves : List (List ℤ) → ℤ → ℤ → List Move
end_moves triples p q =
    flip_of triples (pos (edge_of q)) ∷ (relabel (exchange_images triples p q) ∷ [])

-- the two refusals have the same cause
abbrev pub IsSameRefusal : ShortError → TwistError → Type 0
IsSameRefusal (short.TotalOver total) e = e ≡ twist.TotalOver total
IsSameRefusal short.NotOneCurve e = e ≡ twist.NotOneCurve
IsSameRefusal short.Peripheral e = e ≡ twist.Peripheral
IsSameRefusal (short.Stuck at) e = e ≡ twist.Stuck at
IsSameRefusal short.Memory e = e ≡ twist.Memory

-- the moves of three paths, one after another
abbrev pub joined_three : MovePath → MovePath → MovePath → MovePath
joined_three first second third = record {
  start = first.start;
  end = third.end;
  moves = first.moves ++ second.moves ++ third.moves;
}
