-- The meaning of Dehn twists, which is handed in with what compiles them.
use Rattle.std.specs.Prelude.{ℕ, ℤ, List, Result}
use Rattle.tri_atlas.specs.Moves.{Move}
use Rattle.surface_lib.specs.declared.twister.Hand.{Hand}
use Rattle.surface_lib.specs.declared.twister.TwistError.{TwistError}

-- for a triangulation, the coordinates of a curve and a hand: these are the moves of the twist about
-- the curve, or this is why there is none
abbrev pub TwistRelation : Type 1
TwistRelation = List (List ℤ) → List ℕ → Hand → Result (List Move) TwistError → Type 0
