-- What is shown of one carrying of passes and of closed legal walks: the σ-image.
use Rattle.std.proofs.Common.{ℕ, ℤ, List, ◌++◌, ◌≡◌, ◌<◌}
use Rattle.std.specs.List.{flat_map}
use Rattle.ideal_tri.specs.Words.{inverse_word, reduce}
use Rattle.train_track.specs.Passes.{Pass}
use Rattle.transition_matrix.specs.Matrices.{Square}
use Rattle.transition_matrix.specs.Bounds.{applied}
use Rattle.carry_map.specs.CarriedMaps.{Carrying}
use Rattle.carry_map.specs.Iterates.{IsLegalLoop, ArePassesRound, passed, joined_paths}

pub record CarriedFacts (triples : List (List ℤ)) (left_out : List ℤ) (branches : List (List ℤ)) (f : ℤ → List ℤ)
    (c : Carrying) (m : Square) : Type 0 where
  -- the passes of the train path of one pass, in its direction
  pub onward : Pass → List Pass
  -- a closed legal walk that begins at a switch goes to its joined train paths, up to a walk there and back
  pub round : (u : List ℤ) (passes : List Pass) → IsLegalLoop triples left_out u → ArePassesRound branches passes u
      → ArePassesRound branches (flat_map onward passes) (joined_paths c.images passes)
  pub legal : (u : List ℤ) (passes : List Pass) → IsLegalLoop triples left_out u → ArePassesRound branches passes u
      → IsLegalLoop triples left_out (joined_paths c.images passes)
  pub image : (u : List ℤ) (passes : List Pass) → IsLegalLoop triples left_out u → ArePassesRound branches passes u
      → (a : List ℤ) × (reduce (flat_map f u) ≡ reduce (a ++ (joined_paths c.images passes ++ inverse_word a)))
  -- and the matrix counts its passes
  pub counts : (u : List ℤ) (passes : List Pass) (i : ℕ) → ArePassesRound branches passes u → i < m.size
      → passed (flat_map onward passes) i ≡ applied m (passed passes) i
