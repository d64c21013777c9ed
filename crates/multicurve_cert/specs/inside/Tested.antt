-- What the functions for one candidate answer.
use Rattle.std.specs.Prelude.{◌≡◌, ℕ, List}
use Rattle.tri_atlas.specs.Arena.{Arena, triangulation}
use Rattle.tri_atlas.specs.Moves.{Move}
use Rattle.edge_coords.specs.Coordinates.{Coordinates}
use Rattle.multicurve_cert.specs.Candidates.{candidate, put_together}
use Rattle.multicurve_cert.specs.Candidates.{IsNoMulticurve, IsTooLarge, Passes}
use Rattle.multicurve_cert.specs.LastTests.{AreAtBase, IsStripped}

-- the sum or difference of this kind, which passes the first two tests
pub record IsPutTogether (arena : Arena) (moves : List Move) (w : List ℕ) (kind : ℕ)
    (c : Coordinates) : Type 0 where
  pub at_base : AreAtBase arena c
  pub numbers : c.numbers ≡ put_together (triangulation arena 0) moves w kind
  pub small : ¬ IsTooLarge (triangulation arena 0) moves w kind
  pub multicurve : ¬ IsNoMulticurve (triangulation arena 0) moves w kind

-- the candidate of this kind, which passes all tests
pub record IsPassing (arena : Arena) (moves : List Move) (w : List ℕ) (kind : ℕ) (c : Coordinates)
    : Type 0 where
  pub stripped : IsStripped arena c
  pub numbers : c.numbers ≡ candidate (triangulation arena 0) moves w kind
  pub passes : Passes (triangulation arena 0) moves w kind
