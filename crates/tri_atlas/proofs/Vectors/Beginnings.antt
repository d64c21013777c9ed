-- The beginnings of a path, and the move behind each.
use Rattle.std.proofs.Common.{ℕ, zero, suc, ℤ, List, [], ◌∷◌, ◌≡◌, ◌<◌, refl, arith}
use Rattle.std.proofs.Common.{length, take}
use Rattle.tri_atlas.specs.Moves.{Move, IsMove, ArePath}
use Rattle.tri_atlas.specs.MovedVectors.{vector_after, vector_along, move_at}

pub vector_along-next : (moves : List Move) (k : ℕ) (w : List ℕ) → k < length moves
    → vector_along (take (suc k) moves) w ≡ vector_after (move_at moves k) (vector_along (take k moves) w)
vector_along-next [] k w b = absurd (omega arith)
vector_along-next (m ∷ moves) zero w b = refl
vector_along-next (m ∷ moves) (suc k) w b = vector_along-next moves k (vector_after m w) (omega arith)

-- the first moves of a path
pub record Beginning (before : List (List ℤ)) (moves : List Move) (k : ℕ) : Type 0 where
  pub middle : List (List ℤ)
  pub path : ArePath before (take k moves) middle

pub beginning : (before target : List (List ℤ)) (moves : List Move) (k : ℕ) → ArePath before moves target
    → Beginning before moves k
beginning before target moves zero h = record { middle = before; path = refl }
beginning before target [] (suc k) h = record { middle = before; path = refl }
beginning before target (m ∷ moves) (suc k) (between, b, move, rest) =
    let more : Beginning between moves k = beginning between target moves k rest in
    record { middle = more.middle; path = (between, b, move, more.path) }

-- the move behind them
pub record MoveOf (before : List (List ℤ)) (moves : List Move) (k : ℕ) : Type 0 where
  pub from : List (List ℤ)
  pub to : List (List ℤ)
  pub path : ArePath before (take k moves) from
  pub move : IsMove from to (move_at moves k)

pub move_of : (before target : List (List ℤ)) (moves : List Move) (k : ℕ) → ArePath before moves target
    → k < length moves
    → MoveOf before moves k
move_of before target [] k h b = absurd (omega arith)
move_of before target (m ∷ moves) zero (between, t, move, rest) b =
    record { from = before; to = between; path = refl; move = move }
move_of before target (m ∷ moves) (suc k) (between, t, move, rest) b =
    let more : MoveOf between moves k = move_of between target moves k rest (omega arith) in
    record { from = more.from; to = more.to; path = (between, t, move, more.path); move = more.move }
