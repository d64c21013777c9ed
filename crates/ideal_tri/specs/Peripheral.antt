-- Closed words that run round one vertex.
use Rattle.std.specs.Prelude.{◌≡◌, ◌≢◌, ◌⊎◌, ℤ, List, [], ◌∷◌}
use Rattle.ideal_tri.specs.Labels.{inverse}
use Rattle.ideal_tri.specs.Words.{closed_up}
use Rattle.ideal_tri.specs.Triangulations.{next, previous}

-- the relation holds of each letter and the one after it
abbrev pub AllNeighbours : (ℤ → ℤ → Type 0) → List ℤ → Type 0
AllNeighbours R [] = Unit {0}
AllNeighbours R (x ∷ []) = Unit {0}
AllNeighbours R (x ∷ (y ∷ w)) = R x y × AllNeighbours R (y ∷ w)

-- in each triangle it leaves by the side after the one it entered by
abbrev pub TurnsOn : List (List ℤ) → List ℤ → Type 0
TurnsOn triples w = AllNeighbours (λ x y. y ≡ next triples (inverse x)) (closed_up w)

-- in each triangle it leaves by the side before the one it entered by
abbrev pub TurnsBack : List (List ℤ) → List ℤ → Type 0
TurnsBack triples w = AllNeighbours (λ x y. y ≡ previous triples (inverse x)) (closed_up w)

-- it turns the same way all round
abbrev pub IsPeripheral : List (List ℤ) → List ℤ → Type 0
IsPeripheral triples w = (w ≢ []) × (TurnsOn triples w ⊎ TurnsBack triples w)
