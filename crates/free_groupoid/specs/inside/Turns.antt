-- The letter after another, where a walk turns the same way at each triangle.
use Rattle.std.specs.Prelude.{◌≡◌, ℤ, Bool, true, false, List}
use Rattle.ideal_tri.specs.Labels.{inverse}
use Rattle.ideal_tri.specs.Words.{closed_up}
use Rattle.ideal_tri.specs.Peripheral.{AllNeighbours}
use Rattle.ideal_tri.specs.Triangulations.{next, previous}

-- on, to the side after the one that was entered by, or back, to the side before it
abbrev pub turn_of : List (List ℤ) → Bool → ℤ → ℤ
turn_of triples true x = next triples (inverse x)
turn_of triples false x = previous triples (inverse x)

-- each letter of the closed word is followed by that one
abbrev pub TurnsEach : List (List ℤ) → Bool → List ℤ → Type 0
TurnsEach triples on w = AllNeighbours (λ x y. y ≡ turn_of triples on x) (closed_up w)
