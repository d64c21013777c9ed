-- Labels of switches by their numbers, and what is asked of heights by these numbers. The switch at
-- place i has the number 2 i, and its inverse 2 i + 1.
use Rattle.std.specs.Prelude.{◌≡◌, ◌<◌, ◌+◌, ◌-◌, ◌*◌, ℕ, ℤ, pos, negsuc, List, [], ◌∷◌, length}
use Rattle.std.specs.Prelude.{All, slice_index_or}
use Rattle.std.specs.List.{flat_map}
use Rattle.ideal_tri.specs.Labels.{inverse}
use Rattle.ideal_tri.specs.Triangulations.{place_in, triangle_of}
use Rattle.train_track.specs.Branches.{letter_at}
use Rattle.train_track.specs.Tracks.{switches_of}
use Rattle.carry_map.specs.Anchors.{Place}
use Rattle.carry_map.specs.CarriedMaps.{final}
use Rattle.carry_map.specs.AnchorAnswers.{place_at, IsReachedFrom}
use Rattle.carry_map.specs.declared.heights.Step.{Step}

-- each place of each switch can be reached from the image of where the switch starts
abbrev pub AreAllReached : List (List ℤ) → List ℤ → (ℕ → ℕ) → List (List Place) → Type 0
AreAllReached triples left_out triangles all = (i : ℕ) → i < length all
    → All (IsReachedFrom triples left_out
    (triangles (triangle_of triples (letter_at (switches_of triples left_out) i))))
    (slice_index_or all i [])

-- one place of each list, that with this number
pub record ArePicked (all : List (List Place)) (number : ℕ → ℕ) (picked : List Place) : Type 0
  where
    pub one_each : length picked ≡ length all
    pub each : (i : ℕ) → i < length all
        → place_at picked i ≡ place_at (slice_index_or all i []) (number i)

-- the first place of each list, and the last
abbrev pub AreFirsts : List (List Place) → List Place → Type 0
AreFirsts all picked = ArePicked all (λ i. 0) picked

abbrev pub AreLasts : List (List Place) → List Place → Type 0
AreLasts all picked = ArePicked all (λ i. length (slice_index_or all i []) - 1) picked

-- the one for a label that isn't negative, the other for a negative one
abbrev pub by_sign : {A : Type 0} → ℤ → A → A → A
by_sign (pos n) on back = on
by_sign (negsuc n) on back = back

-- ---- numbers and steps

-- the number of a label of a switch
abbrev pub number_of : List ℤ → ℤ → ℕ
number_of switches (pos n) = 2 * place_in switches (pos n)
number_of switches (negsuc n) = 2 * place_in switches (pos n) + 1

-- how many places each label has
abbrev pub counts_of : List (List Place) → List ℕ
counts_of all = flat_map (λ ps. length ps ∷ (length ps ∷ [])) all

-- along a branch, and along its inverse
abbrev pub steps_along : List ℤ → (List ℤ → ℕ) → List ℤ → List Step
steps_along switches between b =
    record {
      from = number_of switches (letter_at b 0);
      to = number_of switches (final b);
      gap = between b;
    } ∷ (record {
      from = number_of switches (inverse (final b));
      to = number_of switches (inverse (letter_at b 0));
      gap = between b;
    } ∷ [])

abbrev pub steps_of : List ℤ → (List ℤ → ℕ) → List (List ℤ) → List Step
steps_of switches between branches = flat_map (steps_along switches between) branches
