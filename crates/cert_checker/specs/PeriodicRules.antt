-- The rules for certificates of periodic words, 1 to 8. The word's path runs from the triangulation to
-- itself, and these are its moves.
use Rattle.std.specs.Prelude.{◌≡◌, ◌<◌, ◌≤◌, ◌+◌, ◌++◌, ℕ, ℤ, pos, List, [], ◌∷◌, length}
use Rattle.std.specs.Prelude.{slice_index_or}
use Rattle.std.specs.List.{repeat}
use Rattle.ideal_tri.specs.Labels.{inverse}
use Rattle.ideal_tri.specs.Triangulations.{IsWalk, edge_count, triangle_of}
use Rattle.ideal_tri.specs.Words.{IsReduced, reduce}
use Rattle.tri_atlas.specs.Maps.{IsMap, path_map}
use Rattle.tri_atlas.specs.Moves.{Move}
use Rattle.free_groupoid.specs.Inner.{IsKept}
use Rattle.free_groupoid.specs.InnerLaws.{IsReducedLoop}
use Rattle.free_groupoid.specs.Periodic.{AreInnerWalks, IsWithin}
use Rattle.cert_text.specs.Limits.{letter_cap, order_limit}
use Rattle.cert_checker.specs.FirstFailing.{IsFirstFailing, AllPass}

-- ---- the tests

-- 1: the order is from 1 to 1,024
abbrev pub IsOrder : ℕ → Type 0
IsOrder order = (0 < order) × (order ≤ order_limit)

-- 2 and 3: there is one path for each triangle, and one reason for each smaller power
abbrev pub HasOnePathEach : List (List ℤ) → List (List ℤ) → Type 0
HasOnePathEach triples paths = length paths ≡ length triples

abbrev pub HasOneReasonEach : ℕ → List (List ℤ) → Type 0
HasOneReasonEach order reasons = length reasons + 1 ≡ order

-- 4: a reason is a closed walk, not empty, cyclically reduced
abbrev pub IsReason : List (List ℤ) → List (List ℤ) → ℕ → Type 0
IsReason triples reasons i = IsReducedLoop triples (slice_index_or reasons i [])

-- 5: when the word is taken once more after i times, no map passes the cap on letters
abbrev pub IsTurnWithin : List (List ℤ) → List Move → ℕ → Type 0
IsTurnWithin triples moves i = IsWithin triples (repeat (i + 1) moves) letter_cap

-- 6: the path from triangle t is a reduced walk to where the power sends it
abbrev pub IsPathFrom : List (List ℤ) → (ℕ → ℕ) → List (List ℤ) → ℕ → Type 0
IsPathFrom triples triangles paths t =
    IsWalk triples t (slice_index_or paths t []) (triangles t)
    × IsReduced (slice_index_or paths t [])

-- 7: across edge e and on, or on and along its image, is the same reduced walk
abbrev pub IsEquation : List (List ℤ) → (ℤ → List ℤ) → List (List ℤ) → ℕ → Type 0
IsEquation triples f paths e =
    reduce (slice_index_or paths (triangle_of triples (pos e)) [] ++ f (pos e))
    ≡ reduce (pos e ∷ slice_index_or paths (triangle_of triples (inverse (pos e))) [])

-- 8: the power doesn't carry its reason to itself, up to rotation
abbrev pub IsMoved : List (List ℤ) → List Move → List (List ℤ) → ℕ → Type 0
IsMoved triples moves reasons i =
    ¬ IsKept (path_map (repeat (i + 1) moves)) (slice_index_or reasons i [])

-- ---- what the first rules leave to the later ones

-- rules 1 to 3 hold
pub record IsCounted (triples : List (List ℤ)) (order : ℕ) (paths reasons : List (List ℤ))
    : Type 0 where
  pub order_within : IsOrder order
  pub one_path_each : HasOnePathEach triples paths
  pub one_reason_each : HasOneReasonEach order reasons

-- rules 1 to 5 hold, and the power sends the triangles here
pub record IsTurned (triples : List (List ℤ)) (moves : List Move) (order : ℕ)
    (paths reasons : List (List ℤ)) (triangles : ℕ → ℕ) : Type 0 where
  pub counted : IsCounted triples order paths reasons
  pub loops : AllPass (length reasons) (IsReason triples reasons)
  pub within_cap : IsWithin triples (repeat order moves) letter_cap
  pub map : IsMap triples triples (path_map (repeat order moves)) triangles

-- ---- the first rule that fails, and the place that is told

pub data IsPeriodicRefusal (triples : List (List ℤ)) (moves : List Move) (order : ℕ)
    (paths reasons : List (List ℤ)) (rule place : ℕ) : Type 0 where
  by_order : rule ≡ 1 → place ≡ 0 → ¬ IsOrder order
      → IsPeriodicRefusal triples moves order paths reasons rule place
  by_paths : rule ≡ 2 → place ≡ 0 → IsOrder order → ¬ HasOnePathEach triples paths
      → IsPeriodicRefusal triples moves order paths reasons rule place
  by_reasons : rule ≡ 3 → place ≡ 0 → IsOrder order → HasOnePathEach triples paths
      → ¬ HasOneReasonEach order reasons
      → IsPeriodicRefusal triples moves order paths reasons rule place
  by_reason : (i : ℕ) → rule ≡ 4 → place ≡ i + 1 → IsCounted triples order paths reasons
      → IsFirstFailing (length reasons) (IsReason triples reasons) i
      → IsPeriodicRefusal triples moves order paths reasons rule place
  by_cap : (i : ℕ) → rule ≡ 5 → place ≡ i + 1 → IsCounted triples order paths reasons
      → AllPass (length reasons) (IsReason triples reasons)
      → IsFirstFailing order (IsTurnWithin triples moves) i
      → IsPeriodicRefusal triples moves order paths reasons rule place
  by_path : (triangles : ℕ → ℕ) → rule ≡ 6 → IsTurned triples moves order paths reasons triangles
      → IsFirstFailing (length triples) (IsPathFrom triples triangles paths) place
      → IsPeriodicRefusal triples moves order paths reasons rule place
  by_equation : (triangles : ℕ → ℕ) → rule ≡ 7
      → IsTurned triples moves order paths reasons triangles
      → AllPass (length triples) (IsPathFrom triples triangles paths)
      → IsFirstFailing (edge_count triples)
      (IsEquation triples (path_map (repeat order moves)) paths) place
      → IsPeriodicRefusal triples moves order paths reasons rule place
  by_kept : (triangles : ℕ → ℕ) (i : ℕ) → rule ≡ 8 → place ≡ i + 1
      → IsTurned triples moves order paths reasons triangles
      → AreInnerWalks triples (repeat order moves) paths
      → IsFirstFailing (length reasons) (IsMoved triples moves reasons) i
      → IsPeriodicRefusal triples moves order paths reasons rule place
