-- Maps of a triangulation to itself that carry a train track into itself (after Penner and Harer).
use Rattle.std.specs.Prelude.{◌≡◌, ◌<◌, ◌≤◌, ℕ, ℤ, pos, negsuc, true, List, [], ◌∷◌, ◌++◌, length}
use Rattle.std.specs.Prelude.{slice_index_or, if◌then◌else◌}
use Rattle.std.specs.List.{flat_map}
use Rattle.std.specs.Ordering.{int_eq}
use Rattle.ideal_tri.specs.Labels.{inverse}
use Rattle.ideal_tri.specs.Words.{inverse_word, IsReduced, reduce, last_of, but_last}
use Rattle.ideal_tri.specs.Triangulations.{IsLabel, IsWalk, triangle_of}
use Rattle.train_track.specs.Tracks.{IsLegal, is_switch, switches_of}
use Rattle.train_track.specs.Branches.{letter_at}

-- what carries a track: the label that each switch goes to, a walk to where that label starts, and
-- a walk for each branch, its train path
pub record Carrying : Type 0 where
  pub to : List ℤ
  pub connect : List (List ℤ)
  pub images : List (List ℤ)

-- what stands in the second list where x stands in the first
abbrev pub beside : {A : Type 0} → A → List ℤ → List A → ℤ → A
beside none [] ys x = none
beside none (s ∷ switches) [] x = none
beside none (s ∷ switches) (y ∷ ys) x =
    if int_eq s x then y else beside none switches ys x

-- the label that the label of a switch goes to; its inverse goes to the inverse
abbrev pub goes_to : List ℤ → Carrying → ℤ → ℤ
goes_to switches c (pos n) = beside (pos 0) switches c.to (pos n)
goes_to switches c (negsuc n) = inverse (beside (pos 0) switches c.to (pos n))

-- the walk from the image of where the label x starts to where the label starts that x goes to
abbrev pub connection : (ℤ → List ℤ) → List ℤ → Carrying → ℤ → List ℤ
connection f switches c (pos n) = beside [] switches c.connect (pos n)
connection f switches c (negsuc n) =
    reduce (f (negsuc n)
    ++ (beside [] switches c.connect (pos n) ++ (goes_to switches c (pos n) ∷ [])))

-- the last letter of a word
abbrev pub final : List ℤ → ℤ
final [] = pos 0
final (x ∷ w) = last_of x w

-- the path is a train path of the branch: a legal walk between the labels that its ends go to,
-- which runs along the image of the branch
pub record IsTrainPath (triples : List (List ℤ)) (left_out : List ℤ) (f : ℤ → List ℤ)
    (c : Carrying) (branch path : List ℤ) : Type 0 where
  pub long : 2 ≤ length path
  pub walk : IsWalk triples (triangle_of triples (letter_at path 0)) path
      (triangle_of triples (inverse (final path)))
  pub legal : IsLegal triples left_out path
  pub begins : letter_at path 0 ≡ goes_to (switches_of triples left_out) c (letter_at branch 0)
  pub ends : final path ≡ goes_to (switches_of triples left_out) c (final branch)
  pub along : reduce (flat_map f (but_last branch))
      ≡ reduce (connection f (switches_of triples left_out) c (letter_at branch 0)
      ++ (but_last path
      ++ inverse_word (connection f (switches_of triples left_out) c (final branch))))

-- the map f, which takes the triangles to those given, carries the track of these left-out corners
-- and branches
pub record IsCarried (triples : List (List ℤ)) (left_out : List ℤ) (branches : List (List ℤ))
    (f : ℤ → List ℤ) (triangles : ℕ → ℕ) (c : Carrying) : Type 0 where
  pub one_label_each : length c.to ≡ length (switches_of triples left_out)
  pub one_walk_each : length c.connect ≡ length (switches_of triples left_out)
  pub one_path_each : length c.images ≡ length branches
  pub labels : (i : ℕ) → i < length c.to → IsLabel triples (letter_at c.to i)
  pub switches : (i : ℕ) → i < length c.to → is_switch triples left_out (letter_at c.to i) ≡ true
  pub walks : (i : ℕ) → i < length c.to
      → IsWalk triples
      (triangles (triangle_of triples (letter_at (switches_of triples left_out) i)))
      (slice_index_or c.connect i []) (triangle_of triples (letter_at c.to i))
  pub reduced : (i : ℕ) → i < length c.to → IsReduced (slice_index_or c.connect i [])
  pub paths : (j : ℕ) → j < length branches
      → IsTrainPath triples left_out f c (slice_index_or branches j [])
      (slice_index_or c.images j [])
