-- What the test of a train path is made of.
use Rattle.std.specs.Prelude.{◌≡◌, ◌≢◌, ◌<◌, ◌≤◌, ◌++◌, ℕ, ℤ, List, length}
use Rattle.ideal_tri.specs.Labels.{inverse}
use Rattle.ideal_tri.specs.Triangulations.{IsWalk, triangle_of}
use Rattle.ideal_tri.specs.Words.{but_last, inverse_word, reduce}
use Rattle.train_track.specs.Branches.{letter_at}
use Rattle.train_track.specs.Tracks.{IsLegal}
use Rattle.carry_map.specs.CarriedMaps.{Carrying, connection, final}

-- a walk of at least two letters
pub record IsLongWalk (triples : List (List ℤ)) (path : List ℤ) : Type 0 where
  pub long : 2 ≤ length path
  pub walk : IsWalk triples (triangle_of triples (letter_at path 0)) path
      (triangle_of triples (inverse (final path)))

-- the same, and legal
pub record IsLegalWalk (triples : List (List ℤ)) (left_out path : List ℤ) : Type 0 where
  pub long : 2 ≤ length path
  pub walk : IsWalk triples (triangle_of triples (letter_at path 0)) path
      (triangle_of triples (inverse (final path)))
  pub legal : IsLegal triples left_out path

-- the way along a path from where the image of a branch starts to where it ends, reduced
abbrev pub way_along : (ℤ → List ℤ) → List ℤ → Carrying → List ℤ → List ℤ → List ℤ
way_along f switches c branch path =
    reduce (connection f switches c (letter_at branch 0)
    ++ (but_last path ++ inverse_word (connection f switches c (final branch))))

-- i is the first place where x stands
pub record IsFirstAt (xs : List ℤ) (x : ℤ) (i : ℕ) : Type 0 where
  pub within : i < length xs
  pub here : letter_at xs i ≡ x
  pub before : (k : ℕ) → k < i → letter_at xs k ≢ x
