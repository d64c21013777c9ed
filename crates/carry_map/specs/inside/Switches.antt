-- Where the label of a switch stands in the list of switches.
use Rattle.std.specs.Prelude.{◌≡◌, ◌≢◌, ◌<◌, ◌++◌, ◌∷◌, ℕ, ℤ, pos, true, List, [], length, Contains}
use Rattle.std.specs.List.{flat_map}
use Rattle.ideal_tri.specs.Labels.{edge_of}
use Rattle.ideal_tri.specs.Words.{inverse_word, reduce, but_last}
use Rattle.ideal_tri.specs.Triangulations.{IsLabel, IsWalk, triangle_of}
use Rattle.train_track.specs.Tracks.{is_switch}
use Rattle.train_track.specs.Branches.{TrainTrack, IsBranch, IsTrackOn, letter_at}
use Rattle.carry_map.specs.CarriedMaps.{Carrying, goes_to, connection, final}

-- the label of a switch, in either direction
pub record IsSwitchLabel (triples : List (List ℤ)) (left_out : List ℤ) (x : ℤ) : Type 0 where
  pub label : IsLabel triples x
  pub switch : is_switch triples left_out x ≡ true

-- i is the first place where x stands
pub record IsFirstAt (xs : List ℤ) (x : ℤ) (i : ℕ) : Type 0 where
  pub within : i < length xs
  pub here : letter_at xs i ≡ x
  pub before : (k : ℕ) → k < i → letter_at xs k ≢ x

-- where b is a branch of a track, x is a label of one of its switches
pub record IsSwitchOf (b : List ℤ) (x : ℤ) : Type 0 where
  pub switch : (triples : List (List ℤ)) (left_out : List ℤ) → IsBranch triples left_out b
      → IsSwitchLabel triples left_out x
  pub listed : (triples : List (List ℤ)) (track : TrainTrack) → IsTrackOn triples track
      → IsBranch triples track.left_out b → Contains track.switches (pos (edge_of x))

-- where b is a branch of a track, w is a walk of at least one letter
pub record IsFrontOf (b w : List ℤ) : Type 0 where
  pub some : (triples : List (List ℤ)) (left_out : List ℤ) → IsBranch triples left_out b → w ≢ []
  pub walk : (triples : List (List ℤ)) (left_out : List ℤ) → IsBranch triples left_out b
      → (t : ℕ) × IsWalk triples (triangle_of triples (letter_at w 0)) w t

-- the walk along the image of a branch, from where c takes its first letter to where d takes its
-- last, across the label that this goes to
abbrev pub walk_from_to : List ℤ → (ℤ → List ℤ) → Carrying → Carrying → List ℤ → List ℤ
walk_from_to switches f c d branch =
    reduce (inverse_word (connection f switches c (letter_at branch 0))
    ++ (flat_map f (but_last branch)
    ++ (connection f switches d (final branch) ++ (goes_to switches d (final branch) ∷ []))))
