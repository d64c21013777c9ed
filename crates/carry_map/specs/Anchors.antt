-- The anchor rule: where a switch goes under a map, and the walk to it, read off the images of all
-- legal walks of three letters from the switch in both directions.
use Rattle.std.specs.Prelude.{◌≡◌, ◌↔◌, ℤ, true, List, ◌∷◌, ◌++◌, length, All, AllPairs}
use Rattle.std.specs.Prelude.{Contains, drop, take}
use Rattle.std.specs.List.{flat_map}
use Rattle.ideal_tri.specs.Words.{inverse_word, reduce}
use Rattle.ideal_tri.specs.Triangulations.{IsLabel}
use Rattle.train_track.specs.Tracks.{IsLegal, is_switch}
use Rattle.train_track.specs.Branches.{letter_at}

-- ---- lines

-- a legal walk of seven letters with s in the middle
pub record IsWindow (triples : List (List ℤ)) (left_out : List ℤ) (s : ℤ) (w : List ℤ) : Type 0
  where
    pub seven : length w ≡ 7
    pub labels : All (IsLabel triples) w
    pub legal : IsLegal triples left_out w
    pub middle : letter_at w 3 ≡ s

-- the images of the way back from where s starts, and of the way on from there
abbrev pub back_ray : (ℤ → List ℤ) → List ℤ → List ℤ
back_ray f w = reduce (flat_map f (inverse_word (take 3 w)))

abbrev pub front_ray : (ℤ → List ℤ) → List ℤ → List ℤ
front_ray f w = reduce (flat_map f (drop 3 w))

-- the line from the end of the back ray to the end of the front ray
abbrev pub line : (ℤ → List ℤ) → List ℤ → List ℤ
line f w = reduce (inverse_word (back_ray f w) ++ front_ray f w)

-- ---- places

-- a letter, and a walk to where it starts from where the image of s starts
pub record Place : Type 0 where
  pub connect : List ℤ
  pub label : ℤ

-- the letter of the line of w behind these letters of the line
pub record IsBehind (f : ℤ → List ℤ) (w before : List ℤ) (p : Place) : Type 0 where
  pub after : List ℤ
  pub letters : line f w ≡ before ++ (p.label ∷ after)
  pub reached : p.connect ≡ reduce (back_ray f w ++ before)

abbrev pub IsOnLine : (ℤ → List ℤ) → List ℤ → Place → Type 0
IsOnLine f w p = (before : List ℤ) × IsBehind f w before p

-- p comes before q on the line of w
abbrev pub IsBefore : (ℤ → List ℤ) → List ℤ → Place → Place → Type 0
IsBefore f w p q = (before : List ℤ) × (between : List ℤ) × IsBehind f w before p
    × IsBehind f w (before ++ (p.label ∷ between)) q

-- on the lines of all windows, and the edge of its letter is a switch
pub record IsCommonPlace (triples : List (List ℤ)) (left_out : List ℤ) (f : ℤ → List ℤ) (s : ℤ)
    (p : Place) : Type 0 where
  pub on_all : (w : List ℤ) → IsWindow triples left_out s w → IsOnLine f w p
  pub switch : is_switch triples left_out p.label ≡ true

-- the places of s: all of them, in their order on the lines, which is the same on each
pub record ArePlaces (triples : List (List ℤ)) (left_out : List ℤ) (f : ℤ → List ℤ) (s : ℤ)
    (places : List Place) : Type 0 where
  pub all : (p : Place) → Contains places p ↔ IsCommonPlace triples left_out f s p
  pub order : (w : List ℤ) → IsWindow triples left_out s w → AllPairs (IsBefore f w) places
