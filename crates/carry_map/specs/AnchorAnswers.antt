-- What the anchor rule answers of a map that takes a track's triangulation to itself.
use Rattle.std.specs.Prelude.{◌≡◌, ◌<◌, ◌≤◌, ◌⊎◌, ℕ, ℤ, pos, true, List, [], ◌∷◌, ◌++◌}
use Rattle.std.specs.Prelude.{length, map, sum, All, slice_index_or}
use Rattle.std.specs.List.{flat_map}
use Rattle.ideal_tri.specs.Words.{inverse_word, IsReduced, reduce, but_last}
use Rattle.ideal_tri.specs.Triangulations.{IsLabel, IsWalk, triangle_of}
use Rattle.tri_atlas.specs.Arena.{Arena}
use Rattle.free_groupoid.specs.Walks.{DualWalk, walk_at}
use Rattle.free_groupoid.specs.GroupoidMaps.{GroupoidMap, substitution, vertex_image, IsMapIn}
use Rattle.free_groupoid.specs.MapRefusals.{told}
use Rattle.train_track.specs.Tracks.{IsLegal, is_switch, switches_of}
use Rattle.train_track.specs.Branches.{TrainTrack, IsTrackIn, letter_at, words_of}
use Rattle.carry_map.specs.Anchors.{Place, ArePlaces}
use Rattle.carry_map.specs.CarriedMaps.{Carrying, goes_to, connection, final}
use Rattle.carry_map.specs.CarryingWalks.{CarryingWalks}
use Rattle.carry_map.specs.declared.carry.AnchorError.{AnchorError}
use Rattle.carry_map.specs.declared.carry.AnchorError.TheVariants.{NoCommonPart, Illegal}
use Rattle.carry_map.specs.declared.carry.AnchorError.TheVariants.{CapPassed, Memory}

-- ---- anchors

-- the first place of each switch
abbrev pub IsAnchored : List (List ℤ) → List ℤ → (ℤ → List ℤ) → ℕ → Place → Type 0
IsAnchored triples left_out f i p = (rest : List Place)
    × ArePlaces triples left_out f (letter_at (switches_of triples left_out) i) (p ∷ rest)

abbrev pub place_at : List Place → ℕ → Place
place_at places i = slice_index_or places i (record { connect = []; label = pos 0 })

-- its letter is the label of a switch, and its walk is reduced and begins at this triangle
pub record IsReachedFrom (triples : List (List ℤ)) (left_out : List ℤ) (start : ℕ) (p : Place)
    : Type 0 where
  pub label : IsLabel triples p.label
  pub switch : is_switch triples left_out p.label ≡ true
  pub walk : IsWalk triples start p.connect (triangle_of triples p.label)
  pub reduced : IsReduced p.connect

-- switch i has no place
abbrev pub HasNoPlace : List (List ℤ) → List ℤ → (ℤ → List ℤ) → ℕ → Type 0
HasNoPlace triples left_out f i =
    ArePlaces triples left_out f (letter_at (switches_of triples left_out) i) []

-- one place for each switch, its first
pub record AreAnchors (triples : List (List ℤ)) (left_out : List ℤ) (f : ℤ → List ℤ)
    (anchors : List Place) : Type 0 where
  pub one_each : length anchors ≡ length (switches_of triples left_out)
  pub first : (i : ℕ) → i < length anchors
      → IsAnchored triples left_out f i (place_at anchors i)

-- switch i is the first that has no place
pub record IsFirstWithout (triples : List (List ℤ)) (left_out : List ℤ) (f : ℤ → List ℤ) (i : ℕ)
    : Type 0 where
  pub within : i < length (switches_of triples left_out)
  pub without : HasNoPlace triples left_out f i
  pub before : (k : ℕ) → k < i → (p : Place) × IsAnchored triples left_out f k p

-- ---- train paths

-- the one walk that can be a branch's train path, between the labels that its ends go to
abbrev pub train_path : List ℤ → (ℤ → List ℤ) → Carrying → List ℤ → List ℤ
train_path switches f c branch =
    reduce (inverse_word (connection f switches c (letter_at branch 0))
    ++ (flat_map f (but_last branch)
    ++ (connection f switches c (final branch) ++ (goes_to switches c (final branch) ∷ []))))

-- it has two letters at least, begins and ends there, and is legal
pub record Fits (triples : List (List ℤ)) (left_out : List ℤ) (c : Carrying) (branch path : List ℤ)
    : Type 0 where
  pub long : 2 ≤ length path
  pub begins : letter_at path 0 ≡ goes_to (switches_of triples left_out) c (letter_at branch 0)
  pub ends : final path ≡ goes_to (switches_of triples left_out) c (final branch)
  pub legal : IsLegal triples left_out path

-- what these anchors carry the switches to
abbrev pub carrying_by : List Place → Carrying
carrying_by anchors = record {
  to = map (λ p. p.label) anchors;
  connect = map (λ p. p.connect) anchors;
  images = [];
}

-- the train path of a branch for these anchors
abbrev pub path_by : List (List ℤ) → List ℤ → (ℤ → List ℤ) → List Place → List ℤ → List ℤ
path_by triples left_out f anchors branch =
    train_path (switches_of triples left_out) f (carrying_by anchors) branch

abbrev pub FitsBy : List (List ℤ) → List ℤ → (ℤ → List ℤ) → List Place → List ℤ → Type 0
FitsBy triples left_out f anchors branch =
    Fits triples left_out (carrying_by anchors) branch (path_by triples left_out f anchors branch)

-- j is the first branch whose train path doesn't fit
pub record IsFirstUnfit (triples : List (List ℤ)) (left_out : List ℤ) (branches : List (List ℤ))
    (f : ℤ → List ℤ) (anchors : List Place) (j : ℕ) : Type 0 where
  pub within : j < length branches
  pub unfit : ¬ FitsBy triples left_out f anchors (slice_index_or branches j [])
  pub before : (k : ℕ) → k < j → FitsBy triples left_out f anchors (slice_index_or branches k [])

-- ---- letters

-- how many letters the words have together
abbrev pub letters_together : List (List ℤ) → ℕ
letters_together words = sum (map length words)

-- they have more than the cap, and so many are told
abbrev pub AreOver : List (List ℤ) → ℕ → ℕ → Type 0
AreOver words cap letters =
    (cap < letters_together words) × (letters ≡ told (letters_together words))

-- the connecting walks have, or else the train paths have
abbrev pub PassesCap : List (List ℤ) → List (List ℤ) → ℕ → ℕ → Type 0
PassesCap connect paths cap letters = AreOver connect cap letters
    ⊎ ((letters_together connect ≤ cap) × AreOver paths cap letters)

-- ---- answers

-- the map takes the triangulation of the track to itself
pub record IsMapOnTrack (arena : Arena) (track : TrainTrack) (psi : GroupoidMap) : Type 0 where
  pub here : IsTrackIn arena track
  pub maps : IsMapIn arena psi
  pub source : psi.source ≡ track.tri
  pub target : psi.target ≡ track.tri

-- such a path as a walk, from where the label starts that the first letter of the branch goes to
abbrev pub walk_by : List (List ℤ) → List ℤ → (ℤ → List ℤ) → List Place → List ℤ → DualWalk
walk_by triples left_out f anchors branch = record {
  start = triangle_of triples
      (goes_to (switches_of triples left_out) (carrying_by anchors) (letter_at branch 0));
  letters = path_by triples left_out f anchors branch;
}

-- those of all branches
abbrev pub walks_by : List (List ℤ) → TrainTrack → GroupoidMap → List Place → List DualWalk
walks_by triples track psi anchors =
    map (walk_by triples track.left_out (substitution psi.images) anchors)
    (words_of track.branches)

-- they all fit
abbrev pub AllFitBy : List (List ℤ) → TrainTrack → GroupoidMap → List Place → Type 0
AllFitBy triples track psi anchors =
    All (FitsBy triples track.left_out (substitution psi.images) anchors) (words_of track.branches)

-- the answer for these anchors: they are kept, each walk with the image of the triangle where its
-- switch starts; the train paths fit; and neither have more letters than the cap
pub record IsAnswerBy (triples : List (List ℤ)) (track : TrainTrack) (psi : GroupoidMap)
    (anchors : List Place) (cap : ℕ) (c : CarryingWalks) : Type 0 where
  pub to : c.to ≡ map (λ p. p.label) anchors
  pub connect : words_of c.connect ≡ map (λ p. p.connect) anchors
  pub starts : (i : ℕ) → i < length anchors
      → (walk_at c.connect i).start
      ≡ vertex_image psi (triangle_of triples (letter_at track.switches i))
  pub images : c.images ≡ walks_by triples track psi anchors
  pub fit : AllFitBy triples track psi anchors
  pub few_between : letters_together (words_of c.connect) ≤ cap
  pub few_along : letters_together (words_of c.images) ≤ cap

-- why there is none for these anchors
abbrev pub IsRefusedBy : List (List ℤ) → TrainTrack → GroupoidMap → List Place → ℕ → AnchorError
    → Type 0
IsRefusedBy triples track psi anchors cap (NoCommonPart e) = ⊥
IsRefusedBy triples track psi anchors cap (Illegal j) =
    IsFirstUnfit triples track.left_out (words_of track.branches) (substitution psi.images) anchors
    j
IsRefusedBy triples track psi anchors cap (CapPassed letters) =
    AllFitBy triples track psi anchors
    × PassesCap (map (λ p. p.connect) anchors) (words_of (walks_by triples track psi anchors))
    cap letters
IsRefusedBy triples track psi anchors cap Memory = Unit {0}

-- the answer of the anchor rule
pub record IsAnchorAnswer (triples : List (List ℤ)) (track : TrainTrack) (psi : GroupoidMap)
    (cap : ℕ) (c : CarryingWalks) : Type 0 where
  pub anchors : List Place
  pub first : AreAnchors triples track.left_out (substitution psi.images) anchors
  pub answer : IsAnswerBy triples track psi anchors cap c

-- why it has none: a switch has no place; or each has one, and with the first of each there is no
-- answer
abbrev pub IsRefusedFor : List (List ℤ) → TrainTrack → GroupoidMap → ℕ → AnchorError → Type 0
IsRefusedFor triples track psi cap (NoCommonPart e) =
    (i : ℕ) × IsFirstWithout triples track.left_out (substitution psi.images) i
    × (e ≡ letter_at (switches_of triples track.left_out) i)
IsRefusedFor triples track psi cap (Illegal j) =
    (anchors : List Place) × AreAnchors triples track.left_out (substitution psi.images) anchors
    × IsRefusedBy triples track psi anchors cap (Illegal j)
IsRefusedFor triples track psi cap (CapPassed letters) =
    (anchors : List Place) × AreAnchors triples track.left_out (substitution psi.images) anchors
    × IsRefusedBy triples track psi anchors cap (CapPassed letters)
IsRefusedFor triples track psi cap Memory = Unit {0}
