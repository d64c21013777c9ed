-- Anchors in the middle of the places of a switch: as far along as the branches after it allow, and
-- as far back as those before it do.
use Rattle.std.specs.Prelude.{◌≡◌, ◌⊎◌, ◌<◌, ◌≤◌, ◌+◌, ◌-◌, ◌/◌, ◌++◌, ◌∷◌, ℕ, ℤ, pos, negsuc, true}
use Rattle.std.specs.Prelude.{List, [], length, filter, All, slice_index_or}
use Rattle.std.specs.List.{flat_map}
use Rattle.ideal_tri.specs.Labels.{inverse, edge_of}
use Rattle.ideal_tri.specs.Words.{inverse_word, reduce, but_last}
use Rattle.ideal_tri.specs.Triangulations.{IsLabel}
use Rattle.free_groupoid.specs.GroupoidMaps.{GroupoidMap, substitution}
use Rattle.train_track.specs.Tracks.{is_switch, switches_of}
use Rattle.train_track.specs.Branches.{TrainTrack, letter_at, words_of}
use Rattle.carry_map.specs.Anchors.{Place, ArePlaces}
use Rattle.carry_map.specs.CarriedMaps.{beside, final}
use Rattle.carry_map.specs.CarryingWalks.{CarryingWalks}
use Rattle.carry_map.specs.AnchorAnswers.{place_at, IsFirstWithout, IsAnswerBy, IsRefusedBy}
use Rattle.carry_map.specs.declared.carry.AnchorError.{AnchorError}
use Rattle.carry_map.specs.declared.carry.AnchorError.TheVariants.{NoCommonPart, Illegal}
use Rattle.carry_map.specs.declared.carry.AnchorError.TheVariants.{CapPassed, Memory}

-- ---- the places of labels

-- the places of each switch, some for each
pub record HavePlaces (triples : List (List ℤ)) (left_out : List ℤ) (f : ℤ → List ℤ)
    (all : List (List Place)) : Type 0 where
  pub one_list_each : length all ≡ length (switches_of triples left_out)
  pub places : (i : ℕ) → i < length all
      → ArePlaces triples left_out f (letter_at (switches_of triples left_out) i)
      (slice_index_or all i [])
  pub some : (i : ℕ) → i < length all → 0 < length (slice_index_or all i [])

-- how many places the switch has whose label this is, in either direction
abbrev pub place_count : List ℤ → List (List Place) → ℤ → ℕ
place_count switches all x = length (beside [] switches all (pos (edge_of x)))

-- a place of the switch s, seen from the other end of s
abbrev pub turned_place : (ℤ → List ℤ) → ℤ → Place → Place
turned_place f s p = record {
  connect = reduce (f (inverse s) ++ (p.connect ++ (p.label ∷ [])));
  label = inverse p.label;
}

-- place i of a label of a switch; those of the inverse are the same backwards, seen from there
abbrev pub place_of : List ℤ → (ℤ → List ℤ) → List (List Place) → ℤ → ℕ → Place
place_of switches f all (pos n) i = place_at (beside [] switches all (pos n)) i
place_of switches f all (negsuc n) i =
    turned_place f (pos n)
    (place_at (beside [] switches all (pos n)) (place_count switches all (pos n) - 1 - i))

abbrev pub first_place : List ℤ → (ℤ → List ℤ) → List (List Place) → ℤ → Place
first_place switches f all x = place_of switches f all x 0

abbrev pub last_place : List ℤ → (ℤ → List ℤ) → List (List Place) → ℤ → Place
last_place switches f all x = place_of switches f all x (place_count switches all x - 1)

-- ---- heights

-- the walk along the image of a branch, from one place to another, across the letter of the latter
abbrev pub walk_between : (ℤ → List ℤ) → Place → Place → List ℤ → List ℤ
walk_between f p q branch =
    reduce (inverse_word p.connect
    ++ (flat_map f (but_last branch) ++ (q.connect ++ (q.label ∷ []))))

-- how many letters of switches it has, from the first place of the branch's first letter to the
-- last place of its last letter
abbrev pub switches_between : List (List ℤ) → List ℤ → (ℤ → List ℤ) → List (List Place) → List ℤ
    → ℕ
switches_between triples left_out f all branch =
    length (filter (is_switch triples left_out) (walk_between f
    (first_place (switches_of triples left_out) f all (letter_at branch 0))
    (last_place (switches_of triples left_out) f all (final branch)) branch))

-- the height of x is 0; or it leaves room for y, so many letters on
abbrev pub LeavesRoom : (ℤ → ℕ) → (ℤ → ℕ) → ℕ → ℤ → ℤ → Type 0
LeavesRoom count h between x y = (h x ≡ 0) ⊎ (h x + count y < h y + between)

-- a height for each label of a switch, below the number of its places, that leaves room along each
-- branch and along its inverse
pub record AreHeights (triples : List (List ℤ)) (left_out : List ℤ) (branches : List (List ℤ))
    (f : ℤ → List ℤ) (all : List (List Place)) (h : ℤ → ℕ) : Type 0 where
  pub within : (x : ℤ) → IsLabel triples x → is_switch triples left_out x ≡ true
      → h x < place_count (switches_of triples left_out) all x
  pub on : All (λ b. LeavesRoom (place_count (switches_of triples left_out) all) h
      (switches_between triples left_out f all b) (letter_at b 0) (final b)) branches
  pub back : All (λ b. LeavesRoom (place_count (switches_of triples left_out) all) h
      (switches_between triples left_out f all b) (inverse (final b)) (inverse (letter_at b 0)))
      branches

-- the greatest of these
pub record AreGreatestHeights (triples : List (List ℤ)) (left_out : List ℤ)
    (branches : List (List ℤ)) (f : ℤ → List ℤ) (all : List (List Place)) (h : ℤ → ℕ) : Type 0
  where
    pub heights : AreHeights triples left_out branches f all h
    pub greatest : (g : ℤ → ℕ) → AreHeights triples left_out branches f all g → (x : ℤ)
        → IsLabel triples x → is_switch triples left_out x ≡ true → g x ≤ h x

-- ---- anchors

-- halfway between the height of a switch from its first place on and that of its inverse from its
-- last place back, among n places
abbrev pub middle : ℕ → (ℤ → ℕ) → ℤ → ℕ
middle n h s = (n - 1 - h (inverse s) + h s) / 2

-- one place for each switch, by the greatest heights
pub record AreMiddleAnchors (triples : List (List ℤ)) (left_out : List ℤ)
    (branches : List (List ℤ)) (f : ℤ → List ℤ) (anchors : List Place) : Type 0 where
  pub all : List (List Place)
  pub have : HavePlaces triples left_out f all
  pub h : ℤ → ℕ
  pub greatest : AreGreatestHeights triples left_out branches f all h
  pub one_each : length anchors ≡ length all
  pub halfway : (i : ℕ) → i < length anchors
      → place_at anchors i ≡ place_at (slice_index_or all i [])
      (middle (length (slice_index_or all i [])) h (letter_at (switches_of triples left_out) i))

-- ---- answers

-- the answer of the middle rule
pub record IsMiddleAnswer (triples : List (List ℤ)) (track : TrainTrack) (psi : GroupoidMap)
    (cap : ℕ) (c : CarryingWalks) : Type 0 where
  pub anchors : List Place
  pub chosen : AreMiddleAnchors triples track.left_out (words_of track.branches) (substitution
      psi.images) anchors
  pub answer : IsAnswerBy triples track psi anchors cap c

-- why it has none: a switch has no place; or each has one, and with the chosen ones there is no
-- answer
abbrev pub IsMiddleRefusal : List (List ℤ) → TrainTrack → GroupoidMap → ℕ → AnchorError → Type 0
IsMiddleRefusal triples track psi cap (NoCommonPart e) =
    (i : ℕ) × IsFirstWithout triples track.left_out (substitution psi.images) i
    × (e ≡ letter_at (switches_of triples track.left_out) i)
IsMiddleRefusal triples track psi cap (Illegal j) =
    (anchors : List Place)
    × AreMiddleAnchors triples track.left_out (words_of track.branches) (substitution psi.images)
    anchors
    × IsRefusedBy triples track psi anchors cap (Illegal j)
IsMiddleRefusal triples track psi cap (CapPassed letters) =
    (anchors : List Place)
    × AreMiddleAnchors triples track.left_out (words_of track.branches) (substitution psi.images)
    anchors
    × IsRefusedBy triples track psi anchors cap (CapPassed letters)
IsMiddleRefusal triples track psi cap Memory = Unit {0}
