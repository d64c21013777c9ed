-- The rays of a switch, and its places, read off the rays: where all back rays go the same way, and
-- where all front rays do, and no back ray goes along with a front ray.
use Rattle.std.specs.Prelude.{◌≡◌, ◌||◌, ℕ, ℤ, Bool, List, [], ◌∷◌, ◌++◌, length, map}
use Rattle.std.specs.Prelude.{if◌then◌else◌, Vec, All, filter, take, drop, max}
use Rattle.std.specs.Global.{Global}
use Rattle.std.specs.List.{flat_map, list_any}
use Rattle.std.specs.Ordering.{int_eq}
use Rattle.ideal_tri.specs.Labels.{inverse}
use Rattle.ideal_tri.specs.Words.{last_of}
use Rattle.ideal_tri.specs.Triangulations.{next, previous}
use Rattle.free_groupoid.specs.Walks.{DualWalk, IsWalkOn}
use Rattle.free_groupoid.specs.GroupoidMaps.{reduced_image}
use Rattle.train_track.specs.Tracks.{is_left_out, is_switch}
use Rattle.train_track.specs.Branches.{words_of}
use Rattle.carry_map.specs.Anchors.{Place}
use Rattle.carry_map.specs.declared.places.Spot.{Spot}

-- the words that the vectors hold
abbrev pub words_in : List (Vec ℤ Global) → List (List ℤ)
words_in vectors = map (λ v. v.items) vectors

-- ---- legal walks from a letter

-- the letter, where the corner is kept
abbrev pub if_kept : List ℤ → ℤ → ℤ → List ℤ
if_kept left_out corner y = if is_left_out left_out corner then [] else (y ∷ [])

-- the letters that may follow u
abbrev pub followers : List (List ℤ) → List ℤ → ℤ → List ℤ
followers triples left_out u =
    if_kept left_out (inverse u) (next triples (inverse u))
    ++ if_kept left_out (previous triples (inverse u)) (previous triples (inverse u))

-- the word with each letter that may follow it; without letters it goes on from u
abbrev pub longer : List (List ℤ) → List ℤ → ℤ → List ℤ → List (List ℤ)
longer triples left_out u w = map (λ y. w ++ (y ∷ [])) (followers triples left_out (last_of u w))

-- the words with three letters more
abbrev pub three_longer : List (List ℤ) → List ℤ → ℤ → List ℤ → List (List ℤ)
three_longer triples left_out u w =
    flat_map (longer triples left_out u)
    (flat_map (longer triples left_out u) (longer triples left_out u w))

-- the ways back from where s starts, and the ways on from there
abbrev pub back_words : List (List ℤ) → List ℤ → ℤ → List (List ℤ)
back_words triples left_out s = three_longer triples left_out (inverse s) []

abbrev pub front_words : List (List ℤ) → List ℤ → ℤ → List (List ℤ)
front_words triples left_out s = three_longer triples left_out s (s ∷ [])

-- the rays are the images of these words, and walks from this triangle
pub record AreRaysFrom (triples : List (List ℤ)) (f : ℤ → List ℤ) (start : ℕ)
    (words : List (List ℤ)) (rays : List DualWalk) : Type 0 where
  pub value : words_of rays ≡ map (reduced_image f) words
  pub starts : All (λ w. w.start ≡ start) rays
  pub walks : All (IsWalkOn triples) rays

-- ---- common prefixes

abbrev pub common_prefix : List ℤ → List ℤ → List ℤ
common_prefix [] v = []
common_prefix (x ∷ u) [] = []
common_prefix (x ∷ u) (y ∷ v) = if int_eq x y then (x ∷ common_prefix u v) else []

-- of a word and of each word of a list
abbrev pub common_with : List ℤ → List (List ℤ) → List ℤ
common_with w [] = w
common_with w (v ∷ words) = common_with (common_prefix w v) words

-- of all words of a list
abbrev pub common_of : List (List ℤ) → List ℤ
common_of [] = []
common_of (w ∷ words) = common_with w words

-- how many letters the word has in common with one of the list at most, and then any two have, one
-- of each list
abbrev pub shared : List ℤ → List (List ℤ) → ℕ
shared u [] = 0
shared u (v ∷ words) = max (length (common_prefix u v)) (shared u words)

abbrev pub most_shared : List (List ℤ) → List (List ℤ) → ℕ
most_shared [] fronts = 0
most_shared (u ∷ backs) fronts = max (shared u fronts) (most_shared backs fronts)

-- ---- places

-- along the letters, which come behind c, backwards; and onwards
abbrev pub places_back : List ℤ → List ℤ → List Place
places_back c [] = []
places_back c (x ∷ w) =
    places_back (c ++ (x ∷ [])) w
    ++ (record { connect = c ++ (x ∷ []); label = inverse x } ∷ [])

abbrev pub places_on : List ℤ → List ℤ → List Place
places_on c [] = []
places_on c (y ∷ w) = record { connect = c; label = y } ∷ places_on (c ++ (y ∷ [])) w

-- along a word back or a word on, behind so many letters of it
abbrev pub place_along : List ℤ → List ℤ → Spot → Place
place_along back on s = record {
  connect = take s.letters (if s.on then on else back);
  label = s.label;
}

abbrev pub places_at : List ℤ → List ℤ → List Spot → List Place
places_at back on spots = map (place_along back on) spots

-- the label or its inverse is one of these
unfoldable pub is_listed : List ℤ → ℤ → Bool
is_listed labels y =
    list_any (λ x. int_eq x y) labels || list_any (λ x. int_eq x (inverse y)) labels

-- the places at these labels
abbrev pub at_listed : List ℤ → List Place → List Place
at_listed labels places = filter (λ p. is_listed labels p.label) places

-- those at switches
abbrev pub at_switches : List (List ℤ) → List ℤ → List Place → List Place
at_switches triples left_out places = filter (λ p. is_switch triples left_out p.label) places

-- behind the first n letters, back along one word and then on along another
abbrev pub places_past : ℕ → List ℤ → List ℤ → List Place
places_past n back front =
    places_back (take n back) (drop n back) ++ places_on (take n front) (drop n front)

-- the places of these rays
abbrev pub places_of : List (List ℤ) → List ℤ → List (List ℤ) → List (List ℤ) → List Place
places_of triples left_out backs fronts =
    at_switches triples left_out
    (places_past (most_shared backs fronts) (common_of backs) (common_of fronts))

-- the places of a switch
abbrev pub places_of_switch : List (List ℤ) → List ℤ → (ℤ → List ℤ) → ℤ → List Place
places_of_switch triples left_out f s =
    places_of triples left_out (map (reduced_image f) (back_words triples left_out s))
    (map (reduced_image f) (front_words triples left_out s))
