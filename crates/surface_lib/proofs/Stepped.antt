-- What a word does depends on what its generators do alone.
--
-- Let a map of moves keep how moves are turned round, and which are flips. Then it takes the moves of a name to those
-- of the name over the mapped generators, since a search for a name looks at spellings alone and a path backwards is
-- taken to the image backwards. So it takes the moves of a word to those of the word over the mapped generators, by
-- induction on its pieces and levels. The tests of the pieces ask only which names there are, the names of a word are
-- counted without its moves, and flips and moves are as many as before. So a text is read the same.
use Rattle.std.proofs.Common.{◌≡◌, ◌+◌, ◌<◌, ◌≤◌, ◌⊎◌, ℕ, zero, suc, Bool, true, false, cond, List, [], ◌∷◌, ◌++◌}
use Rattle.std.proofs.Common.{length, map, Option, Some, None, Result, Ok, Err, inl, inr, refl, ap, sym, subst, ◌∙◌}
use Rattle.std.specs.Prelude.{nat_lt, not, reverse, String, if◌then◌else◌}
use Rattle.std.specs.List.{find, repeat}
use Rattle.std.specs.Option.{option_map}
use Rattle.std.specs.Result.{result_map_both}
use Rattle.std.specs.Str.{bytes_eq}
use Rattle.std.proofs.lemmas.List.{length-map, map-append, reverse-append, get_or_past}
use Rattle.std.specs.declared.alloc.Global.{Global}
use Rattle.std.proofs.lemmas.Bool.{cases_lt}
use Rattle.tri_atlas.specs.Moves.{Move, relabel, back_of}
use Rattle.tri_atlas.specs.Arena.{Arena, Entry, MoveHandle, step_of, back, IsArena}
use Rattle.tri_atlas.specs.Paths.{MovePath}
use Rattle.tri_atlas.specs.AtlasLaws.{HandleLaws}
use Rattle.surface_lib.specs.Pieces.{Piece, empty, group, name, piece, pieces, dots, bad_bracket}
use Rattle.surface_lib.specs.Powers.{power}
use Rattle.surface_lib.specs.Spelling.{is_upper}
use Rattle.surface_lib.specs.Words.{Generator, Names, backwards, moves_of, moves_named, and_then, test_power, test_name}
use Rattle.surface_lib.specs.Words.{test_piece, test_pieces, test_text, value_of_text, moves_written, names_written}
use Rattle.surface_lib.specs.Refusals.{Kind, part_limit, flip_limit, move_limit, levels, flips_among, sized, sized_if}
use Rattle.surface_lib.specs.Refusals.{tested, reading, moves_kind, handles_kind}
use Rattle.surface_lib.specs.Surfaces.{generators_in, generators_of}
use Rattle.surface_lib.specs.Described.{named_moves, described}
use Rattle.surface_lib.specs.declared.surface.Surface.{Surface}
use Rattle.surface_lib.specs.declared.power.Power.{Power}
use Rattle.surface_lib.specs.declared.error.WordError.{WordError}
use Rattle.surface_lib.specs.declared.error.WordError.TheVariants.{WordTooLong, PartsOver, FlipsOver}
use Rattle.surface_lib.specs.declared.error.WordError.TheVariants.{MovesOver}
use Rattle.surface_lib.proofs.Backwards.{counted-map}
use Rattle.surface_lib.proofs.Carried.{IsCarried, carried_text}

-- ---- lists

reverse-map : {M N : Type 0} (f : M → N) (u : List M) → reverse (map f u) ≡ map f (reverse u)
reverse-map f [] = refl
reverse-map f (m ∷ u) =
    reverse-append (f m ∷ []) (map f u)
    ∙ ap (λ (z : List _). z ++ f m ∷ []) (reverse-map f u)
    ∙ sym (map-append f (reverse u) (m ∷ []))
    ∙ sym (ap (map f) (reverse-append (m ∷ []) u))

-- ---- generators whose moves are mapped

abbrev pub mapped : {M N : Type 0} → (M → N) → Generator M → Generator N
mapped f g = record { spelt = g.spelt; moves = map f g.moves }

-- a map that keeps how moves are turned round, and which are flips, and that goes with lists taken several times
pub record IsKept {M N : Type 0} (from : Kind M) (to : Kind N) (f : M → N) : Type 0 where
  pub turned : (m : M) → f (from.turned m) ≡ to.turned (f m)
  pub flips : (m : M) → to.is_flip (f m) ≡ from.is_flip m
  pub repeated : (n : ℕ) (u : List M) → map f (repeat n u) ≡ repeat n (map f u)

-- what a map makes of the answer of a reading
abbrev pub result_map : {A B : Type 0} → (A → B) → Result A WordError → Result B WordError
result_map f r = result_map_both f (λ refusal. refusal) r

-- ---- the tests of the pieces, over as many names

same_named : {M N : Type 0} (f : List M → List N) (n : ℕ) (o : Option (List M)) (k : Option Power)
    → test_name n (option_map f o) k ≡ test_name n o k
same_named f n None k = refl
same_named f n (Some moves) k = refl

module _ {M N : Type 0} (f : List M → List N) (names : Names M) (others : Names N)
    (same : (s : List ℕ) → option_map f (names s) ≡ others s) where
  same_piece : (t u : ℕ → List ℕ → Result ℕ WordError) → ((n : ℕ) (s : List ℕ) → t n s ≡ u n s) → (n : ℕ) (q : Piece)
      → test_piece others t n q ≡ test_piece names u n q
  same_piece t u e n empty = refl
  same_piece t u e n (group s k) = ap (λ (z : Result ℕ WordError). and_then z (λ next. test_power n next (power k)))
      (e n s)
  same_piece t u e n (name s k) =
      ap (λ (z : Option (List N)). test_name n z (power k)) (sym (same s)) ∙ same_named f n (names s) (power k)

  same_next : (r : Result ℕ WordError) (t u : ℕ → Result ℕ WordError) → ((n : ℕ) → t n ≡ u n)
      → and_then r t ≡ and_then r u
  same_next (Ok n) t u e = e n
  same_next (Err refusal) t u e = refl

  same_pieces : (t u : ℕ → List ℕ → Result ℕ WordError) → ((n : ℕ) (s : List ℕ) → t n s ≡ u n s) → (n : ℕ) (qs : List
      (List ℕ))
      → test_pieces others t n qs ≡ test_pieces names u n qs
  same_pieces t u e n [] = refl
  same_pieces t u e n (q ∷ qs) =
      ap (λ (z : Result ℕ WordError). and_then z (λ next. test_pieces others t next qs)) (same_piece t u e n (piece q))
      ∙ same_next (test_piece names u n (piece q)) (λ next. test_pieces others t next qs)
      (λ next. test_pieces names u next qs) (λ next. same_pieces t u e next qs)

  same_tests : (k n : ℕ) (s : List ℕ) → test_text others k n s ≡ test_text names k n s
  same_tests zero n s = refl
  same_tests (suc k) n s = same_pieces (test_text others k) (test_text names k) (same_tests k) n (pieces s)

-- ---- the sizes

sized-map : {M N : Type 0} (f : M → N) (names flips : ℕ) (u : List M)
    → sized names flips (map f u) ≡ result_map (map f) (sized names flips u)
sized-map f names flips u =
    ap (λ (n : ℕ). if nat_lt part_limit names then Err (PartsOver names) else if nat_lt flip_limit flips then Err
    (FlipsOver flips)
    else if nat_lt move_limit n then Err (MovesOver n) else Ok (map f u)) (length-map u f)
    ∙ by (nat_lt part_limit names) (nat_lt flip_limit flips) (nat_lt move_limit (length u))
  where
    by : (a b c : Bool)
        → (if a then Err (PartsOver names) else if b then Err (FlipsOver flips) else if c then Err (MovesOver (length
        u)) else Ok (map f u))
        ≡ result_map (map f) (if a then Err (PartsOver names) else if b then Err (FlipsOver flips) else if c then Err
        (MovesOver (length u)) else Ok u)
    by true b c = refl
    by false true c = refl
    by false false true = refl
    by false false false = refl

module _ {M N : Type 0} (from : Kind M) (to : Kind N) (f : M → N) (kept : IsKept from to f) where
  -- ---- names

  turned_all : (u : List M) → map to.turned (map f u) ≡ map f (map from.turned u)
  turned_all [] = refl
  turned_all (m ∷ u) =
      ap (λ (z : N). z ∷ map to.turned (map f u)) (sym (kept.turned m))
      ∙ ap (λ (z : List N). f (from.turned m) ∷ z) (turned_all u)

  backwards-map : (u : List M) → backwards to.turned (map f u) ≡ map f (backwards from.turned u)
  backwards-map u = ap reverse (turned_all u) ∙ reverse-map f (map from.turned u)

  backwards_found : (o : Option (List M)) → option_map (backwards to.turned) (option_map (map f) o)
      ≡ option_map (map f) (option_map (backwards from.turned) o)
  backwards_found None = refl
  backwards_found (Some u) = ap Some (backwards-map u)

  moves_of-map : (s : List ℕ) (gs : List (Generator M))
      → moves_of s (map (mapped f) gs) ≡ option_map (map f) (moves_of s gs)
  moves_of-map s [] = refl
  moves_of-map s (g ∷ gs) = by (bytes_eq g.spelt s) (moves_of-map s gs)
    where
      by : (b : Bool) → moves_of s (map (mapped f) gs) ≡ option_map (map f) (moves_of s gs)
          → option_map (λ (x : Generator N). x.moves) (cond b (Some (mapped f g)) (find (λ x. bytes_eq x.spelt s) (map
          (mapped f) gs)))
          ≡ option_map (map f) (option_map (λ (x : Generator M). x.moves) (cond b (Some g) (find (λ x. bytes_eq x.spelt
          s) gs)))
      by true later = refl
      by false later = later

  named-map : (gs : List (Generator M)) (s : List ℕ)
      → option_map (map f) (moves_named from.turned gs s) ≡ moves_named to.turned (map (mapped f) gs) s
  named-map gs [] = refl
  named-map gs (c ∷ s) = by (is_upper c)
    where
      by : (b : Bool)
          → option_map (map f) (if b then option_map (backwards from.turned) (moves_of ((c + 32) ∷ s) gs) else moves_of
          (c ∷ s) gs)
          ≡ (if b then option_map (backwards to.turned) (moves_of ((c + 32) ∷ s) (map (mapped f) gs)) else moves_of (c ∷
          s) (map (mapped f) gs))
      by true = sym (ap (option_map (backwards to.turned)) (moves_of-map ((c + 32) ∷ s) gs)
          ∙ backwards_found (moves_of ((c + 32) ∷ s) gs))
      by false = sym (moves_of-map (c ∷ s) gs)

  -- ---- values

  turned_if : (b : Bool) (u : List M) → map f (if b then backwards from.turned u else u)
      ≡ (if b then backwards to.turned (map f u) else map f u)
  turned_if true u = sym (backwards-map u)
  turned_if false u = refl

  moves_carried : IsCarried (moves_written from.turned) (moves_written to.turned) (map f) (map f)
  moves_carried = record {
    none = refl;
    joined = map-append f;
    taken = λ k u. kept.repeated k.times (if k.backwards then backwards from.turned u else u)
        ∙ ap (λ (z : List N). repeat k.times z) (turned_if k.backwards u);
    named = λ moves. refl;
  }

  names_carried : IsCarried names_written names_written (map f) (λ n. n)
  names_carried = record { none = refl; joined = λ a b. refl; taken = λ k n. refl; named = λ moves. refl }

  -- ---- readings

  module _ (names : Names M) (others : Names N) (same : (s : List ℕ) → option_map (map f) (names s) ≡ others s) where
    moves_are : (k : ℕ) (s : List ℕ) → map f (value_of_text (moves_written from.turned) names k s)
        ≡ value_of_text (moves_written to.turned) others k s
    moves_are k s = carried_text (moves_written from.turned) (moves_written to.turned) (map f) (map f) moves_carried
        names others same k s

    names_are : (k : ℕ) (s : List ℕ) → value_of_text names_written names k s ≡ value_of_text names_written others k s
    names_are k s = carried_text names_written names_written (map f) (λ n. n) names_carried names others same k s

    sized_same : (s : List ℕ) (r : Result ℕ WordError) → sized_if to others s r ≡ result_map (map f) (sized_if from
        names s r)
    sized_same s (Err refusal) = refl
    sized_same s (Ok n) =
        let u : List M = value_of_text (moves_written from.turned) names levels s in
        let all : ℕ = value_of_text names_written names levels s in
        ap (λ (z : List N). sized (value_of_text names_written others levels s) (flips_among to z) z)
        (sym (moves_are levels s))
        ∙ ap (λ (z : ℕ). sized z (flips_among to (map f u)) (map f u)) (sym (names_are levels s))
        ∙ ap (λ (z : ℕ). sized all z (map f u)) (counted-map to.is_flip from.is_flip f kept.flips 0 u)
        ∙ sized-map f all (flips_among from u) u

    tested_same : (s : List ℕ) (place : Option ℕ) → tested to others s place
        ≡ result_map (map f) (tested from names s place)
    tested_same s (Some place) = refl
    tested_same s None = by (nat_lt part_limit (dots s + 1))
      where
        by : (b : Bool)
            → (if b then Err (WordTooLong (dots s + 1)) else sized_if to others s (test_text others levels 0 s))
            ≡ result_map (map f) (if b then Err (WordTooLong (dots s + 1)) else sized_if from names s (test_text names
            levels 0 s))
        by true = refl
        by false = ap (sized_if to others s) (same_tests (map f) names others same levels 0 s)
            ∙ sized_same s (test_text names levels 0 s)

  -- a text is read over the mapped generators as over the generators, with its moves mapped
  pub reading-mapped : (gs : List (Generator M)) (s : List ℕ)
      → reading to (map (mapped f) gs) s ≡ result_map (map f) (reading from gs s)
  reading-mapped gs s =
      tested_same (moves_named from.turned gs) (moves_named to.turned (map (mapped f) gs)) (named-map gs) s
      (bad_bracket 0 0 s)

-- ---- what the moves of a surface's generators do

-- a handle with the number of no move stands for the relabelling of no labels, which is its own inverse
turned_past : (arena : Arena) (m : MoveHandle) → length arena.moves ≤ m.number
    → step_of arena (back m) ≡ back_of (step_of arena m)
turned_past arena m past =
    let nothing : Entry = record { source = 0; target = 0; move = relabel [] } in
    subst (λ (z : Entry). (if not m.backwards then back_of z.move else z.move)
    ≡ back_of (if m.backwards then back_of z.move else z.move))
    (sym (get_or_past arena.moves m.number nothing past)) (by m.backwards)
  where
    by : (b : Bool) → (if not b then back_of (relabel []) else relabel [])
        ≡ back_of (if b then back_of (relabel []) else relabel [])
    by true = refl
    by false = refl

step_kept : HandleLaws → (arena : Arena) → IsArena arena → IsKept (handles_kind arena) moves_kind (step_of arena)
step_kept laws arena sound = record {
  turned = λ m. by m (cases_lt m.number (length arena.moves));
  flips = λ m. refl;
  repeated = laws.repeated arena;
}
  where
    by : (m : MoveHandle) → (m.number < length arena.moves) ⊎ (length arena.moves ≤ m.number)
        → step_of arena (back m) ≡ back_of (step_of arena m)
    by m (inl here) = laws.back arena m sound here
    by m (inr past) = turned_past arena m past

described_generators : (arena : Arena) (es : List (String Global × MovePath))
    → map (named_moves arena) es ≡ map (mapped (step_of arena)) (generators_in es)
described_generators arena [] = refl
described_generators arena (e ∷ es) = ap (λ (z : List (Generator Move)). named_moves arena e ∷ z)
    (described_generators arena es)

-- a text read over what the moves do is the text read over the handles, with what its moves do
pub reading_of_steps : HandleLaws → (s : Surface) → IsArena s.atlas → (t : List ℕ)
    → reading moves_kind (described s).generators t
    ≡ result_map (map (step_of s.atlas)) (reading (handles_kind s.atlas) (generators_of s) t)
reading_of_steps laws s sound t =
    ap (λ (z : List (Generator Move)). reading moves_kind z t) (described_generators s.atlas s.generators.entries)
    ∙ reading-mapped (handles_kind s.atlas) moves_kind (step_of s.atlas) (step_kept laws s.atlas sound)
    (generators_of s) t

pub accepted_of_steps : HandleLaws → (s : Surface) → IsArena s.atlas → (t : List ℕ) (moves : List MoveHandle)
    → reading (handles_kind s.atlas) (generators_of s) t ≡ Ok moves
    → reading moves_kind (described s).generators t ≡ Ok (map (step_of s.atlas) moves)
accepted_of_steps laws s sound t moves e =
    reading_of_steps laws s sound t
    ∙ ap (λ (r : Result (List MoveHandle) WordError). result_map (map (step_of s.atlas)) r) e

pub refused_of_steps : HandleLaws → (s : Surface) → IsArena s.atlas → (t : List ℕ) (refusal : WordError)
    → reading (handles_kind s.atlas) (generators_of s) t ≡ Err refusal
    → reading moves_kind (described s).generators t ≡ Err refusal
refused_of_steps laws s sound t refusal e =
    reading_of_steps laws s sound t
    ∙ ap (λ (r : Result (List MoveHandle) WordError). result_map (map (step_of s.atlas)) r) e
