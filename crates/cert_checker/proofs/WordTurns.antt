-- The map of a path from the base to the base, after it was followed several times along the path.
use Rattle.std.proofs.Common.{ℕ, ℤ, List, ◌++◌, ◌≡◌, ◌+◌, ◌-◌, ◌<◌, ◌≤◌, sym, ◌∙◌, ap, subst, arith}
use Rattle.std.proofs.Common.{length, take}
use Rattle.std.specs.List.{repeat}
use Rattle.std.proofs.Math.Seq.{take-append-add}
use Rattle.std.proofs.lemmas.List.{take-append-le, length-append}
use Rattle.ideal_tri.specs.Triangulations.{IsLabel}
use Rattle.tri_atlas.specs.Arena.{Arena, MoveHandle, IsArena, triangulation}
use Rattle.tri_atlas.specs.AtlasLaws.{AtlasLaws}
use Rattle.tri_atlas.specs.MapLaws.{RepeatLaws}
use Rattle.tri_atlas.specs.Maps.{letters_of, path_map}
use Rattle.tri_atlas.specs.Moves.{Move}
use Rattle.tri_atlas.specs.Paths.{MovePath, IsPathIn, moves_of}
use Rattle.free_groupoid.specs.GroupoidLaws.{GroupoidLaws}
use Rattle.free_groupoid.specs.GroupoidMaps.{GroupoidMap, IsMapIn, substitution, identity_map, followed_along}
use Rattle.free_groupoid.specs.InnerAnswers.{IsSelfMap}
use Rattle.free_groupoid.specs.MapRefusals.{StaysWithin, IsPathRefusal}
use Rattle.free_groupoid.specs.Periodic.{IsWithin}
use Rattle.free_groupoid.specs.PeriodicLaws.{FoundLaws}
use Rattle.free_groupoid.specs.declared.map.MapError.TheVariants.{CapPassed}
use Rattle.surface_lib.specs.Surfaces.{IsLoop}
use Rattle.cert_text.specs.Limits.{letter_cap}
use Rattle.cert_checker.specs.FirstFailing.{IsFirstFailing}
use Rattle.cert_checker.specs.PeriodicRules.{IsTurnWithin}
use Rattle.cert_checker.specs.inside.PeriodicParts.{IsPower}

-- ---- the cap, in fewer turns

within_front : (triples : List (List ℤ)) (cap : ℕ) (first second : List Move) → IsWithin triples (first ++ second) cap
    → IsWithin triples first cap
within_front triples cap first second all made more =
    subst (λ (ms : List Move). letters_of triples (path_map ms) ≤ cap)
    (take-append-le (made + 1) first second (omega (arith, more)))
    (all made (omega (arith, more, length-append first second)))

pub within_fewer : RepeatLaws Move → (triples : List (List ℤ)) (cap : ℕ) (moves : List Move) (n m : ℕ) → n ≤ m
    → IsWithin triples (repeat m moves) cap → IsWithin triples (repeat n moves) cap
within_fewer repeats triples cap moves n m fewer all =
    let whole : n + (m - n) ≡ m = omega (arith, fewer) in
    within_front triples cap (repeat n moves) (repeat (m - n) moves)
    (subst (λ (ms : List Move). IsWithin triples ms cap)
    (ap (λ (k : ℕ). repeat k moves) (sym whole) ∙ repeats.join n (m - n) moves) all)

-- ---- turns

-- the map of the path taken n times, no letters past the cap on the way
pub record Turned (arena : Arena) (word : MovePath) (n : ℕ) (now : GroupoidMap) : Type 0 where
  pub followed : now ≡ followed_along arena (identity_map arena 0) (repeat n word.moves)
  pub within : StaysWithin arena (identity_map arena 0) (repeat n word.moves) letter_cap
  pub here : IsMapIn arena now

module _ (atlas : AtlasLaws) (found : FoundLaws) (arena : Arena) (word : MovePath) where
  pub turned_more : (n : ℕ) (old new : GroupoidMap) → Turned arena word n old
      → new ≡ followed_along arena old word.moves → StaysWithin arena old word.moves letter_cap → IsMapIn arena new
      → Turned arena word (n + 1) new
  turned_more n old new before is_new within here =
      let f = identity_map arena 0 in
      let done = repeat n word.moves in
      let more : repeat (n + 1) word.moves ≡ done ++ word.moves = atlas.handles.repeats.more n word.moves in
      record {
        followed = is_new ∙ ap (λ (g : GroupoidMap). followed_along arena g word.moves) before.followed
            ∙ sym (found.along.along arena f done word.moves)
            ∙ ap (followed_along arena f) (sym more);
        within = subst (λ (ms : List MoveHandle). StaysWithin arena f ms letter_cap) (sym more)
            (found.along.within arena f done word.moves letter_cap before.within
            (subst (λ (g : GroupoidMap). StaysWithin arena g word.moves letter_cap) before.followed within));
        here = here;
      }

  module _ (sound : IsArena arena) (loop : IsLoop arena word) where
    -- the path taken n times
    abbrev turns : ℕ → MovePath
    turns n = record { start = 0; end = 0; moves = repeat n word.moves }

    in_turns : (n : ℕ) → IsPathIn arena (turns n)
    in_turns n =
        subst (λ (s : ℕ). IsPathIn arena (record { start = s; end = s; moves = repeat n word.moves })) loop.start
        (atlas.ways.often arena word n sound loop.within (loop.end ∙ sym loop.start))

    turns_do : (n : ℕ) → moves_of arena (turns n) ≡ repeat n (moves_of arena word)
    turns_do n = atlas.handles.repeated arena n word.moves

    module _ (n : ℕ) (now : GroupoidMap) (turned : Turned arena word n now) where
      pub at_base : now.target ≡ 0
      at_base =
          ap (λ (f : GroupoidMap). f.target) turned.followed
          ∙ found.along.target arena (identity_map arena 0) (repeat n word.moves) 0 (in_turns n).moves_lead

      from_base : now.source ≡ 0
      from_base =
          ap (λ (f : GroupoidMap). f.source) turned.followed
          ∙ found.along.source arena (identity_map arena 0) (repeat n word.moves)

      pub within_turns : IsWithin (triangulation arena 0) (repeat n (moves_of arena word)) letter_cap
      within_turns =
          subst (λ (ms : List Move). IsWithin (triangulation arena 0) ms letter_cap) (turns_do n)
          (found.within arena (turns n) letter_cap sound (in_turns n) turned.within)

      agrees : GroupoidLaws → (x : ℤ) → IsLabel (triangulation arena 0) x
          → substitution now.images x ≡ path_map (repeat n (moves_of arena word)) x
      agrees groupoid x label =
          ap (λ (f : GroupoidMap). substitution f.images x) turned.followed
          ∙ groupoid.images.path arena (turns n) x sound (in_turns n) label
          ∙ ap (λ (ms : List Move). path_map ms x) (turns_do n)

      pub is_power : GroupoidLaws → IsPower arena (moves_of arena word) n now
      is_power groupoid = record {
        here = turned.here;
        source = from_base;
        target = at_base;
        agrees = agrees groupoid;
        within = within_turns;
      }

    -- ---- a move of one turn more that passes the cap

    module _ (n : ℕ) (old new : GroupoidMap) (turned : Turned arena word n old) (letters : ℕ)
        (refusal : IsPathRefusal arena old new word.moves letter_cap (CapPassed letters)) where
      abbrev before : List MoveHandle
      before = repeat n word.moves

      abbrev all : List MoveHandle
      all = repeat (n + 1) word.moves

      -- the moves of the earlier turns, and some more
      more_of_all : (made : ℕ) → take (length before + made) all ≡ before ++ take made word.moves
      more_of_all made =
          ap (take (length before + made)) (atlas.handles.repeats.more n word.moves)
          ∙ take-append-add before word.moves made

      map_there : (made : ℕ) → new ≡ followed_along arena old (take made word.moves)
          → new ≡ followed_along arena (identity_map arena 0) (take (length before + made) all)
      map_there made is_new =
          is_new ∙ ap (λ (f : GroupoidMap). followed_along arena f (take made word.moves)) turned.followed
          ∙ sym (found.along.along arena (identity_map arena 0) before (take made word.moves))
          ∙ ap (followed_along arena (identity_map arena 0)) (sym (more_of_all made))

      stays_there : (made : ℕ) → StaysWithin arena old (take made word.moves) letter_cap
          → StaysWithin arena (identity_map arena 0) (take (length before + made) all) letter_cap
      stays_there made stays =
          subst (λ (ms : List MoveHandle). StaysWithin arena (identity_map arena 0) ms letter_cap)
          (sym (more_of_all made))
          (found.along.within arena (identity_map arena 0) before (take made word.moves) letter_cap turned.within
          (subst (λ (f : GroupoidMap). StaysWithin arena f (take made word.moves) letter_cap) turned.followed stays))

      refused_in_all : IsPathRefusal arena (identity_map arena 0) new all letter_cap (CapPassed letters)
      refused_in_all =
          let (made, more, stays, is_new, past) = refusal in
          let long : length all ≡ length before + length word.moves =
          ap (λ (ms : List MoveHandle). length ms) (atlas.handles.repeats.more n word.moves)
          ∙ length-append before word.moves in
          let next : length before + (made + 1) ≡ length before + made + 1 = omega arith in (
            length before + made,
            omega (arith, more, long),
            stays_there made stays,
            subst (λ (k : ℕ). new ≡ followed_along arena (identity_map arena 0) (take k all)) next
                (map_there (made + 1) is_new),
            past,
          )

      pub not_within : ¬ IsWithin (triangulation arena 0) (repeat (n + 1) (moves_of arena word)) letter_cap
      not_within within =
          let (made, past) = found.past arena (turns (n + 1)) new letter_cap letters sound (in_turns (n + 1))
          refused_in_all in
          let there : IsWithin (triangulation arena 0) (moves_of arena (turns (n + 1))) letter_cap =
          subst (λ (ms : List Move). IsWithin (triangulation arena 0) ms letter_cap) (sym (turns_do (n + 1))) within in
          absurd (omega (arith, past.past, there made past.more_moves))

      pub first_past : (order : ℕ) → n < order
          → IsFirstFailing order (IsTurnWithin (triangulation arena 0) (moves_of arena word)) n
      first_past order inside = record {
        within = inside;
        fails = not_within;
        before = λ k below.
            within_fewer atlas.ways.repeats (triangulation arena 0) letter_cap (moves_of arena word) (k + 1) n
            (omega (arith, below)) (within_turns n old turned);
      }

-- the power, as a map of the base to itself
pub self_map : (arena : Arena) (moves : List Move) (n : ℕ) (f : GroupoidMap) (triples : List (List ℤ))
    → triples ≡ triangulation arena 0 → IsPower arena moves n f → IsSelfMap triples f
self_map arena moves n f triples is_base power = record {
  arena = arena;
  map = power.here;
  source = ap (triangulation arena) power.source ∙ sym is_base;
  target = ap (triangulation arena) power.target ∙ sym is_base;
}
