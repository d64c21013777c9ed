-- The map of a path, followed along one path after another.
--
-- Behind n moves let the map pass the cap first after k more. So it does along every path that begins with these moves
-- and these, and no such path stays within the cap.
use Rattle.std.proofs.Common.{◌≡◌, ◌<◌, ◌≤◌, ◌+◌, ◌-◌, ◌++◌, ℕ, suc, List, [], ◌∷◌, refl, sym, ◌∙◌, ap, subst}
use Rattle.std.proofs.Common.{arith, length, map, take}
use Rattle.std.specs.List.{repeat}
use Rattle.std.proofs.lemmas.List.{append-nil, append_assoc, length-append, take-append-le}
use Rattle.std.proofs.Math.Seq.{take-append-add}
use Rattle.tri_atlas.specs.Arena.{Arena, MoveHandle, IsArena, triangulation, step_of, target_of}
use Rattle.tri_atlas.specs.MapLaws.{RepeatLaws}
use Rattle.tri_atlas.specs.Paths.{IsPathIn, Lead}
use Rattle.free_groupoid.specs.GroupoidLaws.{AlongLaws}
use Rattle.free_groupoid.specs.GroupoidMaps.{GroupoidMap, followed_along, identity_map}
use Rattle.free_groupoid.specs.MapRefusals.{StaysWithin, IsPathRefusal}
use Rattle.free_groupoid.specs.Periodic.{IsWithin}
use Rattle.free_groupoid.specs.PeriodicLaws.{FoundLaws}
use Rattle.free_groupoid.specs.declared.map.MapError.TheVariants.{CapPassed}
use Rattle.cert_text.specs.Limits.{letter_cap}
use Rattle.cert_checker.specs.inside.SiteSteps.{IsMapAlong, GoesOn, PassesOn}

-- ---- within the cap

pub goes_on : (arena : Arena) (f g : GroupoidMap) (moves : List MoveHandle) → AlongLaws
    → g ≡ followed_along arena f moves → StaysWithin arena f moves letter_cap → GoesOn arena f moves g
goes_on arena f g moves laws is stays start before h = record {
  map =
      is ∙ ap (λ (k : GroupoidMap). followed_along arena k moves) h.map
      ∙ sym (laws.along arena (identity_map arena start) before moves);
  within =
      laws.within arena (identity_map arena start) before moves letter_cap h.within
      (subst (λ (k : GroupoidMap). StaysWithin arena k moves letter_cap) h.map stays);
}

pub stays_there : (arena : Arena) (f : GroupoidMap) → GoesOn arena f [] f
stays_there arena f start before h =
    subst (λ (ms : List MoveHandle). IsMapAlong arena start ms f) (sym (append-nil before)) h

pub goes_further : (arena : Arena) (f g h : GroupoidMap) (first second : List MoveHandle)
    → GoesOn arena f first g → GoesOn arena g second h → GoesOn arena f (first ++ second) h
goes_further arena f g h first second one two start before k =
    subst (λ (ms : List MoveHandle). IsMapAlong arena start ms h) (append_assoc before first second)
    (two start (before ++ first) (one start before k))

-- ---- past the cap

joined_moves : (before first second third rest : List MoveHandle)
    → before ++ ((first ++ (second ++ third)) ++ rest) ≡ (before ++ first) ++ (second ++ (third ++ rest))
joined_moves before first second third rest =
    ap (λ (ms : List MoveHandle). before ++ ms)
    (append_assoc first (second ++ third) rest
    ∙ ap (λ (ms : List MoveHandle). first ++ ms) (append_assoc second third rest))
    ∙ sym (append_assoc before first (second ++ (third ++ rest)))

-- it passes the cap later on, whatever follows
pub passes_later : (arena : Arena) (f g : GroupoidMap) (first second third : List MoveHandle)
    → GoesOn arena f first g → PassesOn arena g second → PassesOn arena f (first ++ (second ++ third))
passes_later arena f g first second third goes passes start end before rest h path within =
    let same = joined_moves before first second third rest in
    passes start end (before ++ first) (third ++ rest) (goes start before h)
    (subst (λ (ms : List MoveHandle). IsPathIn arena (record { start = start; end = end; moves = ms })) same path)
    (subst (λ (ms : List MoveHandle). IsWithin (triangulation arena start) (map (step_of arena) ms) letter_cap) same
    within)

module _ (arena : Arena) (f g : GroupoidMap) (moves : List MoveHandle) (laws : AlongLaws) (start : ℕ)
    (before rest : List MoveHandle) (h : IsMapAlong arena start before f) where
  abbrev whole : List MoveHandle
  whole = before ++ (moves ++ rest)

  first_of_whole : (k : ℕ) → k ≤ length moves → take (length before + k) whole ≡ before ++ take k moves
  first_of_whole k few =
      take-append-add before (moves ++ rest) k
      ∙ ap (λ (ms : List MoveHandle). before ++ ms) (take-append-le k moves rest few)

  length_of_whole : length whole ≡ length before + (length moves + length rest)
  length_of_whole =
      length-append before (moves ++ rest)
      ∙ ap (λ (n : ℕ). length before + n) (length-append moves rest)

  refused_of_whole : (letters : ℕ) → IsPathRefusal arena f g moves letter_cap (CapPassed letters)
      → IsPathRefusal arena (identity_map arena start) g whole letter_cap (CapPassed letters)
  refused_of_whole letters (made, more, stays, is, past) =
      let goes : IsMapAlong arena start (before ++ take made moves) (followed_along arena f (take made moves)) =
      goes_on arena f (followed_along arena f (take made moves)) (take made moves) laws refl stays start before h in
      let one_more : length before + made + 1 ≡ length before + (made + 1) = omega arith in (
        length before + made,
        omega (arith, length_of_whole),
        subst (λ (ms : List MoveHandle). StaysWithin arena (identity_map arena start) ms letter_cap)
            (sym (first_of_whole made (omega arith))) goes.within,
        is
            ∙ ap (λ (k : GroupoidMap). followed_along arena k (take (made + 1) moves)) h.map
            ∙ sym (laws.along arena (identity_map arena start) before (take (made + 1) moves))
            ∙ sym (ap (followed_along arena (identity_map arena start))
            (ap (λ (n : ℕ). take n whole) one_more ∙ first_of_whole (made + 1) (omega arith))),
        past,
      )

pub passes_on : (arena : Arena) (f g : GroupoidMap) (moves : List MoveHandle) (letters : ℕ) → FoundLaws
    → IsArena arena → IsPathRefusal arena f g moves letter_cap (CapPassed letters) → PassesOn arena f moves
passes_on arena f g moves letters found sound refused start end before rest h path within =
    let (made, first) =
    found.past arena (record { start = start; end = end; moves = before ++ (moves ++ rest) }) g letter_cap letters sound
    path (refused_of_whole arena f g moves found.along start before rest h letters refused) in
    not_both letter_cap _ first.past (within made first.more_moves)
  where
    not_both : (limit n : ℕ) → limit < n → ¬ (n ≤ limit)
    not_both limit n past few = omega arith

-- ---- moves taken several times

-- once more behind some of the times, and the rest of them
pub some_times : RepeatLaws MoveHandle → (i n : ℕ) (moves : List MoveHandle) → i < n
    → (k : ℕ) × (repeat n moves ≡ repeat i moves ++ (moves ++ repeat k moves))
some_times laws i n moves less =
    let k : ℕ = n - i - 1 in
    let times : n ≡ i + suc k = omega arith in
    (k, ap (λ (j : ℕ). repeat j moves) times ∙ laws.join i (suc k) moves)

module _ (arena : Arena) (f g : GroupoidMap) (word : List MoveHandle) (laws : RepeatLaws MoveHandle) (i : ℕ)
    (goes : GoesOn arena f (repeat i word) g) where
  pub goes_once_more : (h : GroupoidMap) → GoesOn arena g word h → GoesOn arena f (repeat (i + 1) word) h
  goes_once_more h on =
      subst (λ (ms : List MoveHandle). GoesOn arena f ms h) (sym (laws.more i word))
      (goes_further arena f g h (repeat i word) word goes on)

  pub passes_often : (n : ℕ) → i < n → PassesOn arena g word → PassesOn arena f (repeat n word)
  passes_often n less passes =
      let (k, same) = some_times laws i n word less in
      subst (PassesOn arena f) (sym same) (passes_later arena f g (repeat i word) word (repeat k word) goes passes)

-- ---- paths

pub lead_on : (arena : Arena) (first second : List MoveHandle) (s t u : ℕ) → Lead arena s first t
    → Lead arena t second u → Lead arena s (first ++ second) u
lead_on arena [] second s t u here on = subst (λ (r : ℕ). Lead arena r second u) (sym here) on
lead_on arena (m ∷ first) second s t u here on =
    (here.0, here.1, lead_on arena first second (target_of arena m) t u here.2 on)
