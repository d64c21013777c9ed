-- Where the search in the powers found no inner one, there is none before a map passes the cap.
use Rattle.std.proofs.Common.{◌≡◌, ◌<◌, ◌≤◌, ◌⊎◌, inl, inr, ◌+◌, ◌-◌, ◌++◌, ℕ, zero, suc, ℤ, List, [], length, take}
use Rattle.std.proofs.Common.{sym, ◌∙◌, ap, subst, arith, slice_index_or}
use Rattle.std.proofs.Math.Numerals.{add-one}
use Rattle.std.proofs.lemmas.Bool.{cases_lt}
use Rattle.std.proofs.lemmas.List.{length-append, take-append-le}
use Rattle.std.specs.List.{repeat}
use Rattle.ideal_tri.specs.Triangulations.{IsTriangulation}
use Rattle.tri_atlas.specs.MapLaws.{RepeatLaws}
use Rattle.tri_atlas.specs.Maps.{letters_of, path_map}
use Rattle.tri_atlas.specs.Moves.{Move}
use Rattle.free_groupoid.specs.InnerLaws.{InnerLaws, IsReducedLoop}
use Rattle.free_groupoid.specs.Periodic.{IsFirstPast, IsFirstTest, IsInnerPath, IsWithin}
use Rattle.free_groupoid.specs.PeriodicLaws.{PeriodicLaws}
use Rattle.cert_text.specs.Limits.{letter_cap}
use Rattle.periodic_cert.specs.PowerAnswers.{AreAllRefuted, AreReasons, IsCapped}
use Rattle.verdict_plan.specs.Verdicts.{HasNoOrder}

module _ (triples : List (List ℤ)) (moves : List Move) (sound : IsTriangulation triples) (tests : InnerLaws)
    (laws : PeriodicLaws) (repeats : RepeatLaws Move) where
  -- a power that moves a test walk isn't inner
  not_inner : (k : ℕ) (w : List ℤ) → IsFirstTest triples (path_map (repeat k moves)) w
      → ¬ IsInnerPath triples (repeat k moves)
  not_inner k w h inner =
      h.moved (laws.kept triples (repeat k moves) w sound inner
      (subst (IsReducedLoop triples) (sym h.walk) (tests.loops triples sound h.place [] h.within)))

  -- nor are those that have reasons
  refuted : (reasons : List (List ℤ)) (k : ℕ) → AreReasons triples moves reasons → 0 < k → k ≤ length reasons
      → ¬ IsInnerPath triples (repeat k moves)
  refuted reasons zero h some within = absurd (omega arith)
  refuted reasons (suc j) h some within =
      not_inner (suc j) (slice_index_or reasons j [])
      (subst (λ (k : ℕ). IsFirstTest triples (path_map (repeat k moves)) (slice_index_or reasons j [])) (add-one j)
      (h j (omega arith)))

  pub all_refuted : (limit : ℕ) (reasons : List (List ℤ))
      → AreAllRefuted triples moves limit letter_cap reasons → HasNoOrder triples moves limit
  all_refuted limit reasons h k some within small =
      refuted reasons k h.refuted some (let each = h.one_reason_each in omega arith)

  -- so many more times
  repeat_on : (n m : ℕ) → n ≤ m → repeat m moves ≡ repeat n moves ++ repeat (m - n) moves
  repeat_on n m more =
      ap (λ (i : ℕ). repeat i moves) (let on : m ≡ n + (m - n) = omega arith in on) ∙ repeats.join n (m - n) moves

  -- so many times more begin as fewer times do
  repeat_begins : (n m i : ℕ) → n ≤ m → i ≤ length (repeat n moves)
      → take i (repeat m moves) ≡ take i (repeat n moves)
  repeat_begins n m i more within =
      ap (take i) (repeat_on n m more) ∙ take-append-le i (repeat n moves) (repeat (m - n) moves) within

  longer_repeat : (n m : ℕ) → n ≤ m → length (repeat n moves) ≤ length (repeat m moves)
  longer_repeat n m more =
      let long : length (repeat m moves) ≡ length (repeat n moves) + length (repeat (m - n) moves) =
      ap length (repeat_on n m more)
      ∙ length-append (repeat n moves) (repeat (m - n) moves) in omega (arith, long)

  -- a power behind the first that passes the cap passes it too
  passes : (power letters k made : ℕ) → IsFirstPast triples (repeat power moves) letter_cap made letters → power ≤ k
      → ¬ IsWithin triples (repeat k moves) letter_cap
  passes power letters k made h on small =
      let same : take (made + 1) (repeat k moves) ≡ take (made + 1) (repeat power moves) =
      repeat_begins power k (made + 1) on (let more = h.more_moves in omega arith) in
      let few : letters_of triples (path_map (take (made + 1) (repeat power moves))) ≤ letter_cap =
      subst (λ (ms : List Move). letters_of triples (path_map ms) ≤ letter_cap) same
      (small made (let more = h.more_moves in let longer = longer_repeat power k on in omega arith)) in
      let many = h.past in absurd (omega arith)

  capped_at : (limit power letters : ℕ) (reasons : List (List ℤ))
      → IsCapped triples moves limit letter_cap power letters reasons → (k : ℕ) → 0 < k
      → IsWithin triples (repeat k moves) letter_cap → IsInnerPath triples (repeat k moves)
      → (length reasons < k) ⊎ (k ≤ length reasons) → ⊥
  capped_at limit power letters reasons h k some small inner (inl on) =
      passes power letters k h.made h.past (let each = h.one_reason_each in omega arith) small
  capped_at limit power letters reasons h k some small inner (inr before) =
      refuted reasons k h.refuted some before inner

  pub capped : (limit power letters : ℕ) (reasons : List (List ℤ))
      → IsCapped triples moves limit letter_cap power letters reasons → HasNoOrder triples moves limit
  capped limit power letters reasons h k some within small inner =
      capped_at limit power letters reasons h k some small inner (cases_lt (length reasons) k)
