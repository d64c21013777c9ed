use Rattle.std.proofs.Common.{rules, ℤ, List, ◌≡◌, ◌<◌, length, Bool, below_more, arith}
use Rattle.std.specs.Bool.{Decides}
use Rattle.std.specs.Ordering.{int_eq}
use Rattle.std.specs.Cmp.Lexicographic.{pointwise}
use Rattle.std.proofs.lemmas.Bool.Decides.{Decides-int_eq, not_from_Decides}
use Rattle.std.proofs.lemmas.Slice.Eq.{slice_eq-Decides}
use Rattle.free_groupoid.proofs.Rotations.{rotation_from_place, place_of_rotation, front_as_read, back_as_read}
use Rattle.free_groupoid.proofs.Rotations.{place_from_reads}
use Rattle.free_groupoid.proofs.word.is_rotation.Goals as goal
use Rattle.free_groupoid.proofs.word.is_rotation.Goals.{else-eq-via-then-eq+else-eq-2, else-eq-via-else-eq}

-- `==` on words says whether they are equal
same_words : (v w : List ℤ) (r : Bool) → r ≡ pointwise int_eq v w → Decides r (v ≡ w)
same_words = slice_eq-Decides Decides-int_eq

pub returns-then-eq-2 : goal.returns-then-eq-2
returns-then-eq-2 c = (
  λ _. rotation_from_place _ _ c.loop-k.k
      (place_from_reads _ _ _ ((same_words _ _ _ c.eq.ensures).0 c.if-eq.true)
      ((same_words _ _ _ c.eq-then-eq.ensures).0 c.if-eq-2.true)),
  λ _. search rules,
)

pub loop-k-preserved : goal.loop-k-preserved
loop-k-preserved c =
    below_more _ _ c.loop-k.invariant
    (λ h. elim c.else-eq.branch [
      | else-eq-via-then-eq+else-eq-2 w ↦
          not_from_Decides _ (same_words _ _ _ w.eq-then-eq.ensures) w.if-eq-2.false (back_as_read _ _ _ h)
      | else-eq-via-else-eq w ↦
          not_from_Decides _ (same_words _ _ _ c.eq.ensures) w.if-eq.false (front_as_read _ _ _ h)
    ])

pub returns : goal.returns
returns c = (
  λ f. search rules,
  λ r. let some : 0 < length c.args.v.now = omega arith in
      let (j, inside, at) = place_of_rotation _ _ r some in
      absurd (c.loop-k.invariant j (omega arith) at),
)
