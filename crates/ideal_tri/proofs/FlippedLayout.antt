-- The fields after a flip hold the flipped triangulation.
--
-- The array of triples changes at the two triangles of the edge alone, and the flipped triangulation is the old list
-- with these two entries set. It is a triangulation of as many edges, so that it has a table of places, and the table
-- of the old one with the six sides of the two triangles written anew is that table: all other labels stand where they
-- stood. So the fields are those that the inverse of the model gives of the flipped list.
use Rattle.std.proofs.Common.{ℕ, ℤ, List, [], ◌∷◌, ◌≡◌, ◌≤◌, ◌<◌, ◌*◌, sym, ◌∙◌, ap, subst, arith, length, take, set}
use Rattle.std.proofs.Common.{get_or}
use Rattle.std.proofs.lemmas.List.{length-set, get_or-set_same, get_or-set_other, drop-set-lt, length-take-le}
use Rattle.std.proofs.Math.Seq.{take-set-lt}
use Rattle.ideal_tri.specs.declared.tri.TheConstants.{EDGES, TRIANGLES}
use Rattle.ideal_tri.specs.Labels.{inverse}
use Rattle.ideal_tri.specs.Triangulations.{labels_of, IsLabel, IsTriangulation, triangle_of, next, previous}
use Rattle.ideal_tri.specs.Flips.{IsFlippable, flipped}
use Rattle.ideal_tri.specs.inside.Places.{with_places, places_of, IsGlued, IsLaidOut}
use Rattle.ideal_tri.proofs.Tables.{glued, AreChanged, changed_table}
use Rattle.ideal_tri.proofs.FlippedTriangulation.{flip_laws}

-- the triangle e, d, a
abbrev pub first_of : List (List ℤ) → ℤ → List ℤ
first_of ts e = e ∷ (previous ts (inverse e) ∷ (next ts e ∷ []))

-- the triangle inverse e, b, c
abbrev pub second_of : List (List ℤ) → ℤ → List ℤ
second_of ts e = inverse e ∷ (previous ts e ∷ (next ts (inverse e) ∷ []))

-- the two triangles are within the array
record AreWithin (ts : List (List ℤ)) (e : ℤ) : Type 0 where
  first : triangle_of ts e < length ts
  second : triangle_of ts (inverse e) < length ts

changed : (ts : List (List ℤ)) (e : ℤ) → AreWithin ts e → IsFlippable ts e
    → AreChanged ts (flipped ts e) (triangle_of ts e) (triangle_of ts (inverse e))
changed ts e within flippable = record {
  long = long;
  first = subst (λ (n : ℕ). triangle_of ts e < n) (sym long) within.first;
  second = subst (λ (n : ℕ). triangle_of ts (inverse e) < n) (sym long) within.second;
  apart = flippable;
  others = λ t not_first not_second.
      get_or-set_other (set ts (triangle_of ts e) (first_of ts e)) (triangle_of ts (inverse e)) t (second_of ts e) []
      not_second
      ∙ get_or-set_other ts (triangle_of ts e) t (first_of ts e) [] not_first;
}
  where
    long : length (flipped ts e) ≡ length ts
    long =
        length-set (set ts (triangle_of ts e) (first_of ts e)) (triangle_of ts (inverse e)) (second_of ts e)
        ∙ length-set ts (triangle_of ts e) (first_of ts e)

first_is : (ts : List (List ℤ)) (e : ℤ) → AreWithin ts e → IsFlippable ts e
    → get_or (flipped ts e) (triangle_of ts e) [] ≡ first_of ts e
first_is ts e within flippable =
    get_or-set_other (set ts (triangle_of ts e) (first_of ts e)) (triangle_of ts (inverse e)) (triangle_of ts e)
    (second_of ts e) [] flippable
    ∙ get_or-set_same ts (triangle_of ts e) (first_of ts e) [] within.first

second_is : (ts : List (List ℤ)) (e : ℤ) → AreWithin ts e
    → get_or (flipped ts e) (triangle_of ts (inverse e)) [] ≡ second_of ts e
second_is ts e within =
    get_or-set_same (set ts (triangle_of ts e) (first_of ts e)) (triangle_of ts (inverse e)) (second_of ts e) []
    (subst (λ (n : ℕ). triangle_of ts (inverse e) < n) (sym (length-set ts (triangle_of ts e) (first_of ts e)))
    within.second)

-- the tables, with the six sides written anew
table_is : (ts : List (List ℤ)) (places : List ℕ) (e : ℤ) → IsGlued ts places → IsTriangulation ts → IsLabel ts e
    → IsFlippable ts e → AreWithin ts e
    → IsGlued (flipped ts e)
    (with_places (with_places places (3 * triangle_of ts e) (first_of ts e)) (3 * triangle_of ts (inverse e))
    (second_of ts e))
table_is ts places e h sound label flippable within =
    subst (IsGlued (flipped ts e))
    (sym
    (ap (λ (z : List ℤ). with_places (with_places places (3 * triangle_of ts e) z) (3 * triangle_of ts (inverse e))
    (second_of ts e))
    (sym (first_is ts e within flippable))
    ∙ ap
    (λ (z : List ℤ).
    with_places (with_places places (3 * triangle_of ts e) (get_or (flipped ts e) (triangle_of ts e) []))
    (3 * triangle_of ts (inverse e)) z)
    (sym (second_is ts e within))
    ∙ changed_table ts (flipped ts e) places (places_of (labels_of (flipped ts e))) (triangle_of ts e)
    (triangle_of ts (inverse e)) h again
    (changed ts e within flippable)))
    again
  where
    again : IsGlued (flipped ts e) (places_of (labels_of (flipped ts e)))
    again =
        glued (flipped ts e) (flip_laws ts e sound label flippable).triangulation
        (record {
          some = subst (λ (n : ℕ). 0 < n) (sym (changed ts e within flippable).long) h.size.some;
          few = subst (λ (n : ℕ). n ≤ EDGES) (sym (flip_laws ts e sound label flippable).edges) h.size.few;
        })

-- the array, with the two triangles written anew
pub array_is : (count : ℕ) (sides : List (List ℤ)) (e : ℤ) → triangle_of (take count sides) e < count
    → triangle_of (take count sides) (inverse e) < count
    → take count
    (set (set sides (triangle_of (take count sides) e) (first_of (take count sides) e))
    (triangle_of (take count sides) (inverse e))
    (second_of (take count sides) e))
    ≡ flipped (take count sides) e
array_is count sides e first second =
    take-set-lt count (set sides (triangle_of (take count sides) e) (first_of (take count sides) e))
    (triangle_of (take count sides) (inverse e))
    (second_of (take count sides) e) second
    ∙ ap (λ (z : List (List ℤ)). set z (triangle_of (take count sides) (inverse e)) (second_of (take count sides) e))
    (take-set-lt count sides (triangle_of (take count sides) e) (first_of (take count sides) e) first)

-- the fields after the flip
pub flipped_fields : (count : ℕ) (sides : List (List ℤ)) (places : List ℕ) (e : ℤ) → IsLaidOut count sides places
    → IsLabel (take count sides) e
    → IsFlippable (take count sides) e → triangle_of (take count sides) e < length (take count sides)
    → triangle_of (take count sides) (inverse e) < length (take count sides)
    → IsLaidOut count
    (set (set sides (triangle_of (take count sides) e) (first_of (take count sides) e))
    (triangle_of (take count sides) (inverse e))
    (second_of (take count sides) e))
    (with_places (with_places places (3 * triangle_of (take count sides) e) (first_of (take count sides) e))
    (3 * triangle_of (take count sides) (inverse e)) (second_of (take count sides) e))
    × (take count
    (set (set sides (triangle_of (take count sides) e) (first_of (take count sides) e))
    (triangle_of (take count sides) (inverse e))
    (second_of (take count sides) e))
    ≡ flipped (take count sides) e)
flipped_fields count sides places e h label flippable first second =
    let fits : count ≤ TRIANGLES = h.fits in
    let room : length sides ≡ TRIANGLES = h.room in
    let long : length (take count sides) ≡ count = length-take-le count sides (omega arith) in
    let first_in : triangle_of (take count sides) e < count = omega arith in
    let second_in : triangle_of (take count sides) (inverse e) < count = omega arith in (
      record {
        fits = fits;
        room =
            length-set (set sides (triangle_of (take count sides) e) (first_of (take count sides) e))
            (triangle_of (take count sides) (inverse e))
            (second_of (take count sides) e)
            ∙ length-set sides (triangle_of (take count sides) e) (first_of (take count sides) e) ∙ room;
        spare =
            drop-set-lt count (set sides (triangle_of (take count sides) e) (first_of (take count sides) e))
            (triangle_of (take count sides) (inverse e))
            (second_of (take count sides) e) second_in
            ∙ drop-set-lt count sides (triangle_of (take count sides) e) (first_of (take count sides) e) first_in
            ∙ h.spare;
        glued =
            subst
            (λ (z : List (List ℤ)).
            IsGlued z
            (with_places (with_places places (3 * triangle_of (take count sides) e) (first_of (take count sides) e))
            (3 * triangle_of (take count sides) (inverse e)) (second_of (take count sides) e)))
            (sym (array_is count sides e first_in second_in))
            (table_is (take count sides) places e h.glued h.sound label flippable
            (record { first = first; second = second }));
        sound =
            subst IsTriangulation (sym (array_is count sides e first_in second_in))
            (flip_laws (take count sides) e h.sound label flippable).triangulation;
      },
      array_is count sides e first_in second_in,
    )

-- the fields, with two triangles and a table, hold the flip
abbrev pub HoldFlip : ℕ → List (List ℤ) → ℤ → ℕ → ℕ → List ℤ → List ℤ → List ℕ → Type 0
HoldFlip count sides e s t first second table =
    IsLaidOut count (set (set sides s first) t second) table
    × (take count (set (set sides s first) t second) ≡ flipped (take count sides) e)

-- the same, of what the code reads
pub fields_read : (count : ℕ) (sides : List (List ℤ)) (places : List ℕ) (e : ℤ) (s t : ℕ) (first second : List ℤ)
    (table : List ℕ)
    → IsLaidOut count sides places → IsLabel (take count sides) e → IsFlippable (take count sides) e
    → s ≡ triangle_of (take count sides) e → t ≡ triangle_of (take count sides) (inverse e)
    → s < length (take count sides) → t < length (take count sides)
    → first ≡ first_of (take count sides) e → second ≡ second_of (take count sides) e
    → table ≡ with_places (with_places places (3 * s) first) (3 * t) second
    → HoldFlip count sides e s t first second table
fields_read count sides places e s t first second table h label flippable s_is t_is s_in t_in first_is second_is
    table_is =
    subst (λ (z : List ℕ). HoldFlip count sides e s t first second z) (sym table_is)
    (subst (λ (z : List ℤ). HoldFlip count sides e s t first z
    (with_places (with_places places (3 * s) first) (3 * t) z)) (sym second_is)
    (subst (λ (z : List ℤ). HoldFlip count sides e s t z two (with_places (with_places places (3 * s) z) (3 * t) two))
    (sym first_is)
    (subst (λ (n : ℕ). HoldFlip count sides e s n one two (with_places (with_places places (3 * s) one) (3 * n) two))
    (sym t_is)
    (subst
    (λ (n : ℕ).
    HoldFlip count sides e n (triangle_of (take count sides) (inverse e)) one two
    (with_places (with_places places (3 * n) one) (3 * triangle_of (take count sides) (inverse e)) two))
    (sym s_is)
    (flipped_fields count sides places e h label flippable (subst (λ (n : ℕ). n < length (take count sides)) s_is s_in)
    (subst (λ (n : ℕ). n < length (take count sides)) t_is t_in))))))
  where
    one : List ℤ
    one = first_of (take count sides) e

    two : List ℤ
    two = second_of (take count sides) e
