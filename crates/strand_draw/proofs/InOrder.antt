-- The strands before a strand, in the order of their numbers, and what is drawn when it comes to its turn.
--
-- All strands are those before a strand, that strand, and others. So it is the least of its curve exactly where the
-- curves so far do not use it, which its mark tells. If it is, its curve is the next one; otherwise none begins there.
use Rattle.std.proofs.Common.{ℕ, zero, suc, ℤ, pos, Bool, true, false, cond, List, [], ◌∷◌, ◌++◌, ◌≡◌, ◌≢◌, ◌<◌, ◌+◌}
use Rattle.std.proofs.Common.{◌↔◌}
use Rattle.std.proofs.Common.{inl, inr, sym, ◌∙◌, ap, subst, arith, take, drop, length, map, append_assoc}
use Rattle.std.specs.List.{range_with_len, flat_map, filter}
use Rattle.std.specs.Prelude.{slice_index}
use Rattle.std.proofs.lemmas.List.{take-append-drop, length-take-le, map-append, append-nil, take_more}
use Rattle.std.proofs.Math.Seq.{drop-cons, take-length}
use Rattle.std.proofs.lemmas.Bool.{cases_Bool}
use Rattle.std.proofs.lemmas.Grind.{flat_map-append}
use Rattle.std.proofs.lemmas.List.Elements.{filter-append}
use Rattle.std.proofs.lemmas.List.FromFn.{map-range_with_len_more}
use Rattle.ideal_tri.specs.Labels.{edge_of}
use Rattle.ideal_tri.specs.Triangulations.{triangle_of}
use Rattle.ideal_tri.specs.Vectors.{IsMulticurve}
use Rattle.ideal_tri.specs.Strands.{State, IsStrand, state_at, uses, word_of, words_of}
use Rattle.ideal_tri.specs.StrandLaws.{StrandLaws}
use Rattle.ideal_tri.specs.Drawings.{strands_from, strands, curve_from, is_least_of, curves_among}
use Rattle.free_groupoid.specs.Walks.{DualWalk, walk_of_letters}
use Rattle.strand_draw.specs.inside.Marks.{HasStrand, AreMarked}
use Rattle.strand_draw.specs.inside.InOrder.{strands_before, AreDrawn}
use Rattle.strand_draw.specs.declared.marks.Marks.{Marks}

-- ---- the strands before one

strands_from-append : (e : ℕ) (u v : List ℕ) → strands_from e (u ++ v)
    ≡ strands_from e u ++ strands_from (e + length u) v
strands_from-append e [] v = ap (λ (k : ℕ). strands_from k v) (omega arith)
strands_from-append e (n ∷ u) v =
    ap (λ (z : List State). map (state_at (pos e)) (range_with_len 0 n) ++ z)
    (strands_from-append (suc e) u v
    ∙ ap (λ (k : ℕ). strands_from (suc e) u ++ strands_from k v) (omega arith))
    ∙ sym (append_assoc (map (state_at (pos e)) (range_with_len 0 n)) (strands_from (suc e) u)
    (strands_from (e + length (n ∷ u)) v))

abbrev row : ℕ → ℕ → List State
row e n = map (state_at (pos e)) (range_with_len 0 n)

front : (w : List ℕ) (e : ℕ) → e < length w → 0 + length (take e w) ≡ e
front w e b = omega (arith, length-take-le e w (omega arith))

pub before-all : (w : List ℕ) (e : ℕ) → e ≡ length w → strands_before w (state_at (pos e) 0) ≡ strands w
before-all w e is =
    ap (λ (k : ℕ). strands_from 0 (take k w) ++ []) is ∙ append-nil (strands_from 0 (take (length w) w))
    ∙ ap (strands_from 0) (take-length w)

pub before-more : (w : List ℕ) (e i : ℕ)
    → strands_before w (state_at (pos e) (i + 1)) ≡ strands_before w (state_at (pos e) i) ++ (state_at (pos e) i ∷ [])
before-more w e i =
    ap (λ (z : List State). strands_from 0 (take e w) ++ z)
    (map-range_with_len_more (state_at (pos e)) 0 i i (omega arith))
    ∙ sym (append_assoc (strands_from 0 (take e w)) (row e i) (state_at (pos e) i ∷ []))

-- with the last strand of an edge all of its strands are drawn
pub before-next : (w : List ℕ) (e : ℕ) → e < length w
    → strands_before w (state_at (pos e) (slice_index w e)) ≡ strands_before w (state_at (pos (e + 1)) 0)
before-next w e b =
    sym (
    append-nil (strands_from 0 (take (e + 1) w))
    ∙ ap (strands_from 0) (take_more w e 0 b)
    ∙ strands_from-append 0 (take e w) (slice_index w e ∷ [])
    ∙ ap (λ (z : List State). strands_from 0 (take e w) ++ z)
    (append-nil (row (0 + length (take e w)) (slice_index w e))
    ∙ ap (λ (k : ℕ). row k (slice_index w e)) (front w e b)))

row_split : (e a i n : ℕ) → i < n
    → (rest : List State) × (map (state_at (pos e)) (range_with_len a n)
    ≡ map (state_at (pos e)) (range_with_len a i) ++ (state_at (pos e) (a + i) ∷ rest))
row_split e a i zero b = absurd (omega arith)
row_split e a zero (suc n) b = (
  map (state_at (pos e)) (range_with_len (a + 1) n),
  ap (λ (k : ℕ). state_at (pos e) k ∷ map (state_at (pos e)) (range_with_len (a + 1) n)) (omega arith),
)
row_split e a (suc i) (suc n) b =
    let (rest, is) = row_split e (a + 1) i n (omega arith) in (
      rest,
      ap (λ (z : List State). state_at (pos e) a ∷ z)
          (is
          ∙ ap (λ (k : ℕ). map (state_at (pos e)) (range_with_len (a + 1) i) ++ (state_at (pos e) k ∷ rest))
          (omega arith)),
    )

-- all strands are those before a strand, that strand, and others
pub record Ahead (w : List ℕ) (q : State) : Type 0 where
  pub after : List State
  pub is : strands w ≡ strands_before w q ++ (q ∷ after)

pub ahead : (w : List ℕ) (e i : ℕ) → e < length w → i < slice_index w e → Ahead w (state_at (pos e) i)
ahead w e i b c =
    let n : ℕ = slice_index w e in
    let (rest, split) = row_split e 0 i n c in
    let later : List State = strands_from (suc e) (drop (suc e) w) in
    let all : strands w ≡ strands_from 0 (take e w) ++ (row e n ++ later) =
    ap (strands_from 0) (sym (take-append-drop e w))
    ∙ strands_from-append 0 (take e w) (drop e w)
    ∙ ap (λ (k : ℕ). strands_from 0 (take e w) ++ strands_from k (drop e w)) (front w e b)
    ∙ ap (λ (v : List ℕ). strands_from 0 (take e w) ++ strands_from e v) (drop-cons w e 0 b) in
    record {
      after = rest ++ later;
      is =
          all
          ∙ ap (λ (z : List State). strands_from 0 (take e w) ++ (z ++ later)) split
          ∙ ap (λ (k : ℕ). strands_from 0 (take e w) ++ ((row e i ++ (state_at (pos e) k ∷ rest)) ++ later))
          (omega arith)
          ∙ ap (λ (z : List State). strands_from 0 (take e w) ++ z)
          (append_assoc (row e i) (state_at (pos e) i ∷ rest) later)
          ∙ sym (append_assoc (strands_from 0 (take e w)) (row e i) (state_at (pos e) i ∷ (rest ++ later)));
    }

-- ---- the same, with the strand seen from the label that is not negative

positive_state : (q : State) → q.label ≡ pos (edge_of q.label) → state_at (pos (edge_of q.label)) q.place ≡ q
positive_state q positive = ap (λ (x : ℤ). state_at x q.place) (sym positive)

pub before-with : (w : List ℕ) (q : State) → q.label ≡ pos (edge_of q.label)
    → strands_before w q ++ (q ∷ []) ≡ strands_before w (state_at q.label (q.place + 1))
before-with w q positive =
    sym (before-more w (edge_of q.label) q.place
    ∙ ap (λ (p : State). strands_before w q ++ (p ∷ [])) (positive_state q positive))

pub ahead_of : (w : List ℕ) (q : State) → HasStrand w q → q.label ≡ pos (edge_of q.label) → Ahead w q
ahead_of w q h positive =
    let a : Ahead w (state_at (pos (edge_of q.label)) q.place) = ahead w (edge_of q.label) q.place h.edge h.within in
    record {
      after = a.after;
      is = a.is ∙ ap (λ (p : State). strands_before w q ++ (p ∷ a.after)) (positive_state q positive);
    }

-- ---- the curves

module _ (triples : List (List ℤ)) (w : List ℕ) where
  abbrev least : State → Bool
  least q = is_least_of w q (curve_from triples w q)

  -- the curve of a strand that is its least is the next one
  curves-least : (before : List State) (q : State) → is_least_of w q (curve_from triples w q) ≡ true
      → curves_among triples w (before ++ (q ∷ [])) ≡ curves_among triples w before ++ (curve_from triples w q ∷ [])
  curves-least before q t =
      ap (map (curve_from triples w))
      (filter-append least before (q ∷ []) ∙ ap (λ (b : Bool). filter least before ++ cond b (q ∷ []) []) t)
      ∙ map-append (curve_from triples w) (filter least before) (q ∷ [])

  -- and no curve begins at any other
  curves-other : (before : List State) (q : State) → is_least_of w q (curve_from triples w q) ≡ false
      → curves_among triples w (before ++ (q ∷ [])) ≡ curves_among triples w before
  curves-other before q t =
      ap (map (curve_from triples w))
      (filter-append least before (q ∷ []) ∙ ap (λ (b : Bool). filter least before ++ cond b (q ∷ []) []) t
      ∙ append-nil (filter least before))

  -- the walk along the curve of a strand starts at the triangle of that strand
  pub walk-along : (tri : List (List ℤ)) (x : ℤ) (q : State) (start : ℕ) (letters : List ℤ)
      → start ≡ triangle_of tri x → tri ≡ triples → x ≡ q.label → letters ≡ word_of (curve_from triples w q)
      → ◌≡◌ {A = DualWalk} (record { start = start; letters = letters })
      (walk_of_letters triples (word_of (curve_from triples w q)))
  walk-along tri x q start letters at e f word =
      let there : start ≡ triangle_of triples q.label =
      at ∙ ap (λ (z : List (List ℤ)). triangle_of z x) e ∙ ap (triangle_of triples) f in
      let W : ℕ → List ℤ → DualWalk = λ s z. record { start = s; letters = z } in
      ap (λ (s : ℕ). W s letters) there ∙ ap (W (triangle_of triples q.label)) word

  listed-push : (curves : List (List State)) (c : List State)
      → map (walk_of_letters triples) (words_of (curves ++ (c ∷ [])))
      ≡ map (walk_of_letters triples) (words_of curves) ++ (walk_of_letters triples (word_of c) ∷ [])
  listed-push curves c =
      ap (map (walk_of_letters triples)) (map-append word_of curves (c ∷ []))
      ∙ map-append (walk_of_letters triples) (words_of curves) (word_of c ∷ [])

  joined-push : (curves : List (List State)) (c : List State)
      → flat_map (λ run. run) curves ++ c ≡ flat_map (λ run. run) (curves ++ (c ∷ []))
  joined-push curves c =
      sym (flat_map-append (λ (run : List State). run) curves (c ∷ [])
      ∙ ap (λ (z : List State). flat_map (λ run. run) curves ++ z) (append-nil c))

  module _ (laws : StrandLaws triples) (good : IsMulticurve triples w) (q : State) (v : IsStrand triples w q)
      (positive : q.label ≡ pos (edge_of q.label)) where
    abbrev before : List State
    before = strands_before w q

    abbrev curves : List (List State)
    curves = curves_among triples w before

    abbrev c : List State
    c = curve_from triples w q

    abbrev next : List State
    next = strands_before w (state_at q.label (q.place + 1))

    ahead_of_it : Ahead w q
    ahead_of_it =
        ahead_of w q (record { edge = omega (arith, v.is_label, good.one_per_edge); within = v.within }) positive

    fresh : (is_least_of w q c ≡ true) ↔ (uses w q (flat_map (λ run. run) curves) ≡ 0)
    fresh = laws.fresh w q before ahead_of_it.after good ahead_of_it.is

    -- a strand that no curve uses yet begins the next one
    pub drawn-free : (m marked : Marks) (walks now : List DualWalk) (walk : DualWalk)
        → AreDrawn triples w before m walks
        → uses w q (flat_map (λ run. run) curves) ≡ 0 → walk ≡ walk_of_letters triples (word_of c)
        → now ≡ walks ++ (walk ∷ [])
        → ((run : List State) → AreMarked w m run → AreMarked w marked (run ++ c)) → AreDrawn triples w next marked now
    drawn-free m marked walks now walk d free word push more =
        let all : curves ++ (c ∷ []) ≡ curves_among triples w next =
        sym (curves-least before q (fresh.1 free)) ∙ ap (curves_among triples w) (before-with w q positive) in
        record {
          marked =
              subst (AreMarked w marked) (joined-push curves c ∙ ap (flat_map (λ run. run)) all)
              (more (flat_map (λ run. run) curves) d.marked);
          listed =
              push
              ∙ ap (λ (z : List DualWalk). z ++ (walk ∷ [])) d.listed
              ∙ ap (λ (z : DualWalk). map (walk_of_letters triples) (words_of curves) ++ (z ∷ [])) word
              ∙ sym (listed-push curves c)
              ∙ ap (λ (z : List (List State)). map (walk_of_letters triples) (words_of z)) all;
        }

    -- a strand that a curve uses already begins none
    pub drawn-used : (m : Marks) (walks : List DualWalk) → AreDrawn triples w before m walks
        → uses w q (flat_map (λ run. run) curves) ≢ 0 → AreDrawn triples w next m walks
    drawn-used m walks d used =
        let other : is_least_of w q c ≡ false =
        elim (cases_Bool (is_least_of w q c)) [ inl t ↦ absurd (used (fresh.0 t)) | inr f ↦ f ] in
        let none : curves ≡ curves_among triples w next =
        sym (curves-other before q other) ∙ ap (curves_among triples w) (before-with w q positive) in
        record {
          marked = subst (λ (z : List (List State)). AreMarked w m (flat_map (λ run. run) z)) none d.marked;
          listed = d.listed ∙ ap (λ (z : List (List State)). map (walk_of_letters triples) (words_of z)) none;
        }
