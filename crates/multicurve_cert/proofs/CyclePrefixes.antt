-- The cycles that begin with a word: none where it visits a triangle twice, and otherwise they go on by a side of the
-- triangle that was entered.
use Rattle.std.proofs.Common.{ℕ, ℤ, pos, negsuc, drop, List, [], ◌∷◌, ◌++◌, ◌≡◌, ◌≢◌, ◌⊎◌, inl, inr, ◌+◌, ◌-◌, ◌<◌, ◌≤◌, refl, sym}
use Rattle.std.proofs.Common.{◌∙◌, subst, ap, arith, length, get_or, take, length-append, append_assoc}
use Rattle.std.proofs.lemmas.List.{drop_more, append-nil, take_at, get_or-append_right, get_or_append_left}
use Rattle.ideal_tri.specs.LabelLaws.{OrderLaws}
use Rattle.ideal_tri.specs.SurfaceLaws.{TriangleLaws}
use Rattle.std.proofs.Math.Nat.{eq-or-lt_of_le}
use Rattle.ideal_tri.specs.Labels.{inverse, edge_of}
use Rattle.ideal_tri.specs.Triangulations.{IsLabel, IsWalk, triangle_of, next, previous}
use Rattle.ideal_tri.specs.Vertices.{rank}
use Rattle.free_groupoid.specs.InnerLaws.{IsReducedLoop}
use Rattle.free_groupoid.specs.Walks.{DualWalk, walk_of_letters}
use Rattle.multicurve_cert.specs.Cycles.{IsBefore, IsWordBefore, IsCycle}
use Rattle.multicurve_cert.specs.inside.CycleParts.{Follows, Visits, AreOtherSides, Adds, IsCycleFrom}
use Rattle.multicurve_cert.proofs.CycleLists.{adds_none, adds_one, adds_join}
use Rattle.multicurve_cert.proofs.CycleTests.{FollowFrom, from_loop}
use Rattle.multicurve_cert.proofs.WordOrder.{before_behind}
use Rattle.multicurve_cert.proofs.WordRotations.{turned, not_least_on, not_least_back}
use Rattle.ideal_tri.specs.WordLaws.{LetterLaws, WordLaws}
use Rattle.ideal_tri.specs.Words.{last_of, inverse_word}

-- ---- the whole word

empty : (r : List ℤ) → length r ≡ 0 → r ≡ []
empty [] e = refl
empty (x ∷ r) e = absurd (omega arith)

pub is_whole : (triples : List (List ℤ)) (n : ℕ) (front w : List ℤ) → IsCycleFrom triples n front w → length front ≡ n
    → w ≡ front
is_whole triples n front w h e =
    let long : length w ≡ n = h.cycle.of_length in
    let none : h.rest ≡ [] = empty h.rest (omega (arith, ap length h.begins, length-append front h.rest)) in
    h.begins ∙ ap (λ (r : List ℤ). front ++ r) none ∙ append-nil front

pub adds_cycle : (triples : List (List ℤ)) (w : List ℤ) (old new : List DualWalk) → IsCycle triples w
    → new ≡ old ++ (walk_of_letters triples w ∷ []) → Adds triples (IsCycleFrom triples (length w) w) old new
adds_cycle triples w old new cycle is_new =
    adds_one triples (IsCycleFrom triples (length w) w) old new w
    (record { cycle = record { cycle = cycle; of_length = refl }; rest = []; begins = sym (append-nil w) })
    (λ v h. is_whole triples (length w) w v h refl) is_new

pub adds_no_cycle : (triples : List (List ℤ)) (w : List ℤ) (walks : List DualWalk) → ¬ IsCycle triples w
    → Adds triples (IsCycleFrom triples (length w) w) walks walks
adds_no_cycle triples w walks not =
    adds_none triples (IsCycleFrom triples (length w) w) walks
    (λ v h. not (subst (IsCycle triples) (is_whole triples (length w) w v h refl) h.cycle.cycle))

-- ---- the letters of a loop

loop_follows : (triples : List (List ℤ)) (w : List ℤ) → IsReducedLoop triples w → (z : ℤ) × FollowFrom triples z w
loop_follows triples [] h = absurd h
loop_follows triples (x ∷ w) h = (last_of x w, from_loop triples x w h)

follow_inside : (triples : List (List ℤ)) (z : ℤ) (u : List ℤ) (x y : ℤ) (v : List ℤ)
    → FollowFrom triples z (u ++ (x ∷ (y ∷ v))) → Follows triples x y
follow_inside triples z [] x y v h = h.1.0
follow_inside triples z (a ∷ u) x y v h = follow_inside triples a u x y v h.1

walk_label : (triples : List (List ℤ)) (u : List ℤ) (s t : ℕ) (y : ℤ) (v : List ℤ) → IsWalk triples s (u ++ (y ∷ v)) t
    → IsLabel triples y
walk_label triples [] s t y v h = h.0
walk_label triples (a ∷ u) s t y v h = walk_label triples u _ t y v h.2

loop_label : (triples : List (List ℤ)) (u : List ℤ) (y : ℤ) (v : List ℤ) → IsReducedLoop triples (u ++ (y ∷ v))
    → IsLabel triples y
loop_label triples [] y v h = h.0.0
loop_label triples (a ∷ u) y v h = walk_label triples (a ∷ u) _ _ y v h.0

-- ---- the next letter

-- the letter after the word in a cycle that begins with it
record GoesOn (triples : List (List ℤ)) (word : List ℤ) (last : ℤ) (w : List ℤ) : Type 0 where
  next : ℤ
  rest : List ℤ
  is_word : w ≡ word ++ (next ∷ rest)
  label : IsLabel triples next
  follows : Follows triples last next

goes_on : LetterLaws → (triples : List (List ℤ)) (word : List ℤ) (n count : ℕ) (last : ℤ) (w : List ℤ)
    → count ≡ length word
    → 0 < count → last ≡ get_or word (count - 1) last → count < n → IsCycleFrom triples n word w
    → GoesOn triples word last w
goes_on letters triples word n count last w is_count some is_last more h = by_rest h.rest h.begins
  where
    by_rest : (r : List ℤ) → w ≡ word ++ r → GoesOn triples word last w
    by_rest [] e =
        let long : length w ≡ n = h.cycle.of_length in
        absurd (omega (arith, ap length (e ∙ append-nil word)))
    by_rest (y ∷ r) e =
        let at_last : w ≡ take (count - 1) word ++ (last ∷ (y ∷ r)) =
        e
        ∙ ap (λ (u : List ℤ). u ++ (y ∷ r)) (letters.parts word count last is_count some is_last)
        ∙ append_assoc (take (count - 1) word) (last ∷ []) (y ∷ r) in
        let loop = h.cycle.cycle.loop in
        let follow = loop_follows triples w loop in
        record {
          next = y;
          rest = r;
          is_word = e;
          label = loop_label triples word y r (subst (IsReducedLoop triples) e loop);
          follows = follow_inside triples follow.0 (take (count - 1) word) last y r
              (subst (FollowFrom triples follow.0) at_last follow.1);
        }

-- the triangle that was entered was visited before: no cycle goes on
pub adds_nothing : LetterLaws
    → (triples : List (List ℤ)) (word : List ℤ) (n count t : ℕ) (last back : ℤ) (walks : List DualWalk)
    → count ≡ length word → 0 < count → last ≡ get_or word (count - 1) last → count < n → back ≡ inverse last
    → t ≡ triangle_of triples back → Visits triples word t → Adds triples (IsCycleFrom triples n word) walks walks
adds_nothing letters triples word n count t last back walks is_count some is_last more is_back is_t (i, before, seen) =
    adds_none triples (IsCycleFrom triples n word) walks (λ w h. twice w h (goes_on letters triples word n count last w is_count some is_last more h))
  where
    twice : (w : List ℤ) → IsCycleFrom triples n word w → GoesOn triples word last w → ⊥
    twice w h g =
        let long : length w ≡ length word + (1 + length g.rest) =
        omega (arith, ap length g.is_word, length-append word (g.next ∷ g.rest)) in
        let here : get_or w (length word) (pos 0) ≡ g.next =
        ap (λ (u : List ℤ). get_or u (length word) (pos 0)) g.is_word
        ∙ get_or-append_right word (g.next ∷ g.rest) (length word) (length word) (pos 0) refl (omega arith)
        ∙ ap (λ (k : ℕ). get_or (g.next ∷ g.rest) k (pos 0)) (let none : length word - length word ≡ 0 = omega arith in none) in
        let there : get_or w i (pos 0) ≡ get_or word i (pos 0) =
        ap (λ (u : List ℤ). get_or u i (pos 0)) g.is_word
        ∙ get_or_append_left word (g.next ∷ g.rest) (pos 0) i before in
        h.cycle.cycle.once i (length word) before (omega arith)
        (ap (triangle_of triples) there ∙ seen ∙ is_t ∙ ap (triangle_of triples) is_back ∙ g.follows.0
        ∙ ap (triangle_of triples) (sym here))

-- ---- the two ways on

longer : (triples : List (List ℤ)) (n : ℕ) (word : List ℤ) (x : ℤ) (w : List ℤ)
    → IsCycleFrom triples n (word ++ (x ∷ [])) w → IsCycleFrom triples n word w
longer triples n word x w h = record {
  cycle = h.cycle;
  rest = x ∷ h.rest;
  begins = h.begins ∙ append_assoc word (x ∷ []) h.rest;
}

goes_by : (triples : List (List ℤ)) (n : ℕ) (word : List ℤ) (last x : ℤ) (w : List ℤ) → IsCycleFrom triples n word w
    → (g : GoesOn triples word last w) → g.next ≡ x → IsCycleFrom triples n (word ++ (x ∷ [])) w
goes_by triples n word last x w h g e = record {
  cycle = h.cycle;
  rest = g.rest;
  begins = g.is_word ∙ ap (λ (z : ℤ). word ++ (z ∷ g.rest)) e ∙ sym (append_assoc word (x ∷ []) g.rest);
}

in_order : (triples : List (List ℤ)) (n : ℕ) (word : List ℤ) (x y : ℤ) → rank x < rank y → (u v : List ℤ)
    → IsCycleFrom triples n (word ++ (x ∷ [])) u → IsCycleFrom triples n (word ++ (y ∷ [])) v → IsBefore u v
in_order triples n word x y less u v h k =
    inr (
      h.cycle.of_length ∙ sym k.cycle.of_length,
      subst (λ (z : List ℤ). IsWordBefore z v) (sym (h.begins ∙ append_assoc word (x ∷ []) h.rest))
          (subst (IsWordBefore (word ++ (x ∷ h.rest))) (sym (k.begins ∙ append_assoc word (y ∷ []) k.rest))
          (before_behind word h.rest k.rest x y less)),
    )

pub adds_both : LetterLaws
    → (triples : List (List ℤ)) (word by_first by_second : List ℤ) (n count : ℕ) (last back x y : ℤ) (old mid new : List DualWalk)
    → count ≡ length word → 0 < count → last ≡ get_or word (count - 1) last → count < n → back ≡ inverse last
    → AreOtherSides triples back x y
    → by_first ≡ word ++ (x ∷ []) → by_second ≡ word ++ (y ∷ [])
    → Adds triples (IsCycleFrom triples n by_first) old mid → Adds triples (IsCycleFrom triples n by_second) mid new
    → Adds triples (IsCycleFrom triples n word) old new
adds_both letters triples word by_first by_second n count last back x y old mid new is_count some is_last more is_back sides
    is_first is_second left right =
    adds_join triples (IsCycleFrom triples n (word ++ (x ∷ []))) (IsCycleFrom triples n (word ++ (y ∷ [])))
    (IsCycleFrom triples n word) old mid new
    (subst (λ (u : List ℤ). Adds triples (IsCycleFrom triples n u) old mid) is_first left)
    (subst (λ (u : List ℤ). Adds triples (IsCycleFrom triples n u) mid new) is_second right)
    (in_order triples n word x y sides.order)
    (longer triples n word x) (longer triples n word y)
    (λ w h. either w h (goes_on letters triples word n count last w is_count some is_last more h))
  where
    either : (w : List ℤ) → IsCycleFrom triples n word w → GoesOn triples word last w
        → IsCycleFrom triples n (word ++ (x ∷ [])) w ⊎ IsCycleFrom triples n (word ++ (y ∷ [])) w
    either w h g =
        elim (sides.all g.next g.label (sym g.follows.0 ∙ ap (triangle_of triples) (sym is_back))
        (λ e. g.follows.1 (e ∙ is_back))) as (λ _. IsCycleFrom triples n (word ++ (x ∷ [])) w ⊎ IsCycleFrom triples n (word ++ (y ∷ [])) w) [
          | inl first ↦ inl (goes_by triples n word last x w h g first)
          | inr second ↦ inr (goes_by triples n word last y w h g second)
        ]

-- the word again, without the letter behind it
pub cut_back : (word pushed cut : List ℤ) (n : ℕ) (x : ℤ) → n ≡ length word → pushed ≡ word ++ (x ∷ []) → cut ≡ take n pushed
    → cut ≡ word
cut_back word pushed cut n x is_n is_pushed is_cut =
    is_cut ∙ ap (take n) is_pushed ∙ take_at word (x ∷ []) n (sym is_n)

-- ---- what the code reads

-- the walk from the triangle of the first letter
pub read_walk : (triples : List (List ℤ)) (w letters : List ℤ) (x : ℤ) (start : ℕ) → x ≡ get_or w 0 x
    → start ≡ triangle_of triples x → letters ≡ w → 0 < length w
    → record { start = start; letters = letters } ≡ walk_of_letters triples w
read_walk triples [] letters x start is_x is_start is_letters some = absurd (omega arith)
read_walk triples (y ∷ w) letters x start is_x is_start is_letters some =
    ap (λ (s : ℕ). let walk : DualWalk = record { start = s; letters = letters } in walk)
    (is_start ∙ ap (triangle_of triples) is_x)
    ∙ ap (λ (u : List ℤ). let walk : DualWalk = record { start = triangle_of triples y; letters = u } in walk) is_letters

-- the sides beside x in its triangle, in either order
pub other_sides : (triples : List (List ℤ)) (x y z : ℤ) → TriangleLaws triples → IsLabel triples x → y ≡ next triples x
    → z ≡ next triples y → rank y < rank z → AreOtherSides triples x y z
other_sides triples x y z laws label is_y is_z less = record {
  order = less;
  first = subst (IsLabel triples) (sym is_y) (laws.label x label);
  second = label_of_z;
  all = λ s in_range same apart. by_side s apart (laws.sides x s label in_range same);
}
  where
    is_previous : z ≡ previous triples x
    is_previous = is_z ∙ ap (next triples) is_y

    label_of_z : IsLabel triples z
    label_of_z = subst (IsLabel triples) (sym is_previous) (laws.label (next triples x) (laws.label x label))

    by_side : (s : ℤ) → s ≢ x → (s ≡ x) ⊎ ((s ≡ next triples x) ⊎ (s ≡ previous triples x)) → (s ≡ y) ⊎ (s ≡ z)
    by_side s apart (inl e) = absurd (apart e)
    by_side s apart (inr (inl e)) = inl (e ∙ sym is_y)
    by_side s apart (inr (inr e)) = inr (e ∙ sym is_previous)

pub turned_sides : (triples : List (List ℤ)) (x y z : ℤ) → TriangleLaws triples → OrderLaws → IsLabel triples x
    → y ≡ next triples x → z ≡ next triples y → rank z ≤ rank y → AreOtherSides triples x z y
turned_sides triples x y z laws order label is_y is_z less = record {
  order = strict (eq-or-lt_of_le less);
  first = label_of_z;
  second = label_of_y;
  all = λ s in_range same apart. by_side s apart (laws.sides x s label in_range same);
}
  where
    is_previous : z ≡ previous triples x
    is_previous = is_z ∙ ap (next triples) is_y

    label_of_y : IsLabel triples y
    label_of_y = subst (IsLabel triples) (sym is_y) (laws.label x label)

    label_of_z : IsLabel triples z
    label_of_z = subst (IsLabel triples) (sym is_previous) (laws.label (next triples x) (laws.label x label))

    strict : (rank z ≡ rank y) ⊎ (rank z < rank y) → rank z < rank y
    strict (inr h) = h
    strict (inl e) = absurd ((laws.moves y label_of_y).0 (sym is_z ∙ order.one z y e))

    by_side : (s : ℤ) → s ≢ x → (s ≡ x) ⊎ ((s ≡ next triples x) ⊎ (s ≡ previous triples x)) → (s ≡ z) ⊎ (s ≡ y)
    by_side s apart (inl e) = absurd (apart e)
    by_side s apart (inr (inl e)) = inr (e ∙ sym is_y)
    by_side s apart (inr (inr e)) = inl (e ∙ sym is_previous)

-- ---- letters that come before the first: some rotation is less

rank_below : (x y : ℤ) → edge_of x < edge_of y → rank x < rank y
rank_below (pos m) (pos n) h = omega arith
rank_below (pos m) (negsuc n) h = omega arith
rank_below (negsuc m) (pos n) h = omega arith
rank_below (negsuc m) (negsuc n) h = omega arith

-- a word that begins with a lower letter comes before
before_by_heads : (w u : List ℤ) (x y : ℤ) (k : ℕ) → k < length w → y ≡ get_or w k y → x ≡ get_or u 0 x → 0 < length u
    → rank y < rank x → IsWordBefore (turned k w) u
before_by_heads w [] x y k inside is_y is_x some less = absurd (omega arith)
before_by_heads w (z ∷ u) x y k inside is_y is_x some less =
    subst (λ (a : List ℤ). IsWordBefore (a ++ take k w) (z ∷ u))
    (sym (drop_more w k y inside ∙ ap (λ (b : ℤ). b ∷ drop (k + 1) w) (sym is_y)))
    (inl (subst (λ (b : ℤ). rank y < rank b) is_x less))

-- no cycle begins with a word whose last letter has a lower edge than its first
pub adds_nothing_low : WordLaws → (triples : List (List ℤ)) (word : List ℤ) (n count : ℕ) (first last : ℤ)
    (walks : List DualWalk) → count ≡ length word → 0 < count → first ≡ get_or word 0 first
    → last ≡ get_or word (count - 1) last → edge_of last < edge_of first
    → Adds triples (IsCycleFrom triples n word) walks walks
adds_nothing_low words triples word n count first last walks is_count some is_first is_last low =
    adds_none triples (IsCycleFrom triples n word) walks none
  where
    none : (w : List ℤ) → IsCycleFrom triples n word w → ⊥
    none w h =
        let long : length w ≡ length word + length h.rest = ap length h.begins ∙ length-append word h.rest in
        let last_in : last ≡ get_or w (count - 1) last =
        is_last ∙ sym (ap (λ (u : List ℤ). get_or u (count - 1) last) h.begins
        ∙ get_or_append_left word h.rest last (count - 1) (omega arith)) in
        let first_in : first ≡ get_or w 0 first =
        is_first ∙ sym (ap (λ (u : List ℤ). get_or u 0 first) h.begins
        ∙ get_or_append_left word h.rest first 0 (omega arith)) in
        not_least_on words w (turned (count - 1) w) (count - 1) refl
        (before_by_heads w w first last (count - 1) (omega arith) last_in first_in (omega arith)
        (rank_below last first low)) h.cycle.cycle.least

-- no cycle begins with the negative label of an edge: the way back has the other one
pub no_negative : WordLaws → (triples : List (List ℤ)) (e : ℕ) (w : List ℤ) → IsCycle triples (negsuc e ∷ w) → ⊥
no_negative words triples e w h =
    let back = inverse_word (negsuc e ∷ w) in
    let count = length (inverse_word w) in
    let long : length back ≡ count + 1 = length-append (inverse_word w) (pos e ∷ []) in
    let last : pos e ≡ get_or back count (pos e) =
    sym (get_or-append_right (inverse_word w) (pos e ∷ []) count count (pos e) refl (omega arith)
    ∙ ap (λ (k : ℕ). get_or (pos e ∷ []) k (pos e)) (let none : count - count ≡ 0 = omega arith in none)) in
    not_least_back words (negsuc e ∷ w) back (turned count back) count refl refl
    (before_by_heads back (negsuc e ∷ w) (negsuc e) (pos e) count (omega arith) last refl (omega arith) (omega arith))
    h.least
