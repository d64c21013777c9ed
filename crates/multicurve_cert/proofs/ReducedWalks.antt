-- The reduced walks of one to four letters from a triangle: there are 45, so that with the empty walk two different
-- ones end in one triangle, where there are no more than 32 triangles.
--
-- A reduced walk that begins with x goes on with one of the two other sides of the triangle behind x. So there are
-- 1 + 2 + 4 + 8 walks of at most four letters that begin with x, and three choices of x. They differ in their first
-- letter, or else after it.
use Rattle.std.proofs.Common.{ℕ, zero, suc, ℤ, List, [], ◌∷◌, ◌++◌, ◌≡◌, ◌≢◌, ◌<◌, ◌≤◌, ◌+◌, refl, sym, ◌∙◌, ap}
use Rattle.std.proofs.Common.{subst, arith, length, length-append, map}
use Rattle.std.proofs.lemmas.List.{length-map}
use Rattle.ideal_tri.specs.Labels.{inverse}
use Rattle.ideal_tri.specs.Words.{IsReduced}
use Rattle.ideal_tri.specs.Triangulations.{IsLabel, IsWalk, triangle_of, next, previous}
use Rattle.multicurve_cert.proofs.Distinct.{Each, Each-append, Each-weaken, Each-map, Distinct, Distinct-append}
use Rattle.multicurve_cert.proofs.Distinct.{Distinct-map}
use Rattle.multicurve_cert.proofs.Pigeonhole.{Shared, two_share}
use Rattle.multicurve_cert.proofs.Known.{Known}

-- ---- ends of walks

-- the triangle where the letters lead from triangle s
abbrev pub end_of : List (List ℤ) → ℕ → List ℤ → ℕ
end_of triples s [] = s
end_of triples s (x ∷ w) = end_of triples (triangle_of triples (inverse x)) w

-- the word begins with the letter x
abbrev StartsWith : ℤ → List ℤ → Type 0
StartsWith x [] = ⊥
StartsWith x (y ∷ w) = x ≡ y

-- words that begin with different letters are different
starts_apart : (x y : ℤ) (u v : List ℤ) → x ≢ y → StartsWith x u → StartsWith y v → u ≢ v
starts_apart x y [] v n h k e = absurd h
starts_apart x y (a ∷ u) [] n h k e = absurd k
starts_apart x y (a ∷ u) (b ∷ v) n h k e = let same : a ≡ b = cc in n (h ∙ same ∙ sym k)

-- so are all of two lists of such words
all_apart : (x y : ℤ) (us vs : List (List ℤ)) → x ≢ y → Each (StartsWith x) us → Each (StartsWith y) vs
    → Each (λ u. Each (λ v. u ≢ v) vs) us
all_apart x y us vs n h k =
    Each-weaken (StartsWith x) (λ (u : List ℤ). Each (λ v. u ≢ v) vs)
    (λ u s. Each-weaken (StartsWith y) (λ (v : List ℤ). u ≢ v) (λ v t. starts_apart x y u v n s t) vs k) us h

-- ---- the walks that begin with a letter

-- those of one to n + 1 letters
beginning : List (List ℤ) → ℕ → ℤ → List (List ℤ)
beginning triples zero x = (x ∷ []) ∷ []
beginning triples (suc n) x =
    (x ∷ [])
    ∷ map (λ w. x ∷ w)
    (beginning triples n (next triples (inverse x)) ++ beginning triples n (previous triples (inverse x)))

-- a reduced walk that begins with x, of at most n + 1 letters
record Begins (triples : List (List ℤ)) (n : ℕ) (x : ℤ) (w : List ℤ) : Type 0 where
  starts : StartsWith x w
  walk : IsWalk triples (triangle_of triples x) w (end_of triples (triangle_of triples x) w)
  reduced : IsReduced w
  short : length w ≤ suc n

-- how many words there are in `beginning`
size : ℕ → ℕ
size zero = 1
size (suc n) = suc (size n + size n)

length-beginning : (triples : List (List ℤ)) (n : ℕ) (x : ℤ) → length (beginning triples n x) ≡ size n
unfolding beginning size
length-beginning triples zero x = refl
length-beginning triples (suc n) x =
    ap suc
    (length-map (on ++ other) (λ (w : List ℤ). x ∷ w)
    ∙ length-append on other
    ∙ omega (
      arith,
      length-beginning triples n (next triples (inverse x)),
      length-beginning triples n (previous triples (inverse x)),
    ))
  where
    on : List (List ℤ)
    on = beginning triples n (next triples (inverse x))

    other : List (List ℤ)
    other = beginning triples n (previous triples (inverse x))

-- x in front of a reduced word that begins with c
reduced_follow : (x c : ℤ) (w : List ℤ) → c ≢ inverse x → StartsWith c w → IsReduced w → IsReduced (x ∷ w)
reduced_follow x c [] n s h = tt
reduced_follow x c (y ∷ w) n s h = ((λ e. n (s ∙ e)), h)

module _ (triples : List (List ℤ)) (k : Known triples) where
  -- y is another side of the triangle of x
  record Beside (x y : ℤ) : Type 0 where
    label : IsLabel triples y
    triangle : triangle_of triples y ≡ triangle_of triples x
    other : y ≢ x

  -- the other two sides
  next_beside : (x : ℤ) → IsLabel triples x → Beside x (next triples x)
  next_beside x l = record {
    label = k.triangles.label x l;
    triangle = k.triangles.stays x l;
    other = (k.triangles.moves x l).0;
  }

  previous_beside : (x : ℤ) → IsLabel triples x → Beside x (previous triples x)
  previous_beside x l = record {
    label = k.triangles.label (next triples x) (k.triangles.label x l);
    triangle = k.triangles.stays (next triples x) (k.triangles.label x l) ∙ k.triangles.stays x l;
    other = (k.triangles.moves x l).1;
  }

  -- the side after x is not the side before x
  next_not_previous : (x : ℤ) → IsLabel triples x → next triples x ≢ previous triples x
  next_not_previous x l e = (k.triangles.moves (next triples x) (k.triangles.label x l)).0 (sym e)

  -- the walk of the letter alone
  begins_here : (n : ℕ) (x : ℤ) → IsLabel triples x → Begins triples n x (x ∷ [])
  begins_here n x l = record {
    starts = refl;
    walk = (l, refl, refl);
    reduced = tt;
    short = omega arith;
  }

  -- a letter more in front
  begins_before : (n : ℕ) (x c : ℤ) → IsLabel triples x → Beside (inverse x) c → (w : List ℤ)
      → Begins triples n c w → Begins triples (suc n) x (x ∷ w)
  begins_before n x c l b w h = record {
    starts = refl;
    walk = (
      l,
      refl,
      subst (λ (t : ℕ). IsWalk triples t w (end_of triples t w)) b.triangle h.walk,
    );
    reduced = reduced_follow x c w b.other h.starts h.reduced;
    short = let s : length w ≤ suc n = h.short in omega arith;
  }

  -- each of the words is such a walk
  each_begins : (n : ℕ) (x : ℤ) → IsLabel triples x → Each (Begins triples n x) (beginning triples n x)
  unfolding beginning
  each_begins zero x l = (begins_here zero x l, tt)
  each_begins (suc n) x l = (
    begins_here (suc n) x l,
    Each-map (Begins triples (suc n) x) (λ (w : List ℤ). x ∷ w) (beginning triples n a ++ beginning triples n b)
        (Each-append (λ (w : List ℤ). Begins triples (suc n) x (x ∷ w)) (beginning triples n a)
        (beginning triples n b)
        (Each-weaken (Begins triples n a) (λ (w : List ℤ). Begins triples (suc n) x (x ∷ w))
        (begins_before n x a l (next_beside (inverse x) back)) (beginning triples n a)
        (each_begins n a (k.triangles.label (inverse x) back)))
        (Each-weaken (Begins triples n b) (λ (w : List ℤ). Begins triples (suc n) x (x ∷ w))
        (begins_before n x b l (previous_beside (inverse x) back)) (beginning triples n b)
        (each_begins n b (previous_beside (inverse x) back).label))),
  )
    where
      back : IsLabel triples (inverse x)
      back = k.labels.label triples x l

      a : ℤ
      a = next triples (inverse x)

      b : ℤ
      b = previous triples (inverse x)

  starts_of : (n : ℕ) (x : ℤ) → IsLabel triples x → Each (StartsWith x) (beginning triples n x)
  starts_of n x l =
      Each-weaken (Begins triples n x) (StartsWith x) (λ w h. h.starts) (beginning triples n x) (each_begins n x l)

  -- the walks of two sides are different
  sides_apart : (n : ℕ) (x y : ℤ) → IsLabel triples x → IsLabel triples y → x ≢ y
      → Each (λ u. Each (λ v. u ≢ v) (beginning triples n y)) (beginning triples n x)
  sides_apart n x y l m ne =
      all_apart x y (beginning triples n x) (beginning triples n y) ne (starts_of n x l) (starts_of n y m)

  -- no two of the words are the same
  distinct_beginning : (n : ℕ) (x : ℤ) → IsLabel triples x → Distinct (beginning triples n x)
  unfolding beginning
  distinct_beginning zero x l = (tt, tt)
  distinct_beginning (suc n) x l = (
    Each-map (λ (u : List ℤ). x ∷ [] ≢ u) (λ (w : List ℤ). x ∷ w) (beginning triples n a ++ beginning triples n b)
        (Each-append (λ (w : List ℤ). x ∷ [] ≢ x ∷ w) (beginning triples n a) (beginning triples n b)
        (Each-weaken (StartsWith a) (λ (w : List ℤ). x ∷ [] ≢ x ∷ w) (longer a) (beginning triples n a)
        (starts_of n a a_label))
        (Each-weaken (StartsWith b) (λ (w : List ℤ). x ∷ [] ≢ x ∷ w) (longer b) (beginning triples n b)
        (starts_of n b b_label))),
    Distinct-map (λ (w : List ℤ). x ∷ w) (λ u v e. cc) (beginning triples n a ++ beginning triples n b)
        (Distinct-append (beginning triples n a) (beginning triples n b) (distinct_beginning n a a_label)
        (distinct_beginning n b b_label)
        (sides_apart n a b a_label b_label (next_not_previous (inverse x) back))),
  )
    where
      back : IsLabel triples (inverse x)
      back = k.labels.label triples x l

      a : ℤ
      a = next triples (inverse x)

      b : ℤ
      b = previous triples (inverse x)

      a_label : IsLabel triples a
      a_label = (next_beside (inverse x) back).label

      b_label : IsLabel triples b
      b_label = (previous_beside (inverse x) back).label

      longer : (c : ℤ) (w : List ℤ) → StartsWith c w → x ∷ [] ≢ x ∷ w
      longer c [] s e = s
      longer c (y ∷ w) s e = let same : length (x ∷ []) ≡ length (x ∷ (y ∷ w)) = ap length e in omega arith

  -- ---- the walks of at most four letters from the triangle of x

  -- a reduced walk from triangle s, of at most four letters
  pub record IsShort (s : ℕ) (w : List ℤ) : Type 0 where
    pub walk : IsWalk triples s w (end_of triples s w)
    pub reduced : IsReduced w
    pub short : length w ≤ 4
    pub inside : end_of triples s w < length triples

  -- a walk from a triangle ends at a triangle
  end_inside : (s : ℕ) (w : List ℤ) → s < length triples → IsWalk triples s w (end_of triples s w)
      → end_of triples s w < length triples
  end_inside s [] h walk = h
  end_inside s (x ∷ w) h walk =
      end_inside (triangle_of triples (inverse x)) w
      (k.triangles.triangle (inverse x) (k.labels.label triples x walk.0)) walk.2

  -- a walk from a side of the triangle of x is one from the triangle of x
  short_walk : (x y : ℤ) → IsLabel triples x → triangle_of triples y ≡ triangle_of triples x → (w : List ℤ)
      → Begins triples 3 y w → IsShort (triangle_of triples x) w
  short_walk x y l e w h =
      let walk : IsWalk triples (triangle_of triples x) w (end_of triples (triangle_of triples x) w) =
      subst (λ (t : ℕ). IsWalk triples t w (end_of triples t w)) e h.walk in record {
        walk = walk;
        reduced = h.reduced;
        short = h.short;
        inside = end_inside (triangle_of triples x) w (k.triangles.triangle x l) walk;
      }

  -- the empty walk, and those that begin with one of the three sides
  short_walks : ℤ → List (List ℤ)
  short_walks x =
      [] ∷ (beginning triples 3 x
      ++ (beginning triples 3 (next triples x) ++ beginning triples 3 (previous triples x)))

  short_from : (x y : ℤ) → IsLabel triples x → IsLabel triples y → triangle_of triples y ≡ triangle_of triples x
      → Each (IsShort (triangle_of triples x)) (beginning triples 3 y)
  short_from x y l m e =
      Each-weaken (Begins triples 3 y) (IsShort (triangle_of triples x)) (short_walk x y l e)
      (beginning triples 3 y) (each_begins 3 y m)

  -- each of them is such a walk
  each_short : (x : ℤ) → IsLabel triples x → Each (IsShort (triangle_of triples x)) (short_walks x)
  unfolding short_walks
  each_short x l =
      let n : Beside x (next triples x) = next_beside x l in
      let p : Beside x (previous triples x) = previous_beside x l in (
        record { walk = refl; reduced = tt; short = omega arith; inside = k.triangles.triangle x l },
        Each-append (IsShort (triangle_of triples x)) (beginning triples 3 x)
            (beginning triples 3 (next triples x) ++ beginning triples 3 (previous triples x))
            (short_from x x l l refl)
            (Each-append (IsShort (triangle_of triples x)) (beginning triples 3 (next triples x))
            (beginning triples 3 (previous triples x)) (short_from x (next triples x) l n.label n.triangle)
            (short_from x (previous triples x) l p.label p.triangle)),
      )

  -- words that differ from those of two lists differ from those of both
  apart_from_both : (us vs ws : List (List ℤ)) → Each (λ u. Each (λ v. u ≢ v) vs) us
      → Each (λ u. Each (λ v. u ≢ v) ws) us
      → Each (λ u. Each (λ v. u ≢ v) (vs ++ ws)) us
  apart_from_both [] vs ws h i = tt
  apart_from_both (u ∷ us) vs ws h i =
      (Each-append (λ (v : List ℤ). u ≢ v) vs ws h.0 i.0, apart_from_both us vs ws h.1 i.1)

  -- no two of them are the same
  distinct_short : (x : ℤ) → IsLabel triples x → Distinct (short_walks x)
  unfolding short_walks
  distinct_short x l = (
    Each-append (λ (w : List ℤ). [] ≢ w) here (after ++ before) (not_empty x l)
        (Each-append (λ (w : List ℤ). [] ≢ w) after before (not_empty (next triples x) n.label)
        (not_empty (previous triples x) p.label)),
    Distinct-append here (after ++ before) (distinct_beginning 3 x l)
        (Distinct-append after before (distinct_beginning 3 (next triples x) n.label)
        (distinct_beginning 3 (previous triples x) p.label)
        (sides_apart 3 (next triples x) (previous triples x) n.label p.label (next_not_previous x l)))
        (apart_from_both here after before
        (sides_apart 3 x (next triples x) l n.label (λ e. n.other (sym e)))
        (sides_apart 3 x (previous triples x) l p.label (λ e. p.other (sym e)))),
  )
    where
      n : Beside x (next triples x)
      n = next_beside x l

      p : Beside x (previous triples x)
      p = previous_beside x l

      here : List (List ℤ)
      here = beginning triples 3 x

      after : List (List ℤ)
      after = beginning triples 3 (next triples x)

      before : List (List ℤ)
      before = beginning triples 3 (previous triples x)

      not_empty : (y : ℤ) → IsLabel triples y → Each (λ w. [] ≢ w) (beginning triples 3 y)
      not_empty y m =
          Each-weaken (StartsWith y) (λ (w : List ℤ). [] ≢ w)
          (λ w s e. subst (StartsWith y) (sym e) s) (beginning triples 3 y) (starts_of 3 y m)

  -- there are 1 + 3 * 15 of them
  length-short_walks : (x : ℤ) → length (short_walks x) ≡ 46
  unfolding short_walks size
  length-short_walks x =
      ap suc
      (length-append here (after ++ before)
      ∙ omega (
        arith,
        length-append after before,
        length-beginning triples 3 x,
        length-beginning triples 3 (next triples x),
        length-beginning triples 3 (previous triples x),
      ))
    where
      here : List (List ℤ)
      here = beginning triples 3 x

      after : List (List ℤ)
      after = beginning triples 3 (next triples x)

      before : List (List ℤ)
      before = beginning triples 3 (previous triples x)

  -- two different reduced walks of at most four letters from the triangle of x that end in one triangle
  pub two_walks : (x : ℤ) → IsLabel triples x → length triples ≤ 32
      → Shared (IsShort (triangle_of triples x)) (end_of triples (triangle_of triples x))
  two_walks x l few =
      two_share (IsShort (triangle_of triples x)) (end_of triples (triangle_of triples x)) (length triples)
      (λ w h. h.inside) (short_walks x) (each_short x l) (distinct_short x l)
      (omega (arith, length-short_walks x))
