-- Cutting a word into branches, one after another.
--
-- Some cut is there. Each branch that is read off has the first two letters of the next pass of that cut, so it has all
-- its letters, and may take its place.
use Rattle.std.proofs.Common.{ℕ, suc, ℤ, pos, Bool, true, false, List, [], ◌∷◌, ◌++◌, ◌≡◌, ◌<◌, ◌≤◌, ◌+◌, ◌-◌}
use Rattle.std.proofs.Common.{◌⊎◌, inl, inr, refl, sym, ◌∙◌, ap, subst, arith, length, map, drop, get_or, append_assoc}
use Rattle.std.proofs.Common.{length-append, length-drop, drop-cons, if◌then◌else◌}
use Rattle.std.proofs.Math.Seq.{drop-append_seam}
use Rattle.std.proofs.Math.ListN.{drop_of_length-le}
use Rattle.std.proofs.lemmas.List.{get_or-map, get_or-drop, get_or_append_left, map_push, append-nil, drop-drop}
use Rattle.std.specs.List.{All}
use Rattle.ideal_tri.specs.Labels.{inverse}
use Rattle.ideal_tri.specs.Words.{inverse_word, last_of}
use Rattle.ideal_tri.specs.WordLaws.{WordLaws}
use Rattle.free_groupoid.specs.Walks.{DualWalk}
use Rattle.train_track.specs.Branches.{letter_at, words_of}
use Rattle.train_track.specs.Passes.{Pass, letters_of, AreGlued, ArePassesOf}
use Rattle.train_track.specs.inside.Passing.{BeginsWith, BeginsSomeWay, IsBeginning, CanBeCutInto}

-- passes were read off up to the letter at i, and some cut of the letters from there on is left
pub record IsCutUpTo (branches : List (List ℤ)) (w : List ℤ) (numbers : List ℕ) (i : ℕ) : Type 0 where
  pub within : i < length w
  pub made : List Pass
  pub left : List Pass
  pub numbers_are : numbers ≡ map (λ p. p.branch) made
  pub left_glued : AreGlued branches (letter_at w i) left (drop (i + 1) w)
  pub joined : (rest : List Pass) → AreGlued branches (letter_at w i) rest (drop (i + 1) w)
      → ArePassesOf branches (made ++ rest) w

pub cut_none : (branches : List (List ℤ)) (w : List ℤ) → CanBeCutInto branches w → IsCutUpTo branches w [] 0
cut_none branches [] h = absurd (let some : 0 < length {A = ℤ} [] = h.some in omega arith)
cut_none branches (x ∷ w) h = record {
  within = omega arith;
  made = [];
  left = h.passes;
  numbers_are = refl;
  left_glued = h.cut;
  joined = λ rest glued. glued;
}

-- ---- one more pass

-- where the letters u after x end, in a word that goes on with them
end_letter : WordLaws → (w u v : List ℤ) (i : ℕ) → i < length w → drop (i + 1) w ≡ u ++ v
    → letter_at w (i + length u) ≡ last_of (letter_at w i) u
end_letter words w u v i within split =
    let x : ℤ = letter_at w i in
    sym (get_or-drop i w (length u) (pos 0))
    ∙ ap (λ (z : List ℤ). get_or z (length u) (pos 0))
    (drop-cons w i (pos 0) within ∙ ap (λ (n : ℕ). x ∷ drop n w) (let e : suc i ≡ i + 1 = omega arith in e) ∙ ap
    (λ (z : List ℤ). x ∷ z) split)
    ∙ get_or_append_left (x ∷ u) v (pos 0) (length u) (omega arith)
    ∙ sym (words.last x u (pos 0))

drop_twice : (i n : ℕ) (w : List ℤ) → drop n (drop i w) ≡ drop (i + n) w
drop_twice i n w = drop-drop n i w

end_rest : (w u v : List ℤ) (i : ℕ) → drop (i + 1) w ≡ u ++ v → drop (i + length u + 1) w ≡ v
end_rest w u v i split =
    ap (λ (k : ℕ). drop k w) (let e : i + length u + 1 ≡ i + 1 + length u = omega arith in e)
    ∙ sym (drop_twice (i + 1) (length u) w)
    ∙ ap (drop (length u)) split
    ∙ drop-append_seam u v

length-letters_of : WordLaws → (bs : List (List ℤ)) (p : Pass) → length (letters_of bs p) ≡ length (get_or bs p.branch [])
length-letters_of words bs p = go p.forwards
  where
    go : (b : Bool)
        → length (if b then get_or bs p.branch [] else inverse_word (get_or bs p.branch []))
        ≡ length (get_or bs p.branch [])
    go true = refl
    go false = words.inverses.as_long (get_or bs p.branch [])

long_letters : WordLaws → (bs : List (List ℤ)) (p : Pass) → All (λ b. 2 ≤ length b) bs → p.branch < length bs
    → 2 ≤ length (letters_of bs p)
long_letters words bs p long within =
    let here : 2 ≤ length (get_or bs p.branch []) = long p.branch [] within in
    omega (arith, length-letters_of words bs p)

-- the pass begins with the next two letters
begins_next : WordLaws → (bs : List (List ℤ)) (w : List ℤ) (i : ℕ) (p : Pass) (u v : List ℤ) → All (λ b. 2 ≤ length b) bs
    → p.branch < length bs
    → letters_of bs p ≡ letter_at w i ∷ u → drop (i + 1) w ≡ u ++ v
    → BeginsWith (letter_at w i) (letter_at w (i + 1)) (letters_of bs p)
begins_next words bs w i p [] v long within is split =
    absurd (let two : 2 ≤ length (letters_of bs p) = long_letters words bs p long within in omega (arith, ap length is))
begins_next words bs w i p (y ∷ u) v long within is split = record {
  long = long_letters words bs p long within;
  first = ap (λ (z : List ℤ). letter_at z 0) is;
  second =
      ap (λ (z : List ℤ). letter_at z 1) is
      ∙ sym (ap (λ (z : List ℤ). letter_at z 0) split)
      ∙ get_or-drop (i + 1) w 0 (pos 0)
      ∙ ap (letter_at w) (let e : i + 1 + 0 ≡ i + 1 = omega arith in e);
}

module _ (words : WordLaws) (bs : List (List ℤ)) (w : List ℤ) (can : CanBeCutInto bs w) where
  -- some branch begins with the next two letters
  pub some_begins : (numbers : List ℕ) (i : ℕ) → IsCutUpTo bs w numbers i → i + 1 < length w
      → (k : ℕ) × IsBeginning bs (letter_at w i) (letter_at w (i + 1)) k
  some_begins numbers i h more = go h.left h.left_glued
    where
      go : (left : List Pass) → AreGlued bs (letter_at w i) left (drop (i + 1) w)
          → (k : ℕ) × IsBeginning bs (letter_at w i) (letter_at w (i + 1)) k
      go [] none = absurd (omega (arith, ap length none, length-drop (i + 1) w))
      go (q ∷ left) (u, v, within, is, split, rest) =
          (q.branch, (within, (q.forwards, begins_next words bs w i q u v can.long within is split)))

  cut_pass : (numbers : List ℕ) (i n : ℕ) (p : Pass) → IsCutUpTo bs w numbers i → i + 1 < length w
      → p.branch < length bs
      → BeginsWith (letter_at w i) (letter_at w (i + 1)) (letters_of bs p) → length (get_or bs p.branch []) ≡ n
      → IsCutUpTo bs w (numbers ++ (p.branch ∷ [])) (i + (n - 1))
  cut_pass numbers i n p h more within begins is_n = go h.left h.left_glued
    where
      go : (left : List Pass) → AreGlued bs (letter_at w i) left (drop (i + 1) w)
          → IsCutUpTo bs w (numbers ++ (p.branch ∷ [])) (i + (n - 1))
      go [] none = absurd (omega (arith, ap length none, length-drop (i + 1) w))
      go (q ∷ left) (u, v, inside, is, split, rest) =
          let same : letters_of bs p ≡ letter_at w i ∷ u =
          can.settled p q (letter_at w i) (letter_at w (i + 1)) within inside begins
          (begins_next words bs w i q u v can.long inside is split) ∙ is in
          let step : i + (n - 1) ≡ i + length u =
          omega (arith, length-letters_of words bs p, ap length same, is_n) in
          let here = h.within in
          subst (IsCutUpTo bs w (numbers ++ (p.branch ∷ []))) (sym step) (record {
            within = omega (arith, ap length split, length-drop (i + 1) w, length-append u v);
            made = h.made ++ (p ∷ []);
            left = left;
            numbers_are =
                ap (λ (ms : List ℕ). ms ++ (p.branch ∷ [])) h.numbers_are
                ∙ sym (map_push (λ (r : Pass). r.branch) h.made p);
            left_glued =
                subst (λ (x : ℤ). AreGlued bs x left (drop (i + length u + 1) w))
                (sym (end_letter words w u v i h.within split))
                (subst (AreGlued bs (last_of (letter_at w i) u) left) (sym (end_rest w u v i split)) rest);
            joined = λ more_passes glued.
                subst (λ (ps : List Pass). ArePassesOf bs ps w) (sym (append_assoc h.made (p ∷ []) more_passes))
                (h.joined (p ∷ more_passes) (
                  u,
                  v,
                  within,
                  same,
                  split,
                  subst (λ (x : ℤ). AreGlued bs x more_passes v) (end_letter words w u v i h.within split)
                      (subst (AreGlued bs (letter_at w (i + length u)) more_passes) (end_rest w u v i split) glued),
                ));
          })

  pub cut_more : (numbers : List ℕ) (i k n : ℕ) → IsCutUpTo bs w numbers i → i + 1 < length w
      → IsBeginning bs (letter_at w i) (letter_at w (i + 1)) k → length (get_or bs k []) ≡ n
      → IsCutUpTo bs w (numbers ++ (k ∷ [])) (i + (n - 1))
  cut_more numbers i k n h more (within, (forwards, begins)) is_n =
      cut_pass numbers i n (record { branch = k; forwards = forwards }) h more within begins is_n

  pub cut_all : (numbers : List ℕ) (i : ℕ) → IsCutUpTo bs w numbers i → length w ≤ i + 1
      → (passes : List Pass) × ArePassesOf bs passes w × (numbers ≡ map (λ p. p.branch) passes)
  cut_all numbers i h all = (
    h.made,
    subst (λ (ps : List Pass). ArePassesOf bs ps w) (append-nil h.made) (h.joined [] (drop_of_length-le w all)),
    h.numbers_are,
  )

-- ---- the two ends of a word

-- the inverse of a word begins with the inverses of its last two letters
pub inverse_begins : WordLaws → (w : List ℤ) → 2 ≤ length w
    → (letter_at (inverse_word w) 0 ≡ inverse (letter_at w (length w - 1)))
    × (letter_at (inverse_word w) 1 ≡ inverse (letter_at w (length w - 2)))
inverse_begins words [] h = absurd (omega arith)
inverse_begins words (x ∷ []) h = absurd (omega arith)
inverse_begins words (x ∷ (y ∷ [])) h = (refl, refl)
inverse_begins words (x ∷ (y ∷ (z ∷ w))) h =
    let v : List ℤ = y ∷ (z ∷ w) in
    let long : 2 ≤ length v = omega arith in
    let (a, b) = inverse_begins words (y ∷ (z ∷ w)) long in
    let room : 2 ≤ length (inverse_word v) = omega (arith, words.inverses.as_long v) in (
      get_or_append_left (inverse_word v) (inverse x ∷ []) (pos 0) 0 (omega arith) ∙ a
          ∙ ap (λ (k : ℕ). inverse (letter_at (x ∷ v) k))
          (let e : suc (length v - 1) ≡ length (x ∷ v) - 1 = omega arith in e),
      get_or_append_left (inverse_word v) (inverse x ∷ []) (pos 0) 1 (omega arith) ∙ b
          ∙ ap (λ (k : ℕ). inverse (letter_at (x ∷ v) k))
          (let e : suc (length v - 2) ≡ length (x ∷ v) - 2 = omega arith in e),
    )

-- what the two tests of letters say of a word
module _ (words : WordLaws) (w : List ℤ) (x y : ℤ) (long : 2 ≤ length w) where
  pub begins_forwards : letter_at w 0 ≡ x → letter_at w 1 ≡ y → BeginsSomeWay x y w
  begins_forwards a b = (true, record { long = long; first = a; second = b })

  pub begins_back : inverse (letter_at w (length w - 1)) ≡ x → inverse (letter_at w (length w - 2)) ≡ y
      → BeginsSomeWay x y w
  begins_back a b = (
    false,
    record {
      long = omega (arith, words.inverses.as_long w);
      first = (inverse_begins words w long).0 ∙ a;
      second = (inverse_begins words w long).1 ∙ b;
    },
  )

  pub begins_cases : BeginsSomeWay x y w → ((letter_at w 0 ≡ x) × (letter_at w 1 ≡ y))
      ⊎ ((inverse (letter_at w (length w - 1)) ≡ x) × (inverse (letter_at w (length w - 2)) ≡ y))
  begins_cases (true, h) = inl (h.first, h.second)
  begins_cases (false, h) = inr (sym (inverse_begins words w long).0 ∙ h.first, sym (inverse_begins words w long).1 ∙ h.second)

-- the letters of a branch that is read from the list
pub word_at : (branches : List DualWalk) (k : ℕ) (b : DualWalk) → k < length branches → b ≡ get_or branches k b
    → b.letters ≡ get_or (words_of branches) k []
word_at branches k b within is =
    ap (λ (w : DualWalk). w.letters) is ∙ sym (get_or-map (λ (w : DualWalk). w.letters) branches k b [] within)
