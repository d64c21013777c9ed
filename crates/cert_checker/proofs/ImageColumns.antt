-- The branches that images pass, and the matrix that counts them.
--
-- Each image is cut into branches. A pass is glued on by all letters of its branch but the first, which is one letter
-- at least, so that an image has no more passes than letters: all columns together have no more entries than the images
-- have letters. And some branch begins at a switch, of which each triangle has one, so there is a column.
use Rattle.std.proofs.Common.{◌≡◌, ◌<◌, ◌≤◌, ◌⊎◌, inl, inr, ◌+◌, ◌++◌, ℕ, zero, suc, ℤ, Bool, true, false, List, []}
use Rattle.std.proofs.Common.{◌∷◌, length, map, sym, ◌∙◌, ap, subst, arith, get_or, length-append, sum_by}
use Rattle.std.proofs.Common.{Vec, count_by, nat_eq, if◌then◌else◌, ◌||◌}
use Rattle.std.specs.Global.{Global}
use Rattle.std.specs.List.{All, Contains}
use Rattle.std.proofs.Math.Nat.{eq-or-lt_of_le}
use Rattle.std.proofs.Math.Seq.{get_or-append_seam}
use Rattle.std.proofs.lemmas.List.{get_or-map, get_or_append_left, length-map, map-append}
use Rattle.std.proofs.lemmas.List.Sums.{sum_by-cons}
use Rattle.ideal_tri.specs.Labels.{inverse}
use Rattle.ideal_tri.specs.Words.{inverse_word, last_of}
use Rattle.train_track.specs.Branches.{TrainTrack, IsBranch, IsBranchList, words_of}
use Rattle.train_track.specs.Passes.{Pass, letters_of, AreGlued, ArePassesOf}
use Rattle.train_track.specs.TrackLaws.{BranchLaws, TrackLaws}
use Rattle.train_track.specs.Tracks.{is_fork, is_switch}
use Rattle.transition_matrix.specs.Matrices.{Square, IsCountOf}
use Rattle.carry_map.specs.Iterates.{IsTransition}
use Rattle.cert_text.specs.Certificates.{CarriedTrack, rows_of}
use Rattle.cert_text.specs.PseudoAnosov.{letters_of_words}
use Rattle.cert_checker.specs.inside.Columns.{ArePassColumns, IsPassColumn}
use Rattle.cert_checker.specs.inside.TrackParts.{CanBePassed}

-- ---- one column after another

module _ (branches images : List (List ℤ)) where
  pub one_more : (n : ℕ) (columns : List (Vec ℕ Global)) (v : Vec ℕ Global) → ArePassColumns branches images n columns
      → IsPassColumn branches (get_or images n []) v.items → ArePassColumns branches images (n + 1) (columns ++ v ∷ [])
  one_more n columns v h (passes, are, numbers) = record {
    as_many = length-append columns (v ∷ []) ∙ ap (λ (k : ℕ). k + 1) h.as_many;
    passes = λ k below.
        let long : length (columns ++ v ∷ []) ≡ length columns + 1 = length-append columns (v ∷ []) in
        let as_many = h.as_many in at k (eq-or-lt_of_le (omega (arith, long)));
  }
    where
      long_rows : length (rows_of columns) ≡ n
      long_rows = length-map columns (λ (c : Vec ℕ Global). c.items) ∙ h.as_many

      split : rows_of (columns ++ v ∷ []) ≡ rows_of columns ++ (v.items ∷ [])
      split = map-append (λ (c : Vec ℕ Global). c.items) columns (v ∷ [])

      at : (k : ℕ) → (k ≡ n) ⊎ (k < n)
          → IsPassColumn branches (get_or images k []) (get_or (rows_of (columns ++ v ∷ [])) k [])
      at k (inl last) = (
        passes,
        subst (λ (i : ℕ). ArePassesOf branches passes (get_or images i [])) (sym last) are,
        ap (λ (xs : List (List ℕ)). get_or xs k []) split
            ∙ ap (λ (i : ℕ). get_or (rows_of columns ++ (v.items ∷ [])) i []) (last ∙ sym long_rows)
            ∙ get_or-append_seam (rows_of columns) v.items [] [] ∙ numbers,
      )
      at k (inr less) =
          let as_many = h.as_many in
          let (ps, are_it, is) = h.passes k (omega arith) in (
            ps,
            are_it,
            ap (λ (xs : List (List ℕ)). get_or xs k []) split
                ∙ get_or_append_left (rows_of columns) (v.items ∷ []) [] k (omega (arith, long_rows)) ∙ is,
          )

-- ---- passes and letters

module _ (triples : List (List ℤ)) (out : List ℤ) (branches : List (List ℤ)) (laws : BranchLaws triples out)
    (list : IsBranchList triples out branches) where
  is_branch : (p : Pass) → p.branch < length branches → IsBranch triples out (letters_of branches p)
  is_branch p within = go p.forwards
    where
      go : (d : Bool) → IsBranch triples out
          (if d then get_or branches p.branch [] else inverse_word (get_or branches p.branch []))
      go true = list.branch p.branch [] within
      go false = laws.back (get_or branches p.branch []) (list.branch p.branch [] within)

  some_more : (b : List ℤ) (x : ℤ) (u : List ℤ) → b ≡ x ∷ u → (length b ≡ 2) ⊎ (length b ≡ 3) → 0 < length u
  some_more b x u is (inl two) = omega (arith, ap length is)
  some_more b x u is (inr three) = omega (arith, ap length is)

  glued_short : (x : ℤ) (passes : List Pass) (w : List ℤ) → AreGlued branches x passes w → length passes ≤ length w
  glued_short x [] w glued = omega arith
  glued_short x (p ∷ passes) w (u, v, within, letters, parts, rest) =
      let some : 0 < length u =
      some_more (letters_of branches p) x u letters (laws.lengths (letters_of branches p) (is_branch p within)) in
      let fewer : length passes ≤ length v = glued_short (last_of x u) passes v rest in
      let long : length w ≡ length u + length v = ap length parts ∙ length-append u v in omega (arith, long)

  glued_below : (x : ℤ) (passes : List Pass) (w : List ℤ) → AreGlued branches x passes w
      → All (λ (i : ℕ). i < length branches) (map (λ (p : Pass). p.branch) passes)
  glued_below x [] w glued k d below = absurd (omega arith)
  glued_below x (p ∷ passes) w (u, v, within, letters, parts, rest) zero d below = within
  glued_below x (p ∷ passes) w (u, v, within, letters, parts, rest) (suc k) d below =
      glued_below (last_of x u) passes v rest k d (omega arith)

  passes_short : (passes : List Pass) (w : List ℤ) → ArePassesOf branches passes w → length passes ≤ length w
  passes_short passes [] none = let empty : length passes ≡ 0 = ap length none in omega (arith, empty)
  passes_short passes (x ∷ w) glued = let short = glued_short x passes w glued in omega arith

  passes_below : (passes : List Pass) (w : List ℤ) → ArePassesOf branches passes w
      → All (λ (i : ℕ). i < length branches) (map (λ (p : Pass). p.branch) passes)
  passes_below passes [] none =
      subst (λ (ps : List Pass). All (λ (i : ℕ). i < length branches) (map (λ (p : Pass). p.branch) ps)) (sym none)
      (λ k d below. absurd (omega arith))
  passes_below passes (x ∷ w) glued = glued_below x passes w glued

-- ---- room for the matrix

sums_below : (columns : List (Vec ℕ Global)) (words : List (List ℤ)) → length columns ≡ length words
    → ((j : ℕ) → j < length columns → length (get_or (rows_of columns) j []) ≤ length (get_or words j []))
    → sum_by (λ (c : Vec ℕ Global). length c.items) columns ≤ letters_of_words words
sums_below [] words as_many h = omega arith
sums_below (v ∷ columns) [] as_many h = absurd (omega (arith, as_many))
sums_below (v ∷ columns) (w ∷ words) as_many h =
    let first : length v.items ≤ length w = h 0 (omega arith) in
    let rest : sum_by (λ (c : Vec ℕ Global). length c.items) columns ≤ letters_of_words words =
    sums_below columns words (omega (arith, as_many)) (λ j below. h (suc j) (omega arith)) in
    let entries : sum_by (λ (c : Vec ℕ Global). length c.items) (v ∷ columns)
    ≡ length v.items + sum_by (λ (c : Vec ℕ Global). length c.items) columns =
    sum_by-cons (λ (c : Vec ℕ Global). length c.items) v columns in
    let letters : letters_of_words (w ∷ words) ≡ length w + letters_of_words words =
    sum_by-cons (λ (n : ℕ). n) (length w) (map length words) in omega (arith, entries, letters)

-- some branch begins at a switch of the first triangle
some_branch : (ts : List (List ℤ)) (track : TrainTrack) (c : CarriedTrack) → TrackLaws → CanBePassed ts track c
    → 0 < length (words_of track.branches)
unfolding is_switch
some_branch ts track c laws h =
    let single = h.on.filling.single in
    let turns = laws.turns ts track.left_out h.sound single in
    let (x, label, there, fork) = turns.in_triangle 0 h.sound.some in
    let switch : is_switch ts track.left_out x ≡ true =
    ap (λ (b : Bool). b || is_fork ts track.left_out (inverse x)) fork in
    let (b, is, begins) = (laws.branches ts track.left_out h.sound single).begins x label switch in
    let lists = laws.lists ts track.left_out (words_of track.branches) h.sound single h.on.branches in
    at b (lists.one b is)
  where
    at : (b : List ℤ) → Contains (words_of track.branches) b ⊎ Contains (words_of track.branches) (inverse_word b)
        → 0 < length (words_of track.branches)
    at b (inl (k, less, e)) = omega arith
    at b (inr (k, less, e)) = omega arith

pub record HasRoom (columns : List (Vec ℕ Global)) : Type 0 where
  pub some : 0 < length columns
  pub entries : All (λ (c : Vec ℕ Global). All (λ (i : ℕ). i < length columns) c.items) columns
  pub few : sum_by (λ (c : Vec ℕ Global). length c.items) columns ≤ 262144

module _ (ts : List (List ℤ)) (track : TrainTrack) (c : CarriedTrack) (laws : TrackLaws) (h : CanBePassed ts track c)
    (n : ℕ) (all : n ≡ length c.images) (columns : List (Vec ℕ Global))
    (are : ArePassColumns (words_of track.branches) c.images n columns) where
  abbrev branches : List (List ℤ)
  branches = words_of track.branches

  as_many_branches : length columns ≡ length branches
  as_many_branches = are.as_many ∙ all ∙ h.images.one_each

  abbrev branch_laws : BranchLaws ts track.left_out
  branch_laws = laws.branches ts track.left_out h.sound h.on.filling.single

  column_short : (j : ℕ) → j < length columns
      → length (get_or (rows_of columns) j []) ≤ length (get_or c.images j [])
  column_short j below =
      let (passes, cut, numbers) = are.passes j below in
      subst (λ (n : ℕ). n ≤ length (get_or c.images j []))
      (sym (ap length numbers ∙ length-map passes (λ (p : Pass). p.branch)))
      (passes_short ts track.left_out branches branch_laws h.on.branches passes (get_or c.images j []) cut)

  column_below : (j : ℕ) → j < length columns → All (λ (i : ℕ). i < length columns) (get_or (rows_of columns) j [])
  column_below j below =
      let (passes, cut, numbers) = are.passes j below in
      subst (λ (n : ℕ). All (λ (i : ℕ). i < n) (get_or (rows_of columns) j [])) (sym as_many_branches)
      (subst (All (λ (i : ℕ). i < length branches)) (sym numbers)
      (passes_below ts track.left_out branches branch_laws h.on.branches passes (get_or c.images j []) cut))

  pub has_room : HasRoom columns
  has_room = record {
    some = (let some = some_branch ts track c laws h in omega (arith, as_many_branches));
    entries = λ j d below.
        subst (All (λ (i : ℕ). i < length columns)) (get_or-map (λ (v : Vec ℕ Global). v.items) columns j d [] below)
        (column_below j below);
    few =
        (let sums : sum_by (λ (v : Vec ℕ Global). length v.items) columns ≤ letters_of_words c.images =
        sums_below columns c.images (are.as_many ∙ all) column_short in
        let few = h.images.few in omega arith);
  }

  pub counted : (m : Square) → IsCountOf (rows_of columns) m → IsTransition branches c.images m
  counted m count = record {
    size = count.size ∙ length-map columns (λ (v : Vec ℕ Global). v.items) ∙ as_many_branches;
    passes = λ j below.
        let long : length (rows_of columns) ≡ length columns = length-map columns (λ (v : Vec ℕ Global). v.items) in
        let size = count.size in
        let (passes, cut, numbers) = are.passes j (omega (arith, long)) in (
          passes,
          cut,
          λ i row. count.counts i j row below ∙ ap (λ (column : List ℕ). count_by (nat_eq i) column) numbers,
        );
  }
