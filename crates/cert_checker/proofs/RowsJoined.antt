-- A matrix whose rows pass the tests counts the passes of the train paths. There are as many rows as branches, since
-- each row belongs to a branch and each branch to a row. And each row counts the same passes, as a walk has one list of
-- them.
use Rattle.std.proofs.Common.{◌≡◌, ◌<◌, ℕ, ℤ, List, [], ◌∷◌, inl, inr, sym, ◌∙◌, ap, arith, length, max}
use Rattle.std.proofs.Common.{slice_index_or}
use Rattle.std.proofs.lemmas.Bool.{cases_lt}
use Rattle.train_track.specs.Passes.{Pass, ArePassesOf}
use Rattle.train_track.specs.TrackLaws.{ListLaws}
use Rattle.transition_matrix.specs.Matrices.{entry}
use Rattle.carry_map.specs.Iterates.{IsTransition, passed}
use Rattle.cert_text.specs.Certificates.{CarriedTrack}
use Rattle.cert_text.specs.PseudoAnosov.{IsGrowing, matrix_of}
use Rattle.cert_checker.specs.TrackRules.{IsRowAt}
use Rattle.cert_checker.specs.inside.TrackParts.{IsBounded, IsMatrix, IsSquare}
use Rattle.cert_checker.proofs.MatrixEntries.{entry_at}

-- where each number below the greater is below both, they are the same
same_numbers : (a b : ℕ) → ((i : ℕ) → i < max a b → (i < a) × (i < b)) → a ≡ b
same_numbers a b both = elim (cases_lt a b) [
  | inl less ↦ absurd (let (here, there) = both a (omega arith) in omega arith)
  | inr more ↦ elim (cases_lt b a) [
    | inl less ↦ absurd (let (here, there) = both b (omega arith) in omega arith)
    | inr again ↦ omega arith
  ]
]

-- a walk has one list of passes
one_list : (triples : List (List ℤ)) (left_out : List ℤ) (branches : List (List ℤ)) → ListLaws triples left_out branches
    → (first second : List Pass) (w : List ℤ) → ArePassesOf branches first w → ArePassesOf branches second w
    → first ≡ second
one_list triples left_out branches laws first second [] h k = h ∙ sym k
one_list triples left_out branches laws first second (x ∷ w) h k = laws.only x first second w h k

module _ (branches : List (List ℤ)) (c : CarriedTrack) (h : IsMatrix branches c) where
  row : (i : ℕ) → i < max (length branches) (length c.matrix) → IsRowAt branches c i
  row i within = h.rows i within

  one_row_each : length branches ≡ length c.matrix
  one_row_each =
      same_numbers (length branches) (length c.matrix)
      (λ i within. ((row i within).branch, (row i within).row))

  row_at : (i : ℕ) → i < length c.matrix → IsRowAt branches c i
  row_at i within = row i (omega (arith, one_row_each))

  pub square : IsSquare c
  square i within = (row_at i within).one_entry_each ∙ one_row_each

  -- the entries count the passes of the column that row j counts
  counted : (triples : List (List ℤ)) (left_out : List ℤ) → ListLaws triples left_out branches → (i j : ℕ)
      → (within : i < length c.matrix) (below : j < length c.matrix) (inside : j < length branches)
      → entry (matrix_of c) i j ≡ passed ((row_at j below).counts j inside).0 i
  counted triples left_out laws i j within below inside =
      entry_at (length c.matrix) c.matrix i j square within below
      ∙ ((row_at i within).counts j inside).2
      ∙ ap (λ (passes : List Pass). passed passes i)
      (one_list triples left_out branches laws ((row_at i within).counts j inside).0
      ((row_at j below).counts j inside).0 (slice_index_or c.images j []) ((row_at i within).counts j inside).1
      ((row_at j below).counts j inside).1)

  pub transition : (triples : List (List ℤ)) (left_out : List ℤ) → ListLaws triples left_out branches
      → IsTransition branches c.images (matrix_of c)
  transition triples left_out laws = record {
    size = sym one_row_each;
    passes = λ j below.
        (let inside : j < length branches = omega (arith, one_row_each) in (
          ((row_at j below).counts j inside).0,
          ((row_at j below).counts j inside).1,
          λ i within. counted triples left_out laws i j within below inside,
        ));
  }

  -- ---- with its bounds

  pub growing : IsBounded c → IsGrowing (matrix_of c) c
  growing k = record {
    some = h.exponent.0;
    within_limit = h.exponent.1;
    positive = h.exponent.2;
    bounds = record {
      one_per_row = k.one_each;
      positive = λ i within. (k.all i within).entry.0;
      grows = k.pairs.above_one;
      at_least = λ i within. (k.all i within).at_least;
      at_most = λ i within. (k.all i within).at_most;
    };
    low = k.pairs.low;
    high = k.pairs.high;
    row = λ i within. (k.all i within).entry.1;
    next_row = λ i within. (k.all i within).next;
  }
