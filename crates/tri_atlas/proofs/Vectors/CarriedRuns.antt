-- A run of strands is carried across a flip: its states off the flipped edge stay, and between two of them stands the
-- state on the edge after the flip, if there is one. The word of the carried run is the image of the word of the run,
-- up to what is put before its first and its last letter.
--
-- The two triangulations, their vectors and what is put before letters enter by the properties of IsPassing alone, so
-- that this serves flips and backward flips. Each state is taken by itself: a run may begin or end on the edge, where
-- past leads on to the next state and crossed is the letter so passed.
use Rattle.std.proofs.Common.{ℕ, ℤ, true, false, List, [], ◌∷◌, ◌++◌, ◌≡◌, inl, inr, sym, ◌∙◌}
use Rattle.std.proofs.Common.{ap, subst, append_assoc}
use Rattle.std.specs.List.{flat_map}
use Rattle.std.proofs.lemmas.Bool.{cases_Bool, eqb-true}
use Rattle.std.proofs.lemmas.List.{append-nil, map-append}
use Rattle.ideal_tri.specs.Labels.{inverse, edge_of}
use Rattle.ideal_tri.specs.Words.{inverse_word, reduce}
use Rattle.ideal_tri.specs.Strands.{State, IsStrand, strand_step, Runs, word_of}
use Rattle.tri_atlas.proofs.LowerLaws.{LowerLaws}
use Rattle.tri_atlas.proofs.Vectors.Exits.{is_on, past, crossed, past-on, past-off, crossed-on, crossed-off}
use Rattle.tri_atlas.proofs.Vectors.Passes.{Passes}
use Rattle.tri_atlas.proofs.Vectors.Carried.{IsPassing, image_with, on_only, carried_state, carried}
use Rattle.tri_atlas.proofs.Vectors.Carried.{carried_state-on, carried_state-off, word_of-on_only, runs_on_only}

module _ (laws : LowerLaws) (here there : List (List ℤ)) (w v : List ℕ) (n : ℕ) (pre : ℤ → List ℤ)
    (h : IsPassing here there w v n pre) where
  -- what is carried of a run
  abbrev pub carry : List State → List State
  carry run = carried there v n run

  -- the words of the run and of the carried run, up to what is put before their ends
  abbrev WordsAgree : State → List State → State → Type 0
  WordsAgree q run r =
      reduce (flat_map (image_with pre) (word_of run) ++ (crossed n r ++ pre (past here w n r).label))
      ≡ reduce (crossed n q ++ (pre (past here w n q).label ++ word_of (carry run)))

  pub record Carries (q : State) (run : List State) (r : State) : Type 0 where
    pub runs : Runs there v (past here w n q) (carry run) (past here w n r)
    pub words : WordsAgree q run r

  carries_none : (q r : State) → q ≡ r → Carries q [] r
  carries_none q r is = record {
    runs = ap (past here w n) is;
    words =
        ap (λ (s : State). reduce (crossed n s ++ pre (past here w n s).label)) (sym is)
        ∙ ap (λ (u : List ℤ). reduce (crossed n q ++ u)) (sym (append-nil (pre (past here w n q).label)));
  }

  plain_image : (x : ℤ) → edge_of x ≡ n → image_with pre x ≡ x ∷ []
  plain_image x on =
      ap (λ (u : List ℤ). u ++ (x ∷ inverse_word (pre (inverse x)))) (h.plain x on)
      ∙ ap (λ (u : List ℤ). x ∷ inverse_word u) (h.plain (inverse x) (laws.labels.edge x ∙ on))

  -- from a state on the edge
  carries_on : (q r : State) (run : List State) → IsStrand here w q → is_on n q ≡ true
      → Carries (strand_step here w q) run r → Carries q (q ∷ run) r
  carries_on q r run s on c = record {
    runs = subst (λ (p : List State). Runs there v (past here w n q) (p ++ carry run) (past here w n r)) (sym gone)
        (subst (λ (p : State). Runs there v p (carry run) (past here w n r)) goes c.runs);
    words =
        ap (λ (u : List ℤ). reduce ((u ++ flat_map (image_with pre) (word_of run)) ++ end))
        (plain_image q.label (eqb-true (edge_of q.label) n on))
        ∙ laws.words.reduction.right (q.label ∷ []) (flat_map (image_with pre) (word_of run) ++ end)
        (crossed n next ++ (pre (past here w n next).label ++ word_of (carry run))) c.words
        ∙ ap (λ (u : List ℤ). reduce
        ((q.label ∷ []) ++ (u ++ (pre (past here w n next).label ++ word_of (carry run))))) (crossed-off n next off)
        ∙ ap (λ (p : State). reduce ((q.label ∷ []) ++ (pre p.label ++ word_of (carry run)))) goes
        ∙ ap (λ (u : List ℤ). reduce (u ++ (pre (past here w n q).label ++ word_of (carry run))))
        (sym (crossed-on n q on))
        ∙ ap (λ (p : List State). reduce (crossed n q ++ (pre (past here w n q).label ++ word_of (p ++ carry run))))
        (sym gone);
  }
    where
      next : State
      next = strand_step here w q

      end : List ℤ
      end = crossed n r ++ pre (past here w n r).label

      off : is_on n (strand_step here w q) ≡ false
      off = h.off_here q s on

      gone : carried_state there v n q ≡ []
      gone = carried_state-on there v n q on

      goes : past here w n (strand_step here w q) ≡ past here w n q
      goes = past-off here w n (strand_step here w q) off ∙ sym (past-on here w n q on)

  around : (P I F R e z W e' : List ℤ) (y : ℤ) → reduce (F ++ R) ≡ reduce (e ++ (z ++ W)) → reduce (I ++ (e ++ z)) ≡ e'
      → reduce (((P ++ (y ∷ I)) ++ F) ++ R) ≡ reduce (P ++ (y ∷ (e' ++ W)))
  around P I F R e z W e' y before between =
      ap reduce (append_assoc (P ++ (y ∷ I)) F R)
      ∙ laws.words.reduction.right (P ++ (y ∷ I)) (F ++ R) (e ++ (z ++ W)) before
      ∙ ap reduce (append_assoc P (y ∷ I) (e ++ (z ++ W)))
      ∙ ap (λ (u : List ℤ). reduce (P ++ (y ∷ u)))
      (ap (λ (u : List ℤ). I ++ u) (sym (append_assoc e z W)) ∙ sym (append_assoc I (e ++ z) W))
      ∙ laws.words.reduction.right P (y ∷ ((I ++ (e ++ z)) ++ W)) (y ∷ (e' ++ W))
      (laws.words.reduction.right (y ∷ []) ((I ++ (e ++ z)) ++ W) (e' ++ W)
      (laws.words.reduction.left (I ++ (e ++ z)) e' W
      (sym (laws.words.reduction.twice (I ++ (e ++ z))) ∙ ap reduce between)))

  -- from a state off the edge
  carries_off : (q r : State) (run : List State) → IsStrand here w q → is_on n q ≡ false
      → Carries (strand_step here w q) run r → Carries q (q ∷ run) r
  carries_off q r run s off c = record {
    runs = subst (λ (p : List State). Runs there v (past here w n q) (p ++ carry run) (past here w n r)) (sym kept) (
      sym stays,
      subst
          (λ (p : State). Runs there v (strand_step there v p) (on_only n after ++ carry run) (past here w n r))
          (sym stays) rest,
    );
    words =
        around (pre q.label) (inverse_word (pre (inverse q.label))) (flat_map (image_with pre) (word_of run))
        (crossed n r ++ pre (past here w n r).label)
        (crossed n next) (pre (past here w n next).label) (word_of (carry run))
        (crossed n after) q.label c.words agree.word
        ∙ ap (λ (u : List ℤ). reduce (pre q.label ++ (q.label ∷ (u ++ word_of (carry run)))))
        (sym (word_of-on_only there v n after))
        ∙ ap (λ (u : List ℤ). reduce (pre q.label ++ (q.label ∷ u)))
        (sym (map-append (λ (p : State). p.label) (on_only n after) (carry run)))
        ∙ ap (λ (p : List State). reduce (pre q.label ++ word_of (p ++ carry run))) (sym kept)
        ∙ ap (λ (p : State). reduce (pre p.label ++ word_of (carry (q ∷ run)))) (sym (past-off here w n q off))
        ∙ ap (λ (u : List ℤ). reduce (u ++ (pre (past here w n q).label ++ word_of (carry (q ∷ run)))))
        (sym (crossed-off n q off));
  }
    where
      next : State
      next = strand_step here w q

      after : State
      after = strand_step there v q

      agree : Passes here there w v n pre q (inverse q.label)
      agree = h.passes q off s

      stays : past here w n q ≡ q
      stays = past-off here w n q off

      kept : carried_state there v n q ≡ q ∷ on_only n (strand_step there v q)
      kept = carried_state-off there v n q off

      rest : Runs there v (strand_step there v q) (on_only n (strand_step there v q) ++ carry run) (past here w n r)
      rest =
          runs_on_only there v n after (past here w n r) (carry run)
          (subst (λ (p : State). Runs there v p (carry run) (past here w n r)) agree.same c.runs)

  -- a run is carried to a run
  pub carries : (q r : State) (run : List State) → IsStrand here w q → Runs here w q run r → Carries q run r
  carries q r [] s is = carries_none q r is
  carries q r (p ∷ run) s (at, rest) =
      let next : Carries (strand_step here w q) run r = carries (strand_step here w q) r run (h.valid_here q s) rest in
      subst (λ (x : State). Carries q (x ∷ run) r) (sym at)
      (elim (cases_Bool (is_on n q)) [
        | inl on ↦ carries_on q r run s on next
        | inr off ↦ carries_off q r run s off next
      ])
