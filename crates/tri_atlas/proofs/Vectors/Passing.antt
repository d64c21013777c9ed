-- Flips and backward flips have the properties by which runs are carried.
--
-- For a flip these are the steps of strands, and what it puts before the letters of the sides. For the backward flip
-- the triangulations change their roles, and the inverse word is put before each letter: where the way back along u,
-- then v and z reduce to v', the word u, then v' and the way back along z reduce to v, which is one letter at most.
use Rattle.std.proofs.Common.{ℕ, ℤ, true, false, List, [], ◌∷◌, ◌++◌, ◌≡◌, ◌≢◌, ◌<◌, inl, inr, refl, sym, ◌∙◌, ap}
use Rattle.std.proofs.Common.{subst}
use Rattle.std.proofs.Common.{append_assoc, ne_eqb}
use Rattle.std.proofs.lemmas.Bool.{cases_Bool, eqb-true}
use Rattle.std.proofs.lemmas.List.{append-nil}
use Rattle.ideal_tri.specs.Labels.{inverse, edge_of}
use Rattle.ideal_tri.specs.Words.{inverse_word, reduce}
use Rattle.ideal_tri.specs.StrandLaws.{StrandLaws}
use Rattle.ideal_tri.specs.SurfaceLaws.{TriangleLaws}
use Rattle.ideal_tri.specs.Triangulations.{next, previous}
use Rattle.ideal_tri.specs.Vectors.{IsMulticurve}
use Rattle.ideal_tri.specs.Strands.{State, IsStrand, strand_step}
use Rattle.tri_atlas.specs.Maps.{step_before}
use Rattle.tri_atlas.proofs.LowerLaws.{LowerLaws}
use Rattle.tri_atlas.proofs.FlipImages.{step_before-b, step_before-d, step_before-other}
use Rattle.tri_atlas.proofs.Vectors.Turns.{one_edge, beside}
use Rattle.tri_atlas.proofs.Vectors.Quadrilaterals.{Quadrilateral, turned, before_e}
use Rattle.tri_atlas.proofs.Vectors.Exits.{is_on, not_on, past, crossed, crossed-on, crossed-off}
use Rattle.tri_atlas.proofs.Vectors.Rows.{Prefixes}
use Rattle.tri_atlas.proofs.Vectors.Pairs.{IsFlippedPair}
use Rattle.tri_atlas.proofs.Vectors.Passes.{passes, Passes}
use Rattle.tri_atlas.proofs.Vectors.Carried.{IsPassing}

-- ---- a flip

-- from the edge a strand goes to one of the four sides
step_off_e : LowerLaws → (triples : List (List ℤ)) (w : List ℕ) (e f a b c d : ℤ)
    → Quadrilateral triples e f a b c d → (q : State)
    → inverse q.label ≡ e → edge_of (strand_step triples w q).label ≢ edge_of e
step_off_e laws triples w e f a b c d s q at =
    beside laws triples w (λ x. edge_of x ≢ edge_of e) q
    (λ k. s.off_a (ap edge_of (sym (ap (next triples) at ∙ s.after_e)) ∙ k))
    (λ k. s.off_b (ap edge_of (sym (ap (previous triples) at ∙ before_e triples e f a b c d s)) ∙ k))

step_off : LowerLaws → (triples : List (List ℤ)) (w : List ℕ) (e f a b c d : ℤ)
    → Quadrilateral triples e f a b c d → (q : State)
    → is_on (edge_of e) q ≡ true → is_on (edge_of e) (strand_step triples w q) ≡ false
step_off laws triples w e f a b c d s q on =
    ne_eqb (edge_of (strand_step triples w q).label) (edge_of e)
    (elim (laws.labels.of_edge (inverse q.label) e
    (laws.labels.edge q.label ∙ eqb-true (edge_of q.label) (edge_of e) on)) [
      | inl k ↦ step_off_e laws triples w e f a b c d s q k
      | inr k ↦
          (λ same.
          step_off_e laws triples w f e c d a b (turned triples e f a b c d s) q (k ∙ sym s.f_is)
          (same ∙ sym (one_edge laws e f s.f_is)))
    ])

-- what a flip puts before the letters of the sides
flip_prefixes : LowerLaws → (triples : List (List ℤ)) (e f a b c d : ℤ) → TriangleLaws triples
    → Quadrilateral triples e f a b c d
    → Prefixes (step_before e b d) e f a b c d
flip_prefixes laws triples e f a b c d t s = record {
  at_a =
      step_before-other laws e b d a a_not_b
      (λ k. s.off_b (ap edge_of (sym s.after_a ∙ ap (next triples) k ∙ s.after_d) ∙ one_edge laws e f s.f_is));
  at_b = step_before-b laws e b d b refl;
  at_c =
      step_before-other laws e b d c
      (λ k. s.off_d (ap edge_of (sym s.after_c ∙ ap (next triples) k ∙ s.after_b) ∙ sym (one_edge laws e f s.f_is)))
      c_not_d;
  at_d = step_before-d laws e b d d d_not_b refl ∙ ap (λ (x : ℤ). x ∷ []) (sym s.f_is);
}
  where
    a_not_b : a ≢ b
    a_not_b k = (t.moves a s.label_a).0 (s.after_a ∙ sym k)

    c_not_d : c ≢ d
    c_not_d k = (t.moves c s.label_c).0 (s.after_c ∙ sym k)

    d_not_b : d ≢ b
    d_not_b k = laws.labels.apart e (sym s.after_b ∙ sym (ap (next triples) k) ∙ s.after_d ∙ s.f_is)

pub flip_passing : LowerLaws → (here there : List (List ℤ)) (w v : List ℕ) (e f a b c d : ℤ) → StrandLaws here
    → StrandLaws there
    → IsMulticurve here w → IsMulticurve there v → IsFlippedPair here there w v e f a b c d
    → IsPassing here there w v (edge_of e) (step_before e b d)
flip_passing laws here there w v e f a b c d steps steps' m k h = record {
  valid_here = λ q s. steps.stays w q m s;
  valid_there = λ q s. steps'.stays v q k s;
  off_here = λ q s on. step_off laws here w e f a b c d h.sides_here q on;
  off_there = λ q s on. step_off laws there v e f d a b c h.sides_there q on;
  to_there = λ q off s. record {
    is_label = subst (λ (n : ℕ). edge_of q.label < n) (sym h.edges) s.is_label;
    within = subst (λ (n : ℕ). q.place < n) (sym (h.numbers q.label (not_on (edge_of e) q off))) s.within;
  };
  to_here = λ q off s. record {
    is_label = subst (λ (n : ℕ). edge_of q.label < n) h.edges s.is_label;
    within = subst (λ (n : ℕ). q.place < n) (h.numbers q.label (not_on (edge_of e) q off)) s.within;
  };
  numbers = h.numbers;
  passes = λ q off s.
      passes laws here there w v e f a b c d h (step_before e b d)
      (flip_prefixes laws here e f a b c d h.triangles h.sides_here)
      (step_before-other laws e b d) q s (not_on (edge_of e) q off);
  plain = λ x on.
      step_before-other laws e b d x (λ k. h.sides_here.off_b (ap edge_of (sym k) ∙ on))
      (λ k. h.sides_here.off_d (ap edge_of (sym k) ∙ on ∙ sym (one_edge laws e f h.sides_here.f_is)));
}

-- ---- backwards

module _ (laws : LowerLaws) (here there : List (List ℤ)) (w v : List ℕ) (n : ℕ) (pre back : ℤ → List ℤ)
    (h : IsPassing here there w v n pre)
    (back_is : (x : ℤ) → back x ≡ inverse_word (pre x)) where
  -- at most one letter is crossed, so there is nothing to reduce
  crossed-reduced : (q : State) → reduce (crossed n q) ≡ crossed n q
  crossed-reduced q =
      elim (cases_Bool (is_on n q)) [
        | inl e ↦ ap reduce (crossed-on n q e) ∙ sym (crossed-on n q e)
        | inr e ↦ ap reduce (crossed-off n q e) ∙ sym (crossed-off n q e)
      ]

  -- P, u and the way back along z are v, where the way back along P, v and z reduce to u
  solve : (P u v z : List ℤ) → reduce (inverse_word P ++ (v ++ z)) ≡ u → reduce (P ++ (u ++ inverse_word z)) ≡ reduce v
  solve P u v z is =
      laws.words.reduction.right P (u ++ inverse_word z) ((inverse_word P ++ (v ++ z)) ++ inverse_word z)
      (laws.words.reduction.left u (inverse_word P ++ (v ++ z)) (inverse_word z)
      (ap reduce (sym is) ∙ laws.words.reduction.twice (inverse_word P ++ (v ++ z))))
      ∙ ap (λ (r : List ℤ). reduce (P ++ r)) (append_assoc (inverse_word P) (v ++ z) (inverse_word z))
      ∙ laws.words.reduction.cancel [] P ((v ++ z) ++ inverse_word z)
      ∙ ap reduce (append_assoc v z (inverse_word z))
      ∙ ap (λ (r : List ℤ). reduce (v ++ (z ++ r))) (sym (append-nil (inverse_word z)))
      ∙ laws.words.reduction.cancel v z []
      ∙ ap reduce (append-nil v)

  passes_back : (q : State) → is_on n q ≡ false → IsStrand there v q → Passes there here v w n back q (inverse q.label)
  passes_back q off s = record {
    same = sym agree.same;
    word =
        ap (λ (r : List ℤ). reduce (r ++ (others ++ back Y.label)))
        (ap inverse_word (back_is x) ∙ laws.words.inverses.twice (pre x))
        ∙ ap (λ (r : List ℤ). reduce (pre x ++ (others ++ r)))
        (back_is Y.label ∙ ap (λ (t : State). inverse_word (pre t.label)) (sym agree.same))
        ∙ solve (pre x) others letters (pre X.label) agree.word
        ∙ crossed-reduced (strand_step here w q);
  }
    where
      x : ℤ
      x = inverse q.label

      X : State
      X = past here w n (strand_step here w q)

      Y : State
      Y = past there v n (strand_step there v q)

      letters : List ℤ
      letters = crossed n (strand_step here w q)

      others : List ℤ
      others = crossed n (strand_step there v q)

      agree : Passes here there w v n pre q (inverse q.label)
      agree = h.passes q off (h.to_here q off s)

  pub passing_back : IsPassing there here v w n back
  passing_back = record {
    valid_here = h.valid_there;
    valid_there = h.valid_here;
    off_here = h.off_there;
    off_there = h.off_here;
    to_there = h.to_here;
    to_here = h.to_there;
    numbers = λ x off. sym (h.numbers x off);
    passes = passes_back;
    plain = λ x on. back_is x ∙ ap inverse_word (h.plain x on);
  }
