-- The curve of a strand, as it is traced.
--
-- The states so far run from the strand to the one that stands next, and the strand does not come back among them.
-- Where the next one is the strand itself they are its curve; otherwise there are fewer of them than on the curve.
use Rattle.std.proofs.Common.{ℕ, ℤ, Bool, true, false, not, List, [], ◌∷◌, ◌++◌, ◌≡◌, ◌≢◌, ◌<◌, refl, sym, ◌∙◌, ap}
use Rattle.std.proofs.Common.{subst, arith, length}
use Rattle.std.proofs.Common.{append_assoc}
use Rattle.std.specs.List.{All}
use Rattle.std.proofs.lemmas.List.{map-append, length-map}
use Rattle.std.proofs.lemmas.List.Elements.{All-nil, All-cons, All-append}
use Rattle.ideal_tri.specs.Vectors.{IsMulticurve}
use Rattle.ideal_tri.specs.Strands.{State, IsStrand, same_state, strand_step, Runs, word_of}
use Rattle.ideal_tri.specs.StrandLaws.{StrandLaws}
use Rattle.ideal_tri.specs.Drawings.{curve_from}
use Rattle.strand_draw.specs.inside.Marks.{AreMarked}
use Rattle.strand_draw.specs.declared.marks.Marks.{Marks}
use Rattle.strand_draw.proofs.Numbers.{equal_states, test_states}

pub told_other : (p q : State) (b : Bool) → b ≡ not (same_state p q) → b ≡ true → p ≢ q
told_other p q b is t e = let same : same_state p q ≡ true = test_states p q e in grind arith

pub told_same : (p q : State) (b : Bool) → b ≡ not (same_state p q) → b ≡ false → p ≡ q
told_same p q b is f = equal_states p q (not-false (same_state p q) (sym is ∙ f))
  where
    not-false : (t : Bool) → not t ≡ false → t ≡ true
    not-false true e = refl
    not-false false e = cc

-- from q on, q and the states of run were passed, and `at` stands next
pub record IsTraced (triples : List (List ℤ)) (w : List ℕ) (q at : State) (letters : List ℤ) (before m : Marks)
    : Type 0 where
  pub run : List State
  pub runs : Runs triples w q (q ∷ run) at
  pub onward : All (λ p. p ≢ q) run
  pub word : letters ≡ word_of (q ∷ run)
  pub marked : (seen : List State) → AreMarked w before seen → AreMarked w m (seen ++ (q ∷ run))

module _ (triples : List (List ℤ)) (w : List ℕ) where
  runs_more : (p r : State) (run : List State) → Runs triples w p run r
      → Runs triples w p (run ++ (r ∷ [])) (strand_step triples w r)
  runs_more p r [] e = (sym e, ap (strand_step triples w) e)
  runs_more p r (x ∷ run) (e, h) = (e, runs_more (strand_step triples w p) r run h)

  pub traced_more : (q at next : State) (letters : List ℤ) (before m after : Marks)
      → IsTraced triples w q at letters before m → at ≢ q → next ≡ strand_step triples w at
      → ((run : List State) → AreMarked w m run → AreMarked w after (run ++ (at ∷ [])))
      → IsTraced triples w q next (letters ++ (at.label ∷ [])) before after
  traced_more q at next letters before m after t ne e marked = record {
    run = t.run ++ (at ∷ []);
    runs =
        subst (Runs triples w q (q ∷ (t.run ++ (at ∷ [])))) (sym e) (runs_more q at (q ∷ t.run) t.runs);
    onward = All-append (λ p. p ≢ q) t.run (at ∷ []) t.onward (All-cons (λ p. p ≢ q) at [] ne (All-nil (λ p. p ≢ q)));
    word =
        ap (λ (z : List ℤ). z ++ (at.label ∷ [])) t.word
        ∙ sym (map-append (λ (p : State). p.label) (q ∷ t.run) (at ∷ []));
    marked = λ seen h.
        subst (AreMarked w after) (append_assoc seen (q ∷ t.run) (at ∷ []))
        (marked (seen ++ (q ∷ t.run)) (t.marked seen h));
  }

  module _ (laws : StrandLaws triples) (good : IsMulticurve triples w) (q at : State) (v : IsStrand triples w q)
      (letters : List ℤ) (before m : Marks) (t : IsTraced triples w q at letters before m) where
    back : at ≡ q → q ∷ t.run ≡ curve_from triples w q
    back e = laws.traced w q t.run good v (subst (Runs triples w q (q ∷ t.run)) e t.runs) t.onward

    pub traced_word : at ≡ q → letters ≡ word_of (curve_from triples w q)
    traced_word e = t.word ∙ ap word_of (back e)

    pub traced_marks : at ≡ q → (seen : List State) → AreMarked w before seen
        → AreMarked w m (seen ++ curve_from triples w q)
    traced_marks e seen h =
        subst (λ (z : List State). AreMarked w m (seen ++ z)) (back e) (t.marked seen h)

    pub traced_shorter : at ≢ q → length letters < length (curve_from triples w q)
    traced_shorter ne =
        omega (
          arith,
          laws.shorter w q at t.run good v t.runs t.onward ne,
          ap length t.word,
          length-map {A = State} {B = ℤ} (q ∷ t.run) (λ p. p.label),
        )
