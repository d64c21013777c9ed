-- The equation at an edge, read off two words that were put together and reduced.
use Rattle.std.proofs.Common.{ℕ, ℤ, Bool, List, [], ◌∷◌, ◌++◌, ◌≡◌, ◌<◌, ◌↔◌, IsTrue, Decides, refl, sym, ◌∙◌, ap, subst}
use Rattle.std.proofs.Common.{length}
use Rattle.std.specs.List.{flat_map}
use Rattle.std.proofs.lemmas.List.{append-nil}
use Rattle.ideal_tri.specs.Labels.{inverse}
use Rattle.ideal_tri.specs.Triangulations.{IsLabel, IsWalk, triangle_of}
use Rattle.ideal_tri.specs.WordLaws.{ReductionLaws}
use Rattle.ideal_tri.specs.Words.{reduce}
use Rattle.free_groupoid.specs.Walks.{IsWalkOn}

-- the step across an edge
pub one_step : (triples : List (List ℤ)) (x : ℤ) (letters : List ℤ) (start : ℕ) → letters ≡ x ∷ []
    → start ≡ triangle_of triples x → start < length triples → IsLabel triples x
    → IsWalkOn triples (record { start = start; letters = letters })
one_step triples x letters start same is_start inside label = record {
  start_in = inside;
  end = triangle_of triples (inverse x);
  leads = subst (λ (w : List ℤ). IsWalk triples start w (triangle_of triples (inverse x))) (sym same)
      (label, sym is_start, refl);
}

pub equation_test : ReductionLaws → (f : ℤ → List ℤ) (x : ℤ) (p q along across : List ℤ) (same : Bool)
    → along ≡ reduce (p ++ reduce (flat_map f (x ∷ []))) → across ≡ reduce (x ∷ q) → Decides same (across ≡ along)
    → IsTrue same ↔ (reduce (p ++ f x) ≡ reduce (x ∷ q))
equation_test laws f x p q along across same is_along is_across test =
    let image : reduce (reduce (flat_map f (x ∷ []))) ≡ reduce (f x) =
    laws.twice (flat_map f (x ∷ [])) ∙ ap reduce (append-nil (f x)) in
    let on : along ≡ reduce (p ++ f x) = is_along ∙ laws.right p (reduce (flat_map f (x ∷ []))) (f x) image in (
      λ equal. sym on ∙ sym (test.0 equal) ∙ is_across,
      λ equation. test.1 (is_across ∙ sym equation ∙ sym on),
    )
