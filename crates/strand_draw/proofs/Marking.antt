-- One mark more: the marks of a run that is longer by one state.
--
-- A strand has the new mark where it has the same number, and then the longer run passes it. Every other strand is
-- marked as before, and the new state does not pass it.
use Rattle.std.proofs.Common.{ℕ, Bool, true, false, List, [], ◌∷◌, ◌++◌, ◌≡◌, ◌≢◌, ◌<◌, ◌↔◌, inl, inr, sym, ◌∙◌}
use Rattle.std.proofs.Common.{arith, length, get_or, get_or-set_other}
use Rattle.std.proofs.Math.ListN.{set}
use Rattle.std.specs.List.{sum}
use Rattle.std.proofs.lemmas.Bool.{cases_eq}
use Rattle.std.proofs.lemmas.Grind.{get_or-set_at}
use Rattle.ideal_tri.specs.Strands.{State, uses}
use Rattle.ideal_tri.specs.Drawings.{strand_number}
use Rattle.strand_draw.specs.inside.Marks.{HasStrand}
use Rattle.strand_draw.proofs.Numbers.{number_within, uses-more, passed_at_number, unpassed_elsewhere}

abbrev pub Passed : List ℕ → List Bool → List State → Type 0
Passed w drawn run =
    (q : State) → HasStrand w q → (get_or drawn (strand_number w q) false ≡ false) ↔ (uses w q run ≡ 0)

pub passed_more : (w : List ℕ) (drawn : List Bool) (run : List State) (p : State) → length drawn ≡ sum w
    → HasStrand w p → Passed w drawn run → Passed w (set drawn (strand_number w p) true) (run ++ (p ∷ []))
passed_more w drawn run p room h passed q k =
    elim (cases_eq (strand_number w p) (strand_number w q)) [
      | inl e ↦
          let inside : strand_number w p < length drawn = omega (arith, number_within w p h) in
          let marked : get_or (set drawn (strand_number w p) true) (strand_number w q) false ≡ true =
          get_or-set_at drawn (strand_number w p) (strand_number w q) true false (sym e) inside in (
            λ free. cc,
            λ none. absurd (passed_at_number w p q h k e (omega (arith, uses-more w q run (p ∷ []), none))),
          )
      | inr ne ↦
          let other : strand_number w q ≢ strand_number w p = λ e. ne (sym e) in
          let kept : get_or (set drawn (strand_number w p) true) (strand_number w q) false
          ≡ get_or drawn (strand_number w q) false =
          get_or-set_other drawn (strand_number w p) (strand_number w q) true false other in (
            λ free. omega (
              arith,
              uses-more w q run (p ∷ []),
              (passed q k).0 (sym kept ∙ free),
              unpassed_elsewhere w p q k ne,
            ),
            λ none. kept ∙ (passed q k).1 (omega (arith, uses-more w q run (p ∷ []), none)),
          )
    ]
