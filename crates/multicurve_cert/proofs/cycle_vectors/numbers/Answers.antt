use Rattle.std.proofs.Common.{◌≡◌, ◌<◌, ◌≤◌, ◌++◌, ◌+◌, ℕ, List, [], ◌∷◌, sym, ◌∙◌, ap, arith, length, map, set}
use Rattle.std.proofs.Common.{take, rules}
use Rattle.std.specs.List.{range_with_len}
use Rattle.std.proofs.lemmas.List.{length-set, take_more_set}
use Rattle.std.proofs.lemmas.List.FromFn.{map-range_with_len_more}
use Rattle.ideal_tri.specs.Curves.{crossings}
use Rattle.ideal_tri.specs.Triangulations.{edge_count}
use Rattle.ideal_tri.specs.declared.tri.TheConstants.{EDGES}
use Rattle.multicurve_cert.proofs.cycle_vectors.numbers.Goals as goal

-- one more number
one_more : (f : ℕ → ℕ) (xs : List ℕ) (i v : ℕ) → i < length xs → v ≡ f i → take i xs ≡ map f (range_with_len 0 i)
    → take (i + 1) (set xs i v) ≡ map f (range_with_len 0 (i + 1))
one_more f xs i v inside is so_far =
    take_more_set xs i v inside
    ∙ ap (λ (ys : List ℕ). ys ++ (v ∷ [])) so_far
    ∙ ap (λ (n : ℕ). map f (range_with_len 0 i) ++ (n ∷ [])) is
    ∙ sym (map-range_with_len_more f 0 i i (omega arith))

pub loop-e-preserved : goal.loop-e-preserved
loop-e-preserved c =
    let few : edge_count c.args.tri.now ≤ EDGES = search rules in
    let inside : c.loop-e.e < length c.loop-e.numbers =
    omega (arith, c.loop-e.invariant.room, c.loop-e-test.true, c.edges-e-end.ensures.count, few) in
    record {
      room = length-set c.loop-e.numbers c.loop-e.e c.crossings.result ∙ c.loop-e.invariant.room;
      so_far = one_more (λ e. crossings e (c.args.letters.now ∷ [])) c.loop-e.numbers c.loop-e.e c.crossings.result
          inside c.crossings.ensures c.loop-e.invariant.so_far;
    }

pub returns-clause-value : goal.returns-clause-value
returns-clause-value c =
    let all : c.loop-e.e ≡ edge_count c.args.tri.now = search rules in
    ap (λ (n : ℕ). take n c.loop-e.numbers) (sym all)
    ∙ c.loop-e.invariant.so_far
    ∙ ap (λ (n : ℕ). map (λ e. crossings e (c.args.letters.now ∷ [])) (range_with_len 0 n)) all
