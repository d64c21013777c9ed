use Rattle.std.proofs.Common.{◌≡◌, ◌<◌, ◌+◌, [], ℕ, ℤ, List, pos, get_or, set, length, refl, rules, ap, ◌∙◌, subst, sym}
use Rattle.std.proofs.Common.{take, to_z, of_z, w32}
use Rattle.std.proofs.lemmas.List.{take_all}
use Rattle.std.proofs.lemmas.List.Elements.{All-from_get_or}
use Rattle.ideal_tri.specs.declared.tri.TheConstants.{EDGES, NOWHERE}
use Rattle.ideal_tri.specs.Labels.{edge_of}
use Rattle.ideal_tri.specs.inside.Places.{key_of, IsPlaced}
use Rattle.ideal_tri.proofs.Counting.{below_255}
use Rattle.ideal_tri.proofs.Places.{none_placed, next_placed, small_read}
use Rattle.ideal_tri.proofs.tri.place_labels.Goals as goal

pub loop-k-init : goal.loop-k-init
loop-k-init c = none_placed _ refl

pub loop-k-preserved : goal.loop-k-preserved
loop-k-preserved c =
    let xs : List ℤ = c.as_flattened-labels.result.now in
    let x : ℤ = get_or xs c.loop-k.k (pos 0) in
    let same : to_z w32 (of_z w32 x) ≡ x = search rules in
    let n : c.new.result ≡ x = c.new.ensures ∙ same in
    let key : c.key-at.result ≡ key_of x = c.key-at.ensures.key ∙ ap key_of n in
    let small : edge_of x < EDGES =
    small_read c.args.triples.now xs c.loop-k.k c.as_flattened-labels.ensures.value c.requires.size c.requires.in_range
    c.loop-k-test.true in
    let free : get_or c.loop-k.place (key_of x) 0 ≡ NOWHERE =
    ap (λ (i : ℕ). get_or c.loop-k.place i 0) (sym key) ∙ c.if-place-at.false in
    let below : c.loop-k.k < NOWHERE =
    below_255 c.args.triples.now xs c.loop-k.k c.as_flattened-labels.ensures.value c.requires.size
    (All-from_get_or (λ (t : List ℤ). length t ≡ 3) c.args.triples.now [] c.told-triples) c.loop-k-test.true in
    subst (λ (i : ℕ). IsPlaced (take (c.loop-k.k + 1) xs) (set c.loop-k.place i c.loop-k.k)) (sym key)
    (next_placed xs c.loop-k.place c.loop-k.k c.loop-k-test.true below c.loop-k.invariant small free)

pub returns-clause-placed : goal.returns-clause-placed
returns-clause-placed c = record {
  size = c.requires.size;
  three_sides = All-from_get_or (λ (t : List ℤ). length t ≡ 3) c.args.triples.now [] c.told-triples;
  in_range = c.requires.in_range;
  placed =
      subst (λ (z : List ℤ). IsPlaced z c.loop-k.place)
      (take_all c.loop-k.k c.as_flattened-labels.result.now c.loop-k-test.false ∙ c.as_flattened-labels.ensures.value)
      c.loop-k.invariant;
}
