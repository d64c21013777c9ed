use Rattle.std.proofs.Common.{◌<◌, ◌∙◌, ◌%◌, ◌+◌, ℕ, List, length, sym, subst}
use Rattle.std.proofs.lemmas.Result.{IfOk-at_ok, IfErr-at_err}
use Rattle.tri_atlas.specs.Arena.{Arena, triangulation}
use Rattle.tri_atlas.specs.Moves.{Move}
use Rattle.tri_atlas.specs.Paths.{moves_of}
use Rattle.multicurve_cert.specs.Candidates.{IsLineOf}
use Rattle.multicurve_cert.specs.inside.Among.{AreImagesFrom, kind_at}
use Rattle.multicurve_cert.specs.inside.Images.{coords_at}
use Rattle.multicurve_cert.specs.inside.Tested.{IsPassing}
use Rattle.multicurve_cert.proofs.Trying.{kept_at, kept_on, place_kept, failing_more, found_first}
use Rattle.multicurve_cert.proofs.curve_search.search_among.Goals as goal

pub returns-in-Ok-clause-answer : goal.returns-in-Ok-clause-answer
returns-in-Ok-clause-answer c =
    let arena : Arena = c.args.atlas.now in
    let moves : List Move = moves_of arena c.args.word.now in
    let place : ℕ = c.loop-n.n % length c.args.vectors.now in
    let inside : place < length c.keep.new.kept.items =
    subst (λ (m : ℕ). place < m) (sym c.in_ok-keep.ensures.counted)
    (place_kept c.loop-n.n (length c.args.vectors.now) c.requires.some) in
    let here : AreImagesFrom arena moves (coords_at c.args.vectors.now place).numbers c.index_mut.result.now =
    kept_at arena moves c.args.vectors.now (c.loop-n.n + 1) c.keep.new.kept.items c.in_ok-keep.ensures place
    c.index_mut.result.now inside c.index_mut.ensures.value in
    let passing : IsPassing arena moves (coords_at c.args.vectors.now place).numbers
    (kind_at c.args.vectors.now c.loop-n.n) c.in-Ok.coords =
    subst (λ (w : List ℕ). IsPassing arena moves w (kind_at c.args.vectors.now c.loop-n.n) c.in-Ok.coords) here.first
    (IfOk-at_ok _ c.in-Ok.is c.in_ok-coords.ensures.passing) in
    found_first (triangulation arena 0) moves c.args.vectors.now c.loop-n.n c.loop-n.log.items
    c.loop-n.invariant.failing c.args.budget c.in-Ok.coords.numbers
    (subst (λ (m : ℕ). c.loop-n.n < m) c.candidate_count-count.ensures c.loop-n-test.true) passing.passes
    passing.numbers

pub loop-n-preserved : goal.loop-n-preserved
loop-n-preserved c =
    let arena : Arena = c.args.atlas.now in
    let moves : List Move = moves_of arena c.args.word.now in
    let place : ℕ = c.loop-n.n % length c.args.vectors.now in
    let inside : place < length c.keep.new.kept.items =
    subst (λ (m : ℕ). place < m) (sym c.in_ok-keep.ensures.counted)
    (place_kept c.loop-n.n (length c.args.vectors.now) c.requires.some) in
    let here : AreImagesFrom arena moves (coords_at c.args.vectors.now place).numbers c.index_mut.result.now =
    kept_at arena moves c.args.vectors.now (c.loop-n.n + 1) c.keep.new.kept.items c.in_ok-keep.ensures place
    c.index_mut.result.now inside c.index_mut.ensures.value in
    record {
      kept = kept_on arena moves c.args.vectors.now (c.loop-n.n + 1) c.keep.new.kept.items c.in_ok-keep.ensures place
          c.candidate.new.images inside (record {
            in_order = c.in_ok-coords.ensures.images;
            first = c.in_ok-coords.ensures.first ∙ here.first;
          });
      failing = failing_more (triangulation arena 0) moves c.args.vectors.now c.loop-n.n c.loop-n.log.items
          c.loop-n.invariant.failing c.in-Err.line _
          (subst (λ (w : List ℕ). IsLineOf (triangulation arena 0) moves w (kind_at c.args.vectors.now c.loop-n.n)
          c.in-Err.line) here.first (IfErr-at_err _ c.in-Err.is c.in_ok-coords.ensures.line))
          c.in_ok-push-in-Err.ensures.items;
    }
