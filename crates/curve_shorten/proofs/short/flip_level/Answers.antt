use Rattle.std.proofs.Common.{ℕ, ℤ, List, refl, ◌∙◌, ap}
use Rattle.tri_atlas.specs.Arena.{triangulation}
use Rattle.curve_shorten.specs.Descents.{IsLevel, IsFirstLevel}
use Rattle.curve_shorten.specs.inside.States.{IsAfterBest, IsAfterLevel}
use Rattle.curve_shorten.proofs.RoundSteps.{after_level}
use Rattle.curve_shorten.proofs.Ways.{moved_to, ok_map}
use Rattle.curve_shorten.proofs.short.flip_level.Goals as goal

pub returns-in_ok-flip_edge-in-Some-clause-flipped : goal.returns-in_ok-flip_edge-in-Some-clause-flipped
returns-in_ok-flip_edge-in-Some-clause-flipped c =
    ok_map c.flip_best.result
    (IsAfterBest c.flip_edge.new.atlas c.flip_edge.new.at c.flip_best.new.atlas c.flip_best.new.at)
    (IsAfterLevel c.args.atlas.now c.args.at.now c.flip_best.new.atlas c.flip_best.new.at)
    (λ b. after_level c.args.atlas.now c.flip_edge.new.atlas c.flip_best.new.atlas c.args.at.now c.flip_edge.new.at
    c.flip_best.new.at c.in-Some.e b c.requires.above
    (moved_to (λ (ts : List (List ℤ)) (w : List ℕ). IsFirstLevel ts w c.in-Some.e) _ _ _ _
    (c.tri-2.ensures.value ∙ ap (triangulation c.args.atlas.now) c.tri.ensures)
    c.values.ensures.value c.in-Some.ensures.some)
    c.in_ok-flip_edge-in-Some.ensures.flipped)
    c.flip_best.ensures.flipped

pub returns-in_ok-flip_edge-in-Some-clause-grows : goal.returns-in_ok-flip_edge-in-Some-clause-grows
returns-in_ok-flip_edge-in-Some-clause-grows c =
    c.atlas_laws.ensures.growth.further c.args.atlas.now c.flip_edge.new.atlas c.flip_best.new.atlas
    c.flip_edge.ensures.grows c.flip_best.ensures.grows

pub returns-in-None-clause-flipped : goal.returns-in-None-clause-flipped
returns-in-None-clause-flipped c = (
  moved_to (λ (ts : List (List ℤ)) (w : List ℕ). (e : ℕ) → ¬ IsLevel ts w e) _ _ _ _
      (c.tri-2.ensures.value ∙ ap (triangulation c.args.atlas.now) c.tri.ensures)
      c.values.ensures.value c.in-None.ensures.none,
  record { arena = refl; state = refl },
)
