use Rattle.std.proofs.Common.{ℤ, List, ◌≡◌, ◌∙◌, ap, subst, length}
use Rattle.ideal_tri.specs.Triangulations.{edge_count}
use Rattle.tri_atlas.specs.Arena.{triangulation}
use Rattle.tri_atlas.specs.Moves.{Move}
use Rattle.tri_atlas.specs.Paths.{moves_of}
use Rattle.free_groupoid.specs.GroupoidMaps.{substitution, vertex_image}
use Rattle.cert_text.specs.Certificates.{walks_of}
use Rattle.cert_checker.specs.FirstFailing.{IsFirstFailing, AllPass}
use Rattle.cert_checker.specs.PeriodicRules.{IsPeriodicRefusal, IsCounted, IsReason, IsPathFrom, IsEquation}
use Rattle.cert_checker.specs.inside.PeriodicParts.{IsFirstFailingFromOne}
use Rattle.cert_checker.specs.inside.Stops.{IsStop, IsRule}
use Rattle.cert_checker.proofs.CheckStops.{handed_on, fails_as, holds_as}
use Rattle.cert_checker.proofs.PeriodicRuleParts.{at_reason, at_cap, at_path, at_equation, at_kept, all_hold}
use Rattle.cert_checker.proofs.periodic.check_periodic.Goals as goal
use Rattle.cert_checker.proofs.periodic.check_periodic.Goals.{After-check_counts, After-check_reasons, After-power}
use Rattle.cert_checker.proofs.periodic.check_periodic.Goals.{After-check_equations, After-check_moved}

-- ---- what the first rules leave to the later ones

is_base : (c : After-check_counts) → c.tri-tri.result.now ≡ triangulation c.args.atlas.now 0
is_base c = c.tri-tri.ensures.value ∙ ap (triangulation c.args.atlas.now) c.base.ensures.number

counted : (c : After-check_reasons)
    → IsCounted (triangulation c.args.atlas.now 0) c.args.order (walks_of c.args.paths.now) (walks_of c.args.reasons.now)
counted c =
    subst (λ (ts : List (List ℤ)). IsCounted ts c.args.order (walks_of c.args.paths.now) (walks_of c.args.reasons.now))
    (is_base (goal.at.After-check_reasons c).After-check_counts) c.in_ok-check_counts.ensures.held

loops : (c : After-power)
    → AllPass (length (walks_of c.args.reasons.now))
    (IsReason (triangulation c.args.atlas.now 0) (walks_of c.args.reasons.now))
loops c =
    subst (λ (ts : List (List ℤ)). AllPass (length (walks_of c.args.reasons.now))
    (IsReason ts (walks_of c.args.reasons.now)))
    (is_base (goal.at.After-power c).After-check_counts) c.in_ok-check_reasons.ensures.held

walks : (c : After-check_equations)
    → AllPass (length (triangulation c.args.atlas.now 0))
    (IsPathFrom (triangulation c.args.atlas.now 0) (vertex_image c.in_ok-map.map) (walks_of c.args.paths.now))
walks c =
    subst (λ (ts : List (List ℤ)). AllPass (length ts)
    (IsPathFrom ts (vertex_image c.in_ok-map.map) (walks_of c.args.paths.now)))
    (is_base (goal.at.After-check_equations c).After-check_counts) c.in_ok-check_paths.ensures.held

equations : (c : After-check_moved)
    → AllPass (edge_count (triangulation c.args.atlas.now 0))
    (IsEquation (triangulation c.args.atlas.now 0) (substitution c.in_ok-map.map.images) (walks_of c.args.paths.now))
equations c =
    subst (λ (ts : List (List ℤ)). AllPass (edge_count ts)
    (IsEquation ts (substitution c.in_ok-map.map.images) (walks_of c.args.paths.now)))
    (is_base (goal.at.After-check_moved c).After-check_counts) c.in_ok-check_equations.ensures.held

-- ---- the rules

pub returns-in_err-check_counts-clause-refused : goal.returns-in_err-check_counts-clause-refused
returns-in_err-check_counts-clause-refused c =
    let moves : List Move = moves_of c.args.atlas.now c.args.word.now in
    handed_on _ c.from_residual.result c.in_err-check_counts.field-0.0 c.from_residual.ensures.1
    (subst (λ (ts : List (List ℤ)). IsStop (IsPeriodicRefusal ts moves c.args.order (walks_of c.args.paths.now)
    (walks_of c.args.reasons.now)) c.in_err-check_counts.field-0.0)
    (is_base (goal.at.returns-in_err-check_counts-clause-refused c).After-check_counts)
    (c.in_err-check_counts.ensures.refused moves))

pub returns-in_err-check_reasons-clause-refused : goal.returns-in_err-check_reasons-clause-refused
returns-in_err-check_reasons-clause-refused c =
    let at = goal.at.returns-in_err-check_reasons-clause-refused c in
    let stop = c.in_err-check_reasons.field-0.0 in
    let reasons : List (List ℤ) = walks_of c.args.reasons.now in
    handed_on _ c.from_residual-in_err-check_reasons.result stop c.from_residual-in_err-check_reasons.ensures.1
    (at_reason c.args.atlas.now (moves_of c.args.atlas.now c.args.word.now) c.args.order (walks_of c.args.paths.now)
    reasons (counted at.After-check_reasons) stop
    (subst (λ (ts : List (List ℤ)). IsStop (IsRule 4 (IsFirstFailingFromOne (length reasons) (IsReason ts reasons))) stop)
    (is_base at.After-check_counts) c.in_err-check_reasons.ensures.refused))

pub returns-in_err-map-clause-refused : goal.returns-in_err-map-clause-refused
returns-in_err-map-clause-refused c =
    let at = goal.at.returns-in_err-map-clause-refused c in
    let stop = c.in_err-map.field-0.0 in
    handed_on _ c.from_residual-in_err-map.result stop c.from_residual-in_err-map.ensures.1
    (at_cap c.args.atlas.now (moves_of c.args.atlas.now c.args.word.now) c.args.order (walks_of c.args.paths.now)
    (walks_of c.args.reasons.now) (counted at.After-check_reasons) (loops at.After-power) stop
    c.in_err-map.ensures.refused)

pub returns-in_err-check_paths-clause-refused : goal.returns-in_err-check_paths-clause-refused
returns-in_err-check_paths-clause-refused c =
    let at = goal.at.returns-in_err-check_paths-clause-refused c in
    let stop = c.in_err-check_paths.field-0.0 in
    let paths : List (List ℤ) = walks_of c.args.paths.now in
    let f = c.in_ok-map.map in
    handed_on _ c.from_residual-in_err-check_paths.result stop c.from_residual-in_err-check_paths.ensures.1
    (at_path c.args.atlas.now (moves_of c.args.atlas.now c.args.word.now) c.args.order paths
    (walks_of c.args.reasons.now) (counted at.After-check_reasons) (loops at.After-power) c.map_laws.ensures f
    c.in_ok-map.ensures.held stop
    (subst (λ (ts : List (List ℤ)). IsStop (IsRule 6 (IsFirstFailing (length ts)
    (IsPathFrom ts (vertex_image f) paths))) stop)
    (is_base at.After-check_counts) c.in_err-check_paths.ensures.refused))

pub returns-in_err-check_equations-clause-refused : goal.returns-in_err-check_equations-clause-refused
returns-in_err-check_equations-clause-refused c =
    let at = goal.at.returns-in_err-check_equations-clause-refused c in
    let stop = c.in_err-check_equations.field-0.0 in
    let paths : List (List ℤ) = walks_of c.args.paths.now in
    let f = c.in_ok-map.map in
    handed_on _ c.from_residual-in_err-check_equations.result stop c.from_residual-in_err-check_equations.ensures.1
    (at_equation c.args.atlas.now (moves_of c.args.atlas.now c.args.word.now) c.args.order paths
    (walks_of c.args.reasons.now) (counted at.After-check_reasons) (loops at.After-power) c.map_laws.ensures f
    c.in_ok-map.ensures.held (walks at.After-check_equations) stop
    (subst (λ (ts : List (List ℤ)). IsStop (IsRule 7 (IsFirstFailing (edge_count ts)
    (IsEquation ts (substitution f.images) paths))) stop)
    (is_base at.After-check_counts) c.in_err-check_equations.ensures.refused))

pub returns-clause-held : goal.returns-clause-held
returns-clause-held c =
    let at = goal.at.returns-clause-held c in
    holds_as _ _ c.check_moved.result
    (all_hold c.args.atlas.now (moves_of c.args.atlas.now c.args.word.now) c.args.order (walks_of c.args.paths.now)
    (walks_of c.args.reasons.now) (counted at.After-check_reasons) (loops at.After-power) c.map_laws.ensures
    c.in_ok-map.map c.in_ok-map.ensures.held (walks at.After-check_equations) c.word_laws.ensures.reduction
    (equations at.After-check_moved))
    c.check_moved.ensures.held

pub returns-clause-refused : goal.returns-clause-refused
returns-clause-refused c =
    let at = goal.at.returns-clause-refused c in
    fails_as _ _ c.check_moved.result
    (at_kept c.args.atlas.now (moves_of c.args.atlas.now c.args.word.now) c.args.order (walks_of c.args.paths.now)
    (walks_of c.args.reasons.now) (counted at.After-check_reasons) (loops at.After-power) c.map_laws.ensures
    c.in_ok-map.map c.in_ok-map.ensures.held (walks at.After-check_equations) c.word_laws.ensures.reduction
    (equations at.After-check_moved))
    c.check_moved.ensures.refused
