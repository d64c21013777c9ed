use Rattle.std.proofs.Common.{◌≡◌, sym, subst, ℕ, ℤ, pos, ◌≤◌, le_trans, get_or, to_z, of_z, w32, rules, Ok, Err}
use Rattle.tri_atlas.specs.Arena.{IsTriIn, triangulation, step_of, target_of}
use Rattle.surface_lib.specs.FlipsForms.{flips_most, flip_at}
use Rattle.ideal_tri.specs.Flips.{flipped}
use Rattle.surface_lib.specs.inside.Faults.{IsFault}
use Rattle.surface_lib.proofs.Flips.{none_flipped, one_more_flip, all_flipped, stuck_flip, passed_on}
use Rattle.surface_lib.proofs.flips_form.flips_in.Goals as goal

pub loop-index-init : goal.loop-index-init
loop-index-init c =
    none_flipped c.args.atlas.now c.args.edges.now c.new-path.result c.base.result c.new-path.ensures
    c.base.ensures.number c.base.ensures.here (c.atlas_laws.ensures.growth.none c.args.atlas.now)

pub flip_at-requires : goal.flip_at-requires
flip_at-requires c = subst (IsTriIn c.loop-index.atlas) (sym c.end.ensures) c.loop-index.invariant.within.end_in

pub returns-in_err-m-clause-grows : goal.returns-in_err-m-clause-grows
returns-in_err-m-clause-grows c =
    c.atlas_laws.ensures.growth.further _ _ _ c.loop-index.invariant.grows c.flip_at.ensures.grows

pub returns-in_err-m-clause-refused : goal.returns-in_err-m-clause-refused
returns-in_err-m-clause-refused c =
    let e : ℤ = get_or c.args.edges.now c.loop-index.index (pos 0) in
    let same : to_z w32 (of_z w32 e) ≡ e = search rules in
    passed_on _ _ c.in_err-m.field-0.0 c.from_residual.ensures.1
    (stuck_flip c.args.atlas.now c.loop-index.atlas c.args.edges.now c.loop-index.path c.loop-index.index c.end.result
    c.in_err-m.field-0.0 c.loop-index.invariant c.if-edges-gt-FLIPS_MOST.false c.loop-index-test.true c.end.ensures
    (subst (λ (z : ℤ). IsFault (λ fault.
    flip_at (triangulation c.loop-index.atlas c.end.result) c.loop-index.index z ≡ Err fault) c.in_err-m.field-0.0) same
    c.in_err-m.ensures.refused))

pub push-requires-clause-path : goal.push-requires-clause-path
push-requires-clause-path c =
    c.atlas_laws.ensures.growth.path_in _ _ c.loop-index.path c.flip_at.ensures.grows c.loop-index.invariant.within

pub returns-in_err-push-clause-grows : goal.returns-in_err-push-clause-grows
returns-in_err-push-clause-grows c =
    c.atlas_laws.ensures.growth.further _ _ _ c.loop-index.invariant.grows c.flip_at.ensures.grows

pub loop-index-preserved : goal.loop-index-preserved
loop-index-preserved c =
    let e : ℤ = get_or c.args.edges.now c.loop-index.index (pos 0) in
    let same : to_z w32 (of_z w32 e) ≡ e = search rules in
    let now = c.flip_at.new.atlas in
    let before = triangulation c.loop-index.atlas c.end.result in
    one_more_flip c.atlas_laws.ensures.growth c.args.atlas.now c.loop-index.atlas c.flip_at.new.atlas c.args.edges.now
    c.loop-index.path c.push.new.self c.loop-index.index c.end.result c.in_ok-m.m c.loop-index.invariant
    c.loop-index-test.true c.end.ensures c.flip_at.ensures.grows
    (subst (λ (z : ℤ). triangulation now (target_of now c.in_ok-m.m) ≡ flipped before z) same c.in_ok-m.ensures.after)
    (subst (λ (z : ℤ). flip_at before c.loop-index.index z ≡ Ok (step_of now c.in_ok-m.m)) same c.in_ok-m.ensures.read)
    c.in_ok-push.ensures.accepted c.push.ensures.path

pub returns-clause-grows : goal.returns-clause-grows
returns-clause-grows c = c.loop-index.invariant.grows

pub returns-clause-path : goal.returns-clause-path
returns-clause-path c = c.loop-index.invariant.within

pub returns-clause-start : goal.returns-clause-start
returns-clause-start c = c.loop-index.invariant.start

pub returns-clause-short : goal.returns-clause-short
returns-clause-short c =
    subst (λ (n : ℕ). n ≤ flips_most) (sym c.loop-index.invariant.long)
    (le_trans c.loop-index.auto.index-end c.if-edges-gt-FLIPS_MOST.false)

pub returns-clause-read : goal.returns-clause-read
returns-clause-read c =
    all_flipped c.args.atlas.now c.loop-index.atlas c.args.edges.now c.loop-index.path c.loop-index.index
    c.loop-index.invariant c.if-edges-gt-FLIPS_MOST.false c.loop-index-test.false

pub returns-clause-base : goal.returns-clause-base
returns-clause-base c =
    c.atlas_laws.ensures.growth.triangulation _ _ 0 c.loop-index.invariant.grows
    (subst (IsTriIn c.args.atlas.now) c.base.ensures.number c.base.ensures.here)
