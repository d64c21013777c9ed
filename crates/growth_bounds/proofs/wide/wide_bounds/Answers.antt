use Rattle.std.proofs.Common.{ℕ, List, refl, ◌∙◌}
use Rattle.growth_bounds.specs.Rule.{IsWideGrowth}
use Rattle.growth_bounds.proofs.Bounding.{written, made_of, ruled, bounded}
use Rattle.growth_bounds.proofs.wide.wide_bounds.Goals as goal

pub returns-clause-rule : goal.returns-clause-rule
returns-clause-rule c =
    let u : List ℕ = c.find_wide_growth.new.u in
    let v : List ℕ = c.find_wide_growth.new.v in
    let found = c.find_wide_growth.ensures.found c.if-not-find_wide_growth.false in
    let u_is = written _ u _ _ (c.find_wide_growth.auto.u ∙ c.deref_mut.ensures.len) refl in
    let v_is = written _ v _ _ (c.find_wide_growth.auto.v ∙ c.deref_mut-2.ensures.len) c.deref.ensures.value in
    let e = c.with_ratios.ensures in
    ruled c.args.m.now (IsWideGrowth c.args.m.now) u v c.with_ratios.result found
    (made_of u v _ _ c.with_ratios.result u_is v_is (record { row = e.row; low = e.low; high = e.high }))

pub returns-clause-bounds : goal.returns-clause-bounds
returns-clause-bounds c =
    let u : List ℕ = c.find_wide_growth.new.u in
    let v : List ℕ = c.find_wide_growth.new.v in
    let found = c.find_wide_growth.ensures.found c.if-not-find_wide_growth.false in
    let u_is = written _ u _ _ (c.find_wide_growth.auto.u ∙ c.deref_mut.ensures.len) refl in
    let v_is = written _ v _ _ (c.find_wide_growth.auto.v ∙ c.deref_mut-2.ensures.len) c.deref.ensures.value in
    let e = c.with_ratios.ensures in
    bounded c.args.m.now (IsWideGrowth c.args.m.now) u v c.with_ratios.result found
    (made_of u v _ _ c.with_ratios.result u_is v_is (record { row = e.row; low = e.low; high = e.high }))
