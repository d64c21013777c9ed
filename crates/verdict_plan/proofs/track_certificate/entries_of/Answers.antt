use Rattle.std.proofs.Common.{◌≡◌, ◌<◌, ◌++◌, ◌∷◌, [], ℕ, sym, subst, rules}
use Rattle.verdict_plan.proofs.MatrixRows.{AreFirstRows, all_rows, next_row}
use Rattle.verdict_plan.proofs.track_certificate.entries_of.Goals as goal

pub loop-i-preserved : goal.loop-i-preserved
loop-i-preserved c =
    let pushed : c.push.new.self.items ≡ c.loop-i.rows.items ++ (c.in_ok-row_of.field-0 ∷ []) = search rules in
    let within : c.loop-i.i < c.args.m.now.size = search rules in
    subst (AreFirstRows c.args.m.now _) (sym pushed)
    (next_row c.args.m.now c.requires c.loop-i.i c.loop-i.rows.items c.in_ok-row_of.field-0 within c.loop-i.invariant
    c.in_ok-row_of.ensures)

pub returns : goal.returns
returns c =
    let ended : c.loop-i.i ≡ c.args.m.now.size = search rules in
    all_rows c.args.m.now c.requires c.loop-i.rows.items
    (subst (λ (n : ℕ). AreFirstRows c.args.m.now n c.loop-i.rows.items) ended c.loop-i.invariant)
