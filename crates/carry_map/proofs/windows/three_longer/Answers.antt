use Rattle.std.proofs.Common.{◌≡◌, ◌∙◌, sym, ap, subst, ◌++◌}
use Rattle.std.specs.List.{All}
use Rattle.ideal_tri.specs.Words.{last_of}
use Rattle.ideal_tri.specs.Triangulations.{IsLabel}
use Rattle.carry_map.specs.inside.Rays.{words_in, longer}
use Rattle.carry_map.proofs.LongerWords.{longer_ends}
use Rattle.carry_map.proofs.windows.three_longer.Goals as goal

pub all_longer-requires : goal.all_longer-requires
all_longer-requires c =
    let is : longer c.args.tri.now c.args.left_out.now c.args.u c.args.begun.now ≡ words_in c.deref.result.now
    = ap (λ vs. words_in vs ++ longer c.args.tri.now c.args.left_out.now c.args.u c.args.begun.now)
    (sym c.new-one.ensures.items)
    ∙ sym c.in_ok-push_longer.ensures ∙ ap words_in (sym c.deref.ensures.value) in
    subst (All (λ w. IsLabel c.args.tri.now (last_of c.args.u w))) is
    (longer_ends c.args.tri.now c.args.left_out.now c.label_laws.ensures
    (c.surface_laws.ensures.triangles c.args.tri.now c.triangles.ensures.sound) c.args.u c.args.begun.now c.requires)
