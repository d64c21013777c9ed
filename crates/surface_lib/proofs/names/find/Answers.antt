use Rattle.std.proofs.Common.{◌∷◌, ◌∙◌, List, ℕ, sym, ap}
use Rattle.std.specs.Str.{bytes_eq}
use Rattle.surface_lib.proofs.Lookups.{passed_over, generators_behind}
use Rattle.surface_lib.proofs.names.find.Goals as goal

pub loop-name-preserved : goal.loop-name-preserved
loop-name-preserved c =
    let steps = c.in-Some.ensures.steps in
    let other = ap (λ (z : List ℕ). bytes_eq z (c.args.first ∷ c.args.rest.now)) (sym c.as_bytes.ensures.value)
    ∙ sym c.if-is_spelt.ensures in
    record {
      next = tt;
      finite = tt;
      loops = generators_behind c.args.s.now.atlas _ _ _ steps c.loop-name.invariant.loops;
      left = sym (passed_over (c.args.first ∷ c.args.rest.now) _ _ _ steps other) ∙ c.loop-name.invariant.left;
    }
