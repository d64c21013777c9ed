use Rattle.std.proofs.Common.{ℕ, List, refl, sym, subst, arith, take}
use Rattle.std.specs.Prelude.{slice_index_or}
use Rattle.tri_atlas.specs.Arena.{IsTriIn, triangulation}
use Rattle.cert_checker.specs.inside.SiteSteps.{IsFlipPath}
use Rattle.cert_checker.proofs.FlipSteps.{first_unflippable, next_edge, same_base}
use Rattle.cert_checker.proofs.sites.flip_path.Goals as goal

pub returns-in-Err-NotFlippable-clause-refused : goal.returns-in-Err-NotFlippable-clause-refused
returns-in-Err-NotFlippable-clause-refused c = (
  refl,
  (
    c.loop-i.i,
    refl,
    first_unflippable c.loop-i.atlas (triangulation c.args.atlas.now 0) c.args.edges.now c.loop-i.path c.loop-i.i
        (slice_index_or c.args.edges.now c.loop-i.i 0)
        (same_base c.args.atlas.now c.loop-i.atlas c.atlas_laws.ensures c.loop-i.invariant.grows
        (subst (IsTriIn c.args.atlas.now) c.base.ensures.number c.base.ensures.here))
        (omega arith) refl c.loop-i.invariant.kept
        (c.in-Err-NotFlippable.ensures.refused c.in-Err-NotFlippable.field-0-is),
  ),
)

pub loop-i-preserved : goal.loop-i-preserved
loop-i-preserved c = record {
  kept =
      subst (λ (es : List ℕ). IsFlipPath c.flip_on.new.atlas es c.flip_on.new.path)
      (sym (next_edge c.args.edges.now c.loop-i.i (omega arith)))
      (c.in-Ok.ensures.flipped (take c.loop-i.i c.args.edges.now) c.loop-i.invariant.kept);
  grows =
      c.atlas_laws.ensures.growth.further c.args.atlas.now c.loop-i.atlas c.flip_on.new.atlas c.loop-i.invariant.grows
      c.in-Ok.ensures.grows;
}
