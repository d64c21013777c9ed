use Rattle.std.proofs.Common.{take}
use Rattle.tri_atlas.specs.Arena.{Grows}
use Rattle.cert_checker.specs.inside.SiteSteps.{IsFlipPath}
use Rattle.cert_checker.proofs.sites.flip_path.Given as goal

abbrev pub invariant-loop-i : goal.invariant-loop-i
invariant-loop-i l = record {
  kept : IsFlipPath l.atlas (take l.i l.edges) l.path;
  grows : Grows l.fn.atlas l.atlas;
}
