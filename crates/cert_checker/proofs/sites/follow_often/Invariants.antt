use Rattle.std.proofs.Common.{◌≡◌}
use Rattle.std.specs.List.{repeat}
use Rattle.free_groupoid.specs.GroupoidMaps.{IsMapIn}
use Rattle.cert_checker.specs.inside.SiteSteps.{GoesOn}
use Rattle.cert_checker.proofs.sites.follow_often.Given as goal

abbrev pub invariant-loop : goal.invariant-loop
invariant-loop l = record {
  goes : GoesOn l.atlas l.fn.map (repeat l.counter l.word.moves) l.map;
  maps : IsMapIn l.atlas l.map;
  base : l.map.target ≡ 0;
}
