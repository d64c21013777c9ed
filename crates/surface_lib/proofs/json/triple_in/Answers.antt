use Rattle.std.proofs.Common.{map, arith, length, ◌≢◌}
use Rattle.std.proofs.lemmas.List.{length-map}
use Rattle.serde_json.specs.View.{view}
use Rattle.surface_lib.proofs.Entries.{no_triple}
use Rattle.surface_lib.proofs.json.triple_in.Goals as goal

pub returns-in_default : goal.returns-in_default
returns-in_default c =
    let other : length (map view c.in_ok-list_in.field-0.now) ≢ 3 = simp length-map (grind arith) in
    no_triple _ _ c.in_ok-list_in.ensures other

pub returns-in_default-2 : goal.returns-in_default-2
returns-in_default-2 c =
    let other : length (map view c.in_ok-list_in.field-0.now) ≢ 3 = simp length-map (grind arith) in
    no_triple _ _ c.in_ok-list_in.ensures other
