use Rattle.std.proofs.Common.{ℤ, List, [], ap, subst, map, length, arith, ◌≤◌, ◌∙◌}
use Rattle.std.proofs.lemmas.List.{length-map}
use Rattle.serde_json.specs.View.{view}
use Rattle.surface_lib.specs.Described.{described}
use Rattle.surface_lib.specs.inside.Seen.{keys_of}
use Rattle.surface_lib.specs.SurfaceFiles.{IsBase}
use Rattle.surface_lib.proofs.FileRefusals.{refused_generators}
use Rattle.surface_lib.proofs.surface_file.surface_in.Goals as goal

pub returns-in_err-read_generators-clause-refused : goal.returns-in_err-read_generators-clause-refused
returns-in_err-read_generators-clause-refused g c =
    let few : length (map view c.in_ok-keys.keys.entries.now) ≤ 64 = simp length-map (grind arith) in
    let (good, holds) = c.in_ok-surface.ensures.accepted in
    let triples = c.deref.ensures.value in
    refused_generators g.T.Twister.twists _ (keys_of c.in_ok-keys.keys) (described c.in_ok-surface.surface) _ _ c.in_ok-keys.ensures.found
    (subst (IsBase c.in_ok-keys.keys.version) triples good)
    (holds ∙ ap (λ (ts : List (List ℤ)). record { name = c.in_ok-keys.keys.name.now; triangles = ts; generators = [] })
    triples)
    few c.in_err-read_generators.ensures.refused c.from_residual-in_err-read_generators.ensures.1
