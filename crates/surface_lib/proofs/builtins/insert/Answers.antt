use Rattle.std.proofs.Common.{ℤ, List, [], ◌∷◌, ◌++◌, ap, ◌∙◌, string_bytes}
use Rattle.tri_atlas.specs.Arena.{Arena, triangulation}
use Rattle.tri_atlas.specs.Moves.{relabel}
use Rattle.surface_lib.specs.Described.{Described, NamedMoves}
use Rattle.surface_lib.specs.FlipsForms.{Flipped, flips_in}
use Rattle.surface_lib.specs.GeneratorFiles.{is_taken}
use Rattle.surface_lib.proofs.ClosedForms.{no_fault, one_flipped, with_one_more}
use Rattle.surface_lib.proofs.Grown.{moves_grown}
use Rattle.surface_lib.proofs.builtins.insert.Goals as goal

pub unreachable-requires-in-Err-Fault-closed_by : goal.unreachable-requires-in-Err-Fault-closed_by
unreachable-requires-in-Err-Fault-closed_by c =
    no_fault c.hit_laws.ensures _ _ _ _ _ _ _ c.requires.closed c.in-Ok.ensures.read c.in-Ok.ensures.base
    c.in-Err-Fault-closed_by.ensures.refused c.in-Err-Fault-closed_by.field-0-is

pub returns-clause-behind : goal.returns-clause-behind
returns-clause-behind c before f is flipped =
    let laws = c.atlas_laws.ensures.growth in
    let grows = laws.further _ _ _ c.in-Ok.ensures.grows c.in-Ok-closed_by.ensures.grows in
    let kept = moves_grown laws c.args.s.now.atlas c.closed_by.new.atlas c.args.s.now.generators.entries grows
    c.requires.surface in
    let base = ap (λ (d : Described). d.triangles) is in
    let made = one_flipped (triangulation c.args.s.now.atlas 0) c.args.edges.now _ f c.in-Ok.ensures.read
    (ap (λ (ts : List (List ℤ)). flips_in ts c.args.edges.now) base ∙ flipped) in
    let fresh = ap (λ (gs : List NamedMoves). is_taken gs c.args.name.now) kept ∙ c.requires.new in
    with_one_more before _ _ _ _ c.args.name.now _ _
    (ap string_bytes c.in_ok-insert.ensures.name ∙ ap (λ (d : Described). d.name) is)
    (ap (λ (a : Arena). triangulation a 0) c.in_ok-insert.ensures.atlas ∙ c.in-Ok-closed_by.ensures.base
    ∙ c.in-Ok.ensures.base ∙ base)
    (kept ∙ ap (λ (d : Described). d.generators) is)
    (c.in_ok-insert.ensures.behind fresh)
    (c.in-Ok-closed_by.ensures.read.1 ∙ ap (λ (g : Flipped). g.moves ++ relabel c.args.images.now ∷ []) made)
