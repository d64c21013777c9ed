use Rattle.std.proofs.Common.{◌≡◌, ℕ, sym, ◌∙◌, subst}
use Rattle.ideal_tri.specs.Triangulations.{IsTriangulation, edge_count}
use Rattle.tri_atlas.specs.Moves.{IsMove}
use Rattle.tri_atlas.specs.Arena.{Arena, MoveHandle, triangulation, IsTriIn, IsMoveIn, IsArena, source_of, target_of}
use Rattle.tri_atlas.specs.Arena.{step_of}
use Rattle.tri_atlas.specs.AtlasLaws.{HandleLaws}
use Rattle.edge_coords.proofs.MoveSteps.{step_of_move}
use Rattle.edge_coords.proofs.moves.move_law.Goals as goal

leads_from : (arena : Arena) (m : MoveHandle) (t : ℕ) → HandleLaws → IsArena arena → IsMoveIn arena m
    → source_of arena m ≡ t
    → IsMove (triangulation arena t) (triangulation arena (target_of arena m)) (step_of arena m)
leads_from arena m t handles sound here starts =
    subst (λ (s : ℕ). IsMove (triangulation arena s) (triangulation arena (target_of arena m)) (step_of arena m)) starts
    (handles.leads arena m sound here)

pub returns-clause-step : goal.returns-clause-step
returns-clause-step c =
    let arena : Arena = c.args.atlas.now in
    let t : ℕ = c.args.w.now.tri in
    let u : ℕ = target_of arena c.args.m in
    let here : IsTriIn arena t = c.requires.coordinates.tri_in in
    let there : IsTriIn arena u = (c.atlas_laws.ensures.handles.ends arena c.args.m c.base.ensures.sound
    c.requires.here).1 in
    step_of_move c.vector_laws.ensures c.label_laws.ensures c.relabelling_laws.ensures (triangulation arena t)
    (triangulation arena u) c.args.w.now.numbers
    (c.base.ensures.sound.sound t here) (c.base.ensures.sound.sound u there) c.requires.coordinates.multicurve
    (c.base.ensures.sound.edges u there ∙ sym (c.base.ensures.sound.edges t here))
    (step_of arena c.args.m)
    (c.surface_laws.ensures.triangles (triangulation arena t) (c.base.ensures.sound.sound t here))
    (c.surface_laws.ensures.triangles (triangulation arena u) (c.base.ensures.sound.sound u there))
    (leads_from arena c.args.m t c.atlas_laws.ensures.handles c.base.ensures.sound c.requires.here c.requires.starts)

pub returns-clause-moved : goal.returns-clause-moved
returns-clause-moved c =
    let arena : Arena = c.args.atlas.now in
    let t : ℕ = c.args.w.now.tri in
    let u : ℕ = target_of arena c.args.m in
    let here : IsTriIn arena t = c.requires.coordinates.tri_in in
    let there : IsTriIn arena u = (c.atlas_laws.ensures.handles.ends arena c.args.m c.base.ensures.sound
    c.requires.here).1 in
    c.vector_laws.ensures.moves (triangulation arena t) (triangulation arena u) (step_of arena c.args.m)
    c.args.w.now.numbers
    (c.base.ensures.sound.sound t here) (c.base.ensures.sound.sound u there)
    (leads_from arena c.args.m t c.atlas_laws.ensures.handles c.base.ensures.sound c.requires.here c.requires.starts)
    c.requires.coordinates.multicurve
