use Rattle.std.proofs.Common.{ℤ, List, Ok, Err, sym, ◌∙◌, ap, subst}
use Rattle.serde_json.specs.View.{view}
use Rattle.tri_atlas.specs.Arena.{triangulation}
use Rattle.tri_atlas.specs.Paths.{moves_of}
use Rattle.surface_lib.specs.FlipsForms.{Flipped, IsClosedBy}
use Rattle.surface_lib.specs.inside.Faults.{IsFault}
use Rattle.surface_lib.proofs.Flips.{passed_on}
use Rattle.surface_lib.proofs.FlipsRead.{read_flips, refused_flips}
use Rattle.surface_lib.proofs.flips_form.flips_path.Goals as goal

pub returns-in_err-path-clause-refused : goal.returns-in_err-path-clause-refused
returns-in_err-path-clause-refused c =
    let base = triangulation c.args.atlas.now 0 in
    let now = c.flips_in.new.atlas in
    let f : Flipped =
    record { moves = moves_of now c.in_ok-flips.flips; reached = triangulation now c.in_ok-flips.flips.end } in
    passed_on _ _ c.in_err-path.field-0.0 c.from_residual-in_err-path.ensures.1
    (refused_flips base (view c.args.entry.now) c.deref.result.now c.deref-2.result.now f c.in_err-path.field-0.0
    (record {
      at_flips = c.in_ok-edges.ensures.read ∙ ap Ok (sym c.deref.ensures.value);
      at_relabel = c.in_ok-images.ensures.read ∙ ap Ok (sym c.deref-2.ensures.value);
    }) c.in_ok-flips.ensures.read
    (subst (λ (z : List (List ℤ)). IsFault (λ fault. IsClosedBy z c.deref-2.result.now f (Err fault))
    c.in_err-path.field-0.0) c.in_ok-flips.ensures.base c.in_err-path.ensures.refused))

pub returns-clause-read : goal.returns-clause-read
returns-clause-read c =
    let base = triangulation c.args.atlas.now 0 in
    let now = c.flips_in.new.atlas in
    let f : Flipped =
    record { moves = moves_of now c.in_ok-flips.flips; reached = triangulation now c.in_ok-flips.flips.end } in
    let moves = moves_of c.closed_by.new.atlas c.in_ok-path.path in
    read_flips base (view c.args.entry.now) c.deref.result.now c.deref-2.result.now f (Ok moves)
    (record {
      at_flips = c.in_ok-edges.ensures.read ∙ ap Ok (sym c.deref.ensures.value);
      at_relabel = c.in_ok-images.ensures.read ∙ ap Ok (sym c.deref-2.ensures.value);
    }) c.in_ok-flips.ensures.read
    (subst (λ (z : List (List ℤ)). IsClosedBy z c.deref-2.result.now f (Ok moves)) c.in_ok-flips.ensures.base
    c.in_ok-path.ensures.read)
