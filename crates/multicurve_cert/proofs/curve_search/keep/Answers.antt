use Rattle.std.proofs.Common.{◌∙◌, ap}
use Rattle.std.proofs.lemmas.List.{get_or_read}
use Rattle.edge_coords.specs.Coordinates.{Coordinates}
use Rattle.multicurve_cert.proofs.Trying.{kept_more}
use Rattle.multicurve_cert.proofs.curve_search.keep.Goals as goal

pub returns-in_ok-push : goal.returns-in_ok-push
returns-in_ok-push c =
    kept_more c.args.atlas.now _ c.args.vectors.now c.args.n c.args.kept.now.items c.requires.kept c.in_ok-new.field-0 _
    c.if-n-vectors.true
    (record {
      in_order = c.in_ok-new.ensures.images;
      first = c.in_ok-new.ensures.first ∙ ap (λ (v : Coordinates). v.numbers)
          (get_or_read c.args.vectors.now c.args.n c.index-vectors-n.result c.if-n-vectors.true c.index-vectors-n.is _);
    })
    c.in_ok-push.ensures.items
