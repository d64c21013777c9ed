use Rattle.std.proofs.Common.{◌≡◌, arith, sym, ◌∙◌, ap}
use Rattle.ideal_tri.specs.Triangulations.{next}
use Rattle.train_track.specs.Tracks.{is_left_out}
use Rattle.train_track.specs.inside.Corners.{two_of}
use Rattle.train_track.proofs.LeftOut.{two_from, two_to, side_of_triple}
use Rattle.train_track.proofs.corners.has_two.Goals as goal

pub returns : goal.returns
returns c =
    let laws = c.surface_laws.ensures.triangles c.args.tri.now c.requires.sound in
    let labels = c.label_laws.ensures in
    let (l, at) =
    side_of_triple c.args.tri.now c.args.left_out.now labels laws c.args.t c.triple.result c.index-triple-0.result
    c.requires.within c.triple.ensures.triple (omega arith) c.index-triple-0.is in
    let is : c.two_of.result
    ≡ two_of (is_left_out c.args.left_out.now c.index-triple-0.result) (is_left_out c.args.left_out.now c.next-y.result)
    (is_left_out c.args.left_out.now c.next-z.result) = cc in (
      λ h. two_from c.args.tri.now c.args.left_out.now labels laws c.args.t c.index-triple-0.result c.next-y.result
          c.next-z.result l at
          (c.next-y.ensures.next ∙ ap (next c.args.tri.now) (sym c.index-triple-0.is)) c.next-z.ensures.next
          (sym is ∙ h),
      λ h. is
          ∙ two_to c.args.tri.now c.args.left_out.now labels laws c.args.t c.index-triple-0.result c.next-y.result
          c.next-z.result l at
          (c.next-y.ensures.next ∙ ap (next c.args.tri.now) (sym c.index-triple-0.is)) c.next-z.ensures.next h,
    )
