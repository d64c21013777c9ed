use Rattle.std.proofs.Common.{ℤ, List, [], ◌≡◌, ◌<◌, get_or, length, sym, ◌∙◌, ap, subst, arith}
use Rattle.tri_atlas.specs.Arena.{triangulation}
use Rattle.free_groupoid.specs.Walks.{DualWalk}
use Rattle.free_groupoid.specs.GroupoidMaps.{substitution}
use Rattle.train_track.specs.Branches.{IsBranch, words_of}
use Rattle.carry_map.specs.AnchorAnswers.{walk_by, carrying_by, Fits, FitsBy}
use Rattle.carry_map.proofs.WalkLists.{read_through, one_more, up_to, of_all, words_long}
use Rattle.carry_map.proofs.paths.paths.Goals as goal

pub train_path-requires-clause-branch : goal.train_path-requires-clause-branch
train_path-requires-clause-branch c =
    let less : c.loop-j.j < length c.args.track.now.branches =
    subst (λ (bs : List DualWalk). c.loop-j.j < length bs) c.branches-branch-items.ensures c.loop-j-test.true in
    subst (IsBranch (triangulation c.args.atlas.now c.args.track.now.tri) c.args.track.now.left_out)
    (sym (read_through (λ (w : DualWalk). w.letters) c.args.track.now.branches c.loop-j.j c.branch-item.result [] less
    (c.branch-item.is ∙ ap (λ (bs : List DualWalk). get_or bs c.loop-j.j c.branch-item.result)
    c.branches-branch-items.ensures)))
    (c.requires.map.here.on.branches.branch c.loop-j.j []
    (omega (arith, words_long c.args.track.now.branches)))

pub fits-requires-clause-branch : goal.fits-requires-clause-branch
fits-requires-clause-branch c =
    let less : c.loop-j.j < length c.args.track.now.branches =
    subst (λ (bs : List DualWalk). c.loop-j.j < length bs) c.branches-branch-items.ensures c.loop-j-test.true in
    subst (IsBranch (triangulation c.args.atlas.now c.args.track.now.tri) c.args.track.now.left_out)
    (sym (read_through (λ (w : DualWalk). w.letters) c.args.track.now.branches c.loop-j.j c.branch-item.result [] less
    (c.branch-item.is ∙ ap (λ (bs : List DualWalk). get_or bs c.loop-j.j c.branch-item.result)
    c.branches-branch-items.ensures)))
    (c.requires.map.here.on.branches.branch c.loop-j.j []
    (omega (arith, words_long c.args.track.now.branches)))

pub loop-j-preserved : goal.loop-j-preserved
loop-j-preserved c =
    let here : List (List ℤ) = triangulation c.args.atlas.now c.args.track.now.tri in
    let out : List ℤ = c.args.track.now.left_out in
    let f : ℤ → List ℤ = substitution c.args.psi.now.images in
    let less : c.loop-j.j < length c.args.track.now.branches =
    subst (λ (bs : List DualWalk). c.loop-j.j < length bs) c.branches-branch-items.ensures c.loop-j-test.true in
    let is : c.branch-item.result ≡ get_or c.args.track.now.branches c.loop-j.j c.branch-item.result =
    c.branch-item.is ∙ ap (λ (bs : List DualWalk). get_or bs c.loop-j.j c.branch-item.result)
    c.branches-branch-items.ensures in (
      one_more (walk_by here out f c.args.anchors.now) c.args.track.now.branches c.loop-j.paths.items
          c.push.new.self.items c.loop-j.j c.branch-item.result c.in_ok-path.path less is c.loop-j.invariant.0
          c.in_ok-path.ensures.value c.in_ok-push.ensures.items,
      up_to (FitsBy here out f c.args.anchors.now) (words_of c.args.track.now.branches) c.loop-j.j
          c.loop-j.invariant.1
          (subst (FitsBy here out f c.args.anchors.now)
          (read_through (λ (w : DualWalk). w.letters) c.args.track.now.branches c.loop-j.j c.branch-item.result [] less
          is)
          (subst (λ (p : DualWalk). Fits here out (carrying_by c.args.anchors.now) c.branch-item.result.letters
          p.letters)
          c.in_ok-path.ensures.value (c.fits.ensures.0 c.if-not-fits.false))),
    )

pub returns-clause-fit : goal.returns-clause-fit
returns-clause-fit c =
    of_all
    (FitsBy (triangulation c.args.atlas.now c.args.track.now.tri) c.args.track.now.left_out
    (substitution c.args.psi.now.images) c.args.anchors.now)
    (words_of c.args.track.now.branches) c.loop-j.j
    (let long = c.loop-j-test.false in omega (
      arith,
      words_long c.args.track.now.branches,
      ap (λ (bs : List DualWalk). length bs) c.branches-branch-items.ensures,
    ))
    c.loop-j.invariant.1
