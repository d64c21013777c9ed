use Rattle.std.proofs.Common.{◌≡◌, ◌+◌, ℕ, inl, subst, refl, arith}
use Rattle.tri_atlas.specs.Paths.{moves_of}
use Rattle.multicurve_cert.specs.inside.Images.{first_of}
use Rattle.multicurve_cert.proofs.ImageList.{read_image}
use Rattle.multicurve_cert.proofs.SumsAndDifferences.{IsSumTo, sum_more, sum_made, sum_overflows}
use Rattle.multicurve_cert.proofs.candidates.sum.Goals as goal

pub returns-in-Err-clause-line : goal.returns-in-Err-clause-line
returns-in-Err-clause-line c =
    inl (sum_overflows c.args.atlas.now _ _ c.args.kind c.requires.sum c.loop-k.k c.loop-k.sum c.index-list-k.result
    c.in-Err.field-0 c.loop-k-test.true c.loop-k.invariant
    (read_image _ _ _ _ c.requires.images (c.loop-k.k + 1) _ _ refl (omega arith) c.index-list-k.is)
    c.in-Err.ensures.refused)

pub loop-k-preserved : goal.loop-k-preserved
loop-k-preserved c =
    sum_more c.args.atlas.now _ _ c.loop-k.k c.loop-k.sum c.index-list-k.result c.try_add.new.self c.base.ensures.sound
    c.loop-k.invariant
    (read_image _ _ _ _ c.requires.images (c.loop-k.k + 1) _ _ refl (omega arith) c.index-list-k.is)
    c.in-Ok.ensures.added c.in-Ok.ensures.here

pub returns-clause-made : goal.returns-clause-made
returns-clause-made c =
    let all : c.loop-k.k ≡ c.args.kind = omega arith in
    sum_made c.args.atlas.now _ _ c.args.kind c.requires.sum c.loop-k.sum _
    (subst (λ (k : ℕ). IsSumTo c.args.atlas.now (moves_of c.args.atlas.now c.args.word.now) (first_of c.args.list.now) k
    c.loop-k.sum) all c.loop-k.invariant)
    (c.requires.images.each c.args.kind c.requires.enough)
