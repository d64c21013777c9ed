use Rattle.std.proofs.Common.{◌≡◌, ◌≢◌, ℕ, pos, refl, sym, ◌∙◌, ap, arith}
use Rattle.std.proofs.lemmas.Bool.{true≢false}
use Rattle.std.proofs.lemmas.List.{get_or_default}
use Rattle.ideal_tri.specs.Vertices.{vertex_of}
use Rattle.train_track.specs.Branches.{letter_at}
use Rattle.cert_checker.proofs.FillingCorners.{open_at, never_open}
use Rattle.cert_checker.proofs.ListsTogether.{pass_more}
use Rattle.cert_checker.proofs.corners.is_open.Goals as goal

pub returns-then-number-v : goal.returns-then-number-v
returns-then-number-v c =
    let at : letter_at c.args.corners.now c.loop-j.j ≡ c.index-corners-j.result =
    get_or_default c.args.corners.now c.loop-j.j (pos 0) c.index-corners-j.result (omega arith)
    ∙ sym c.index-corners-j.is in (
      λ _. open_at c.label_laws.ensures c.args.tri.now c.args.corners.now c.args.v c.loop-j.j (omega arith)
          (c.requires c.loop-j.j (omega arith))
          (ap (vertex_of c.args.tri.now) at ∙ sym c.vertex.ensures ∙ sym c.number.ensures ∙ c.if-number-v.true),
      λ _. refl,
    )

pub loop-j-preserved : goal.loop-j-preserved
loop-j-preserved c =
    let at : letter_at c.args.corners.now c.loop-j.j ≡ c.index-corners-j.result =
    get_or_default c.args.corners.now c.loop-j.j (pos 0) c.index-corners-j.result (omega arith)
    ∙ sym c.index-corners-j.is in
    pass_more (λ (k : ℕ). vertex_of c.args.tri.now (letter_at c.args.corners.now k) ≢ c.args.v) c.loop-j.j
    c.loop-j.invariant
    (λ is. c.if-number-v.false
    (c.number.ensures ∙ c.vertex.ensures ∙ sym (ap (vertex_of c.args.tri.now) at) ∙ is))

pub returns : goal.returns
returns c = (
  λ no. absurd (true≢false (sym no)),
  λ is_open.
      absurd (never_open c.label_laws.ensures c.args.tri.now c.args.corners.now c.args.v c.loop-j.j (omega arith)
      c.loop-j.invariant is_open),
)
