use Rattle.std.proofs.Common.{◌∙◌, ◌+◌, ◌≤◌, ap, subst, rules, arith}
use Rattle.tri_atlas.specs.Arena.{triangulation}
use Rattle.free_groupoid.specs.InnerAnswers.{IsInnerAnswer}
use Rattle.free_groupoid.specs.MapRefusals.{IsPathRefusal}
use Rattle.periodic_cert.proofs.Search.{follows, told_capped, told_refuted, to_base, told_order, tried_more}
use Rattle.periodic_cert.proofs.power_search.powers.Goals as goal

pub follow_path-requires-clause-follows : goal.follow_path-requires-clause-follows
follow_path-requires-clause-follows c =
    follows c.atlas_laws.ensures c.periodic_laws.ensures.found _ _ c.requires.path c.requires.start c.requires.end c.base.ensures.sound c.args.limit _ _ _ _
    c.loop-n.invariant

pub returns-in-Err-CapPassed : goal.returns-in-Err-CapPassed
returns-in-Err-CapPassed c =
    let within : c.loop-n.n + 1 ≤ c.args.limit = omega arith in
    rw c.in-Err-CapPassed.letters-is
    (told_capped c.atlas_laws.ensures c.periodic_laws.ensures.found _ _ c.requires.path c.requires.start c.requires.end c.base.ensures.sound c.args.limit _ _ _ _
    c.loop-n.invariant
    c.follow_path.new.self c.in-Err-CapPassed.letters within
    (subst (IsPathRefusal c.args.atlas.now c.loop-n.f c.follow_path.new.self c.args.word.now.moves c.args.cap)
    c.in-Err-CapPassed.field-0-is c.in-Err-CapPassed.ensures.refused))

pub inner-requires : goal.inner-requires
inner-requires c =
    to_base c.atlas_laws.ensures c.periodic_laws.ensures.found _ _ c.requires.path c.requires.start c.requires.end c.base.ensures.sound c.args.limit _ _ _ _
    c.loop-n.invariant
    _ c.in-Ok.ensures.accepted.0 c.in-Ok.ensures.accepted.1 c.in-Ok.ensures.maps _
    (c.tri-tri.ensures.value ∙ ap (triangulation c.args.atlas.now) c.base.ensures.number)

pub returns-in-Yes : goal.returns-in-Yes
returns-in-Yes c =
    let within : c.loop-n.n + 1 ≤ c.args.limit = omega arith in
    told_order c.atlas_laws.ensures c.periodic_laws.ensures.found _ _ c.requires.path c.requires.start c.requires.end c.base.ensures.sound c.args.limit _ _ _ _
    c.loop-n.invariant
    _ c.in-Ok.ensures.accepted.0 c.in-Ok.ensures.accepted.1 c.in-Ok.ensures.maps _
    (c.tri-tri.ensures.value ∙ ap (triangulation c.args.atlas.now) c.base.ensures.number)
    c.in-Yes.paths.items within
    (subst (IsInnerAnswer c.tri-tri.result.now c.follow_path.new.self) c.in-Yes.is c.in_ok-paths.ensures)

pub loop-n-preserved : goal.loop-n-preserved
loop-n-preserved c =
    tried_more c.atlas_laws.ensures c.periodic_laws.ensures.found _ _ c.requires.path c.requires.start c.requires.end c.base.ensures.sound c.args.limit _ _ _ _
    c.loop-n.invariant
    _ c.in-Ok.ensures.accepted.0 c.in-Ok.ensures.accepted.1 c.in-Ok.ensures.maps _
    (c.tri-tri.ensures.value ∙ ap (triangulation c.args.atlas.now) c.base.ensures.number)
    c.in-No.walk c.push.new.self.items
    (subst (IsInnerAnswer c.tri-tri.result.now c.follow_path.new.self) c.in-No.is c.in_ok-paths.ensures)
    (search rules)

pub returns : goal.returns
returns c =
    told_refuted c.atlas_laws.ensures c.periodic_laws.ensures.found _ _ c.requires.path c.requires.start c.requires.end c.base.ensures.sound c.args.limit _ _ _ _
    c.loop-n.invariant (omega arith)
