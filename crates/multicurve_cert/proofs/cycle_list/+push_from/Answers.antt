use Rattle.std.proofs.Common.{rules, arith, IsTrue, ◌<◌, ◌≡◌, ◌∙◌, ap, subst, List, ℤ, take, [], ◌∷◌, ◌++◌}
use Rattle.std.specs.List.{All}
use Rattle.std.proofs.lemmas.List.Elements.{All-push, All-same}
use Rattle.ideal_tri.specs.Labels.{edge_of}
use Rattle.ideal_tri.specs.Triangulations.{IsLabel}
use Rattle.multicurve_cert.specs.inside.CycleParts.{Visits}
use Rattle.multicurve_cert.proofs.CyclePrefixes.{adds_nothing, adds_nothing_low, adds_both, cut_back}
use Rattle.multicurve_cert.proofs.cycle_list.+push_from.Goals as goal

pub returns-then-edge-clause-walks : goal.returns-then-edge-clause-walks
returns-then-edge-clause-walks t c =
    let low : edge_of c.index-last.result.now < edge_of c.index-first.result.now =
    omega (arith, c.edge.ensures, c.edge-2.ensures, c.if-edge.true) in
    adds_nothing_low c.word_laws.ensures c.args.tri.now c.args.word.now.items c.args.n c.len-count.result
    c.index-first.result.now c.index-last.result.now c.args.walks.now.items (search rules) (search rules)
    c.index-first.ensures c.index-last.ensures low

pub returns-then-visits-clause-walks : goal.returns-then-visits-clause-walks
returns-then-visits-clause-walks t c =
    let is_true : IsTrue c.visits.result = search rules in
    adds_nothing c.letter_laws.ensures c.args.tri.now c.args.word.now.items c.args.n c.len-count.result c.place.result.0 c.index-last.result.now
    c.inverse-back.result c.args.walks.now.items (search rules) (search rules) c.index-last.ensures (search rules)
    c.inverse-back.ensures c.place.ensures.triangle
    (subst (λ (w : List ℤ). Visits c.args.tri.now w c.place.result.0) c.deref-2.ensures.value
    (c.visits.ensures.0 is_true))

pub push_from-requires : goal.push_from-requires
push_from-requires t c =
    let labels : All (IsLabel c.args.tri.now) c.push.new.self.items =
    All-same (IsLabel c.args.tri.now) _ _ c.in_ok-push.ensures.items
    (All-push (IsLabel c.args.tri.now) _ _ c.requires.labels c.other_sides-x.ensures.first) in
    (search rules, (labels, (search rules, (search rules, c.requires.short))))

pub push_from-requires-2 : goal.push_from-requires-2
push_from-requires-2 t c =
    let cut : c.truncate.new.self.items ≡ c.args.word.now.items =
    cut_back _ c.push.new.self.items _ c.len-count.result _ (search rules) c.in_ok-push.ensures.items
    (c.truncate.ensures.items ∙ ap (take c.len-count.result) c.in_ok-push_from.ensures.word) in
    let labels : All (IsLabel c.args.tri.now) c.push-2.new.self.items =
    All-same (IsLabel c.args.tri.now) _ _ (c.in_ok-push-2.ensures.items)
    (All-push (IsLabel c.args.tri.now) _ _ (All-same (IsLabel c.args.tri.now) _ _ cut c.requires.labels)
    c.other_sides-x.ensures.second) in
    (search rules, (labels, (search rules, (search rules, c.requires.short))))

pub returns-clause-walks : goal.returns-clause-walks
returns-clause-walks t c =
    let cut : c.truncate.new.self.items ≡ c.args.word.now.items =
    cut_back _ c.push.new.self.items _ c.len-count.result _ (search rules) c.in_ok-push.ensures.items
    (c.truncate.ensures.items ∙ ap (take c.len-count.result) c.in_ok-push_from.ensures.word) in
    let second : c.push-2.new.self.items ≡ c.args.word.now.items ++ (c.other_sides-x.result.1 ∷ []) =
    c.in_ok-push-2.ensures.items ∙ ap (λ (w : List ℤ). w ++ (c.other_sides-x.result.1 ∷ [])) cut in
    adds_both c.letter_laws.ensures c.args.tri.now c.args.word.now.items c.push.new.self.items c.push-2.new.self.items c.args.n
    c.len-count.result c.index-last.result.now c.inverse-back.result c.other_sides-x.result.0 c.other_sides-x.result.1
    c.args.walks.now.items c.push_from.new.walks.items c.push_from-2.new.walks.items (search rules) (search rules)
    c.index-last.ensures (search rules) c.inverse-back.ensures c.other_sides-x.ensures c.in_ok-push.ensures.items second
    c.in_ok-push_from.ensures.walks c.in_ok-push_from-2.ensures.walks
