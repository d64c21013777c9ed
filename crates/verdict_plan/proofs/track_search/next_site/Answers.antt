use Rattle.std.proofs.Common.{rules, ◌≡◌, ◌<◌, ◌≤◌, ◌/◌, ℕ, ℤ, List, length, ap, subst, sym}
use Rattle.std.proofs.lemmas.List.{length-map}
use Rattle.std.proofs.lemmas.Result.{IfOk-weaker}
use Rattle.tri_atlas.specs.Arena.{triangulation}
use Rattle.edge_coords.specs.Coordinates.{Coordinates}
use Rattle.free_groupoid.specs.Walks.{DualWalk}
use Rattle.train_track.specs.Branches.{words_of}
use Rattle.verdict_plan.specs.inside.Turns.{IsFollowing}
use Rattle.verdict_plan.proofs.Grown.{base_same, others_kept}
use Rattle.verdict_plan.proofs.SiteTurns.{cycle_there, first_of_cycle, follows_on, first_walk}
use Rattle.verdict_plan.proofs.SiteTurns.{one_each_there, before_by_turn, first_leaves, others_left}
use Rattle.verdict_plan.proofs.track_search.next_site.Goals as goal

pub cycle_coords-w-requires : goal.cycle_coords-w-requires
cycle_coords-w-requires c =
    let len : c.len.result ≡ length c.args.sites.now.items = search rules in
    cycle_there (triangulation c.args.atlas.now 0) c.args.cycles.now c.args.n c.index-cycles-n.result
    (first_walk c.args.atlas.now c.args.word.now c.args.cycles.now c.args.n c.args.sites.now.items c.requires.sites
    c.len.result len c.if-len-cycles.true) c.index-cycles-n.is c.requires.cycles.each

pub returns-then-len-cycles-clause-site : goal.returns-then-len-cycles-clause-site
returns-then-len-cycles-clause-site c =
    let len : c.len.result ≡ length c.args.sites.now.items = search rules in
    let inside : c.args.n < length c.args.cycles.now =
    first_walk c.args.atlas.now c.args.word.now c.args.cycles.now c.args.n c.args.sites.now.items c.requires.sites
    c.len.result len c.if-len-cycles.true in
    IfOk-weaker c.first_site.result _ _
    (λ site. first_of_cycle c.args.atlas.now c.args.word.now c.args.cycles.now c.args.n c.index-cycles-n.result
    c.cycle_coords-w.result.numbers site inside c.index-cycles-n.is
    (ap (λ (w : Coordinates). w.numbers) c.cycle_coords-w.ensures.value))
    c.first_site.ensures

pub returns-clause-site : goal.returns-clause-site
returns-clause-site c =
    let len : c.len.result ≡ length c.args.sites.now.items = search rules in
    let words : List (List ℤ) = words_of c.args.cycles.now in
    let many : length words ≡ length c.args.cycles.now = length-map c.args.cycles.now (λ (v : DualWalk). v.letters) in
    let full : length words ≤ length c.args.sites.now.items =
    one_each_there c.args.atlas.now c.args.word.now c.args.cycles.now c.args.n c.args.sites.now.items c.requires.sites
    c.len.result len c.if-len-cycles.false in
    IfOk-weaker c.following.result _ _
    (λ new follows. follows_on c.args.atlas.now c.following.new.atlas c.args.word.now words
    (subst (λ (m : ℕ). 0 < m) (sym many) c.requires.some)
    (base_same c.args.atlas.now c.following.new.atlas c.atlas_laws.ensures.growth c.following.ensures.grows
    c.atlas_laws.ensures.handles c.base.ensures.sound c.args.word.now c.requires.closed)
    c.requires.sites.first c.args.n c.in-Some.site new
    (before_by_turn c.args.atlas.now c.args.word.now words c.args.n c.args.sites.now.items c.requires.sites full
    c.in-Some.site c.pop_front.new.self.items c.in-Some.ensures.items)
    (subst (λ (m : ℕ). IsFollowing c.args.atlas.now c.following.new.atlas c.args.word.now (c.args.n / m)
    c.in-Some.site new) (sym many) follows)
    (first_leaves c.args.atlas.now c.args.word.now words c.args.n c.args.sites.now.items c.requires.sites full
    c.in-Some.site c.pop_front.new.self.items c.in-Some.ensures.items))
    c.following.ensures.next

pub returns-clause-sites : goal.returns-clause-sites
returns-clause-sites c =
    let len : c.len.result ≡ length c.args.sites.now.items = search rules in
    let words : List (List ℤ) = words_of c.args.cycles.now in
    let full : length words ≤ length c.args.sites.now.items =
    one_each_there c.args.atlas.now c.args.word.now c.args.cycles.now c.args.n c.args.sites.now.items c.requires.sites
    c.len.result len c.if-len-cycles.false in
    IfOk-weaker c.following.result _ _
    (λ new follows. others_kept c.args.atlas.now c.following.new.atlas c.atlas_laws.ensures.growth
    c.following.ensures.grows c.atlas_laws.ensures.handles c.base.ensures.sound c.args.word.now c.requires.closed c.stage_laws.ensures words
    c.args.n c.pop_front.new.self.items
    (others_left c.args.atlas.now c.args.word.now words c.args.n c.args.sites.now.items c.requires.sites full
    c.in-Some.site c.pop_front.new.self.items c.in-Some.ensures.items))
    c.following.ensures.next
