use Rattle.std.specs.Prelude.{Vec}
use Rattle.std.specs.Global.{Global}
use Rattle.std.proofs.Common.{List, [], ℤ, ◌≡◌, ◌∙◌, sym, ap, subst, arith}
use Rattle.std.specs.List.{All, flat_map}
use Rattle.std.proofs.lemmas.List.{take_all}
use Rattle.ideal_tri.specs.Words.{last_of}
use Rattle.ideal_tri.specs.Triangulations.{IsLabel}
use Rattle.carry_map.specs.inside.Rays.{words_in, longer}
use Rattle.carry_map.proofs.LongerWords.{as_many, all_longer_end}
use Rattle.carry_map.proofs.WalkLists.{read_through}
use Rattle.carry_map.proofs.windows.all_longer.Goals as goal

pub push_longer-requires : goal.push_longer-requires
push_longer-requires c =
    subst (λ (w : List ℤ). IsLabel c.args.tri.now (last_of c.args.u w))
    (sym (c.deref.ensures.value
    ∙ read_through (λ (v : Vec ℤ Global). v.items) c.args.words.now c.loop-word.word-index c.word-item.result []
    c.loop-word-test.true c.word-item.is))
    (c.requires c.loop-word.word-index _ (omega (arith, as_many c.args.words.now, c.loop-word-test.true)))

pub returns-clause-labels : goal.returns-clause-labels
returns-clause-labels c =
    let is : flat_map (longer c.args.tri.now c.args.left_out.now c.args.u) (words_in c.args.words.now)
    ≡ words_in c.loop-word.found.items
    = ap (λ vs. flat_map (longer c.args.tri.now c.args.left_out.now c.args.u) (words_in vs))
    (sym (take_all c.loop-word.word-index c.args.words.now c.loop-word-test.false))
    ∙ sym c.loop-word.invariant in
    subst (All (λ w. IsLabel c.args.tri.now (last_of c.args.u w))) is
    (all_longer_end c.args.tri.now c.args.left_out.now c.label_laws.ensures
    (c.surface_laws.ensures.triangles c.args.tri.now c.triangles.ensures.sound) c.args.u (words_in c.args.words.now)
    c.requires)
