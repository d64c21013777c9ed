use Rattle.std.proofs.Common.{ℤ, List, ◌∙◌, ◌++◌, ap}
use Rattle.ideal_tri.specs.Words.{inverse_word}
use Rattle.free_groupoid.specs.GroupoidMaps.{substitution, reduced_image}
use Rattle.carry_map.specs.AnchorAnswers.{carrying_by}
use Rattle.carry_map.specs.inside.Switches.{walk_from_to}
use Rattle.carry_map.proofs.Gathering.{gathered}
use Rattle.carry_map.proofs.paths.path_letters.Goals as goal

pub image-requires-clause-walk : goal.image-requires-clause-walk
image-requires-clause-walk c = c.before_last.ensures.walk.walk _ c.args.track.now.left_out c.requires.branch

pub goes_to-requires-clause-listed : goal.goes_to-requires-clause-listed
goes_to-requires-clause-listed c =
    c.last_letter-last.ensures.switch.listed _ c.args.track.now c.requires.map.here.on c.requires.branch

pub returns : goal.returns
returns c =
    let f : ℤ → List ℤ = substitution c.args.psi.now.images in
    c.reduced.ensures
    ∙ gathered c.word_laws.ensures c.args.track.now.switches f (carrying_by c.args.from.now)
    (carrying_by c.args.to.now)
    c.args.branch.now.letters _ _ _ _ _ _ _ c.first_letter.result c.last_letter-last.result c.goes_to.result
    (c.in_ok-push_inverse.ensures ∙ ap (λ (w : List ℤ). w ++ inverse_word c.deref.result.now)
    c.new-letters.ensures.items)
    c.in_ok-extend_from_slice.ensures.items c.in_ok-extend_from_slice-2.ensures.items c.in_ok-push.ensures.items
    c.first_letter.ensures.letter c.last_letter-last.ensures.letter
    (c.deref.ensures.value ∙ c.in_ok-back.ensures)
    (c.deref-2.ensures.value ∙ c.in_ok-image.ensures ∙ ap (reduced_image f) c.before_last.ensures.letters)
    (c.deref-3.ensures.value ∙ c.in_ok-connection.ensures)
    c.goes_to.ensures
    ∙ ap (λ (switches : List ℤ). walk_from_to switches f (carrying_by c.args.from.now) (carrying_by c.args.to.now)
    c.args.branch.now.letters)
    c.requires.map.here.on.switches
