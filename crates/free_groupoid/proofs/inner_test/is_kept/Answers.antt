use Rattle.std.proofs.Common.{◌≡◌, ◌∙◌, ◌↔◌, IsTrue, ℤ, List, ap, subst}
use Rattle.std.specs.List.{flat_map}
use Rattle.ideal_tri.specs.Words.{cyclic_reduce, IsRotation}
use Rattle.free_groupoid.specs.GroupoidMaps.{substitution}
use Rattle.free_groupoid.proofs.ComputedWords.{cyclic_reduce-reduce}
use Rattle.free_groupoid.proofs.inner_test.is_kept.Goals as goal

pub returns : goal.returns
returns c =
    let value : c.deref.result.now ≡ cyclic_reduce (flat_map (substitution c.args.f.now.images) c.args.word.now) =
    c.deref.ensures.value ∙ c.cyclic_reduce.ensures ∙ ap cyclic_reduce c.in_ok-image.ensures
    ∙ cyclic_reduce-reduce c.word_laws.ensures.reduction _ in
    subst (λ (w : List ℤ). IsTrue c.is_rotation.result ↔ IsRotation w c.args.word.now) value c.is_rotation.ensures
