use Rattle.free_groupoid.proofs.Appending.{nothing_behind}
use Rattle.free_groupoid.proofs.letter.push_if_any.Goals as goal

pub returns-in-None-clause-value : goal.returns-in-None-clause-value
returns-in-None-clause-value c =
    rw (c.in-None.is) (nothing_behind c.word_laws.ensures.reduction _ c.requires)
