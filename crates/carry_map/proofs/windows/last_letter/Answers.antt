use Rattle.std.proofs.Common.{refl}
use Rattle.carry_map.proofs.WordEnds.{last_read}
use Rattle.carry_map.proofs.windows.last_letter.Goals as goal

pub returns : goal.returns
returns c = last_read c.letter_laws.ensures c.args.u c.args.word.now _ c.index-word-count.result refl
    c.if-count-eq0.false c.index-word-count.is
