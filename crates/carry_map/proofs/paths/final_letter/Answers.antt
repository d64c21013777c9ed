use Rattle.carry_map.proofs.WordEnds.{final_read}
use Rattle.carry_map.proofs.paths.final_letter.Goals as goal

pub returns : goal.returns
returns c = final_read c.letter_laws.ensures c.args.word.now c.index-word-word.result c.requires c.index-word-word.is
