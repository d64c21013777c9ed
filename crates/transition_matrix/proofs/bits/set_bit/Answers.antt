use Rattle.transition_matrix.proofs.BitTables.{set_here, set_columns, set_rows}
use Rattle.transition_matrix.proofs.bits.set_bit.Goals as goal

pub returns-clause-here : goal.returns-clause-here
returns-clause-here c = set_here c.args.width c.args.words.now c.args.i c.args.j c.requires.within

pub returns-clause-columns : goal.returns-clause-columns
returns-clause-columns c k apart = set_columns c.args.width c.args.words.now c.args.i c.args.j k c.requires.within apart

pub returns-clause-rows : goal.returns-clause-rows
returns-clause-rows c l k apart other =
    set_rows c.args.width c.args.words.now c.args.i c.args.j l k c.requires.column apart other
