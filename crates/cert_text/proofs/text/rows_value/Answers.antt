use Rattle.std.proofs.Common.{ℕ, Vec, Global, arith, ◌∙◌}
use Rattle.cert_text.specs.Texts.{numbers_data}
use Rattle.cert_text.proofs.Lists.{all_made, in_one}
use Rattle.cert_text.proofs.text.rows_value.Goals as goal

pub returns : goal.returns
returns c =
    c.from.ensures
    ∙ all_made (λ row. numbers_data row.items) c.args.rows.now c.loop-row.row-index _ (omega arith)
    c.loop-row.invariant
    ∙ in_one (λ (row : Vec ℕ Global). row.items) numbers_data c.args.rows.now
