use Rattle.transition_matrix.proofs.Powers.{first_power, no_positive_power, positive_later}
use Rattle.transition_matrix.proofs.Sums.{sum_below-same}
use Rattle.transition_matrix.proofs.ColumnSums.{sum_below-beginning, start_sums, next_sums, rising}
use Rattle.transition_matrix.proofs.laws.matrix_laws.Goals as goal

pub returns : goal.returns
returns c = record {
  powers = record { first = first_power; classes = no_positive_power; more = positive_later };
  sums = record { same = sum_below-same; beginning = sum_below-beginning };
  column_sums = record { start = start_sums; next = next_sums; rising = rising };
}
