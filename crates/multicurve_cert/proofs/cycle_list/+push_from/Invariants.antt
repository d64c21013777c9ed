use Rattle.std.proofs.Common.{◌-◌, length}
use Rattle.multicurve_cert.proofs.cycle_list.+push_from.Given as goal

abbrev pub decreases-push_from : goal.decreases-push_from
decreases-push_from l = l.n - length l.word.now.items
