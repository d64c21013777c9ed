use Rattle.cert_checker.proofs.BranchParts.{taken_front}
use Rattle.cert_checker.proofs.letters.before_last.Goals as goal

pub returns : goal.returns
returns c = taken_front c.args.word.now
