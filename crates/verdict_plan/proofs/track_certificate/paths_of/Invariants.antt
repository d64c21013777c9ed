use Rattle.std.proofs.Common.{◌≡◌, take}
use Rattle.train_track.specs.Branches.{words_of}
use Rattle.cert_text.specs.Certificates.{walks_of}
use Rattle.verdict_plan.proofs.track_certificate.paths_of.Given as goal

abbrev pub invariant-loop-j : goal.invariant-loop-j
invariant-loop-j l = walks_of l.paths.items ≡ words_of (take l.j l.c.images)
