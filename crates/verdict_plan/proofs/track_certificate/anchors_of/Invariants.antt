use Rattle.std.proofs.Common.{◌≡◌, map, take}
use Rattle.train_track.specs.Branches.{words_of}
use Rattle.cert_text.specs.Certificates.{anchors_seen}
use Rattle.verdict_plan.proofs.track_certificate.anchors_of.Given as goal

abbrev pub invariant-loop-i : goal.invariant-loop-i
invariant-loop-i l = (map (λ a. a.switch) (anchors_seen l.anchors.items) ≡ take l.i l.track.switches)
    × (map (λ a. a.to) (anchors_seen l.anchors.items) ≡ take l.i l.c.to)
    × (map (λ a. a.connect) (anchors_seen l.anchors.items) ≡ words_of (take l.i l.c.connect))
