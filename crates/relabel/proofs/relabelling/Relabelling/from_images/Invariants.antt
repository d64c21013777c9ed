use Rattle.std.proofs.Common.{◌≡◌, ◌++◌, ◌-◌, take}
use Rattle.relabel.specs.inside.LaidOut.{spare_slots}
use Rattle.relabel.proofs.relabelling.Relabelling.from_images.Given as goal

abbrev pub invariant-loop-place : goal.invariant-loop-place
invariant-loop-place l = l.images ≡ take l.place l.list ++ spare_slots (48 - l.place)
