-- A refusal for the places that a rule chooses is one of the rule.
use Rattle.std.proofs.Common.{ℕ, ℤ, List}
use Rattle.free_groupoid.specs.GroupoidMaps.{GroupoidMap, substitution}
use Rattle.train_track.specs.Branches.{TrainTrack, words_of}
use Rattle.carry_map.specs.Anchors.{Place}
use Rattle.carry_map.specs.AnchorAnswers.{AreAnchors, IsRefusedBy, IsRefusedFor}
use Rattle.carry_map.specs.MiddleAnchors.{AreMiddleAnchors, IsMiddleRefusal}
use Rattle.carry_map.specs.declared.carry.AnchorError.{AnchorError}
use Rattle.carry_map.specs.declared.carry.AnchorError.TheVariants.{NoCommonPart, Illegal, CapPassed, Memory}

pub refused_for : (ts : List (List ℤ)) (track : TrainTrack) (psi : GroupoidMap) (anchors : List Place) (cap : ℕ)
    (e : AnchorError) → AreAnchors ts track.left_out (substitution psi.images) anchors
    → IsRefusedBy ts track psi anchors cap e → IsRefusedFor ts track psi cap e
refused_for ts track psi anchors cap (NoCommonPart s) are h = absurd h
refused_for ts track psi anchors cap (Illegal j) are h = (anchors, are, h)
refused_for ts track psi anchors cap (CapPassed letters) are h = (anchors, are, h)
refused_for ts track psi anchors cap Memory are h = tt

pub refused_middle : (ts : List (List ℤ)) (track : TrainTrack) (psi : GroupoidMap) (anchors : List Place) (cap : ℕ)
    (e : AnchorError)
    → AreMiddleAnchors ts track.left_out (words_of track.branches) (substitution psi.images) anchors
    → IsRefusedBy ts track psi anchors cap e → IsMiddleRefusal ts track psi cap e
refused_middle ts track psi anchors cap (NoCommonPart s) are h = absurd h
refused_middle ts track psi anchors cap (Illegal j) are h = (anchors, are, h)
refused_middle ts track psi anchors cap (CapPassed letters) are h = (anchors, are, h)
refused_middle ts track psi anchors cap Memory are h = tt
