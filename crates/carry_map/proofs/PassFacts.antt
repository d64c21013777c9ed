-- What is shown of the passes of legal walks and loops, for a track of these left-out corners and branches.
use Rattle.std.proofs.Common.{ℤ, List, ◌∷◌, ◌++◌, ◌≡◌, ◌<◌, true, length, map, reverse, not}
use Rattle.std.specs.List.{All}
use Rattle.ideal_tri.specs.Labels.{inverse}
use Rattle.ideal_tri.specs.Words.{inverse_word, IsRotation, IsCyclicallyReduced, last_of}
use Rattle.ideal_tri.specs.Triangulations.{IsLabel}
use Rattle.train_track.specs.Tracks.{IsLegal, is_switch}
use Rattle.train_track.specs.Passes.{Pass, AreGlued}
use Rattle.carry_map.specs.Iterates.{IsLegalLoop, ArePassesRound}

-- the passes in the other direction
abbrev pub turned_pass : Pass → Pass
turned_pass p = record { branch = p.branch; forwards = not p.forwards }

abbrev pub turned_passes : List Pass → List Pass
turned_passes passes = reverse (map turned_pass passes)

pub record PassFacts (triples : List (List ℤ)) (left_out : List ℤ) (branches : List (List ℤ)) : Type 0 where
  -- ---- legal walks from a switch to a switch
  pub cut : (x : ℤ) (w : List ℤ) → All (IsLabel triples) (x ∷ w) → IsLegal triples left_out (x ∷ w)
      → is_switch triples left_out x ≡ true → is_switch triples left_out (last_of x w) ≡ true
      → (passes : List Pass) × AreGlued branches x passes w
  pub labels : (x : ℤ) (passes : List Pass) (w : List ℤ) → IsLabel triples x → AreGlued branches x passes w
      → All (IsLabel triples) (x ∷ w)
  pub legal : (x : ℤ) (passes : List Pass) (w : List ℤ) → IsLabel triples x → AreGlued branches x passes w
      → IsLegal triples left_out (x ∷ w)
  pub end : (x : ℤ) (passes : List Pass) (w : List ℤ) → is_switch triples left_out x ≡ true
      → AreGlued branches x passes w → is_switch triples left_out (last_of x w) ≡ true
  pub split : (x : ℤ) (first second : List Pass) (w : List ℤ) → AreGlued branches x (first ++ second) w
      → (u : List ℤ) × (v : List ℤ) × (w ≡ u ++ v) × AreGlued branches x first u
      × AreGlued branches (last_of x u) second v
  -- backwards it passes the same branches in the other direction
  pub back : (x : ℤ) (passes : List Pass) (w : List ℤ) → AreGlued branches x passes w
      → (v : List ℤ) × (inverse_word (x ∷ w) ≡ inverse (last_of x w) ∷ v)
      × AreGlued branches (inverse (last_of x w)) (turned_passes passes) v
  -- ---- closed legal walks
  pub loop_rotation : (u v : List ℤ) → IsRotation u v → IsLegalLoop triples left_out u
      → IsLegalLoop triples left_out v
  pub loop_exists : (x : ℤ) → IsLabel triples x → (w : List ℤ) × IsLegalLoop triples left_out w
  pub loop_reduced : (w : List ℤ) → IsLegalLoop triples left_out w → IsCyclicallyReduced w
  -- each can be turned to begin at a switch, and then passes branches round and round
  pub begun : (w : List ℤ) → IsLegalLoop triples left_out w
      → (u : List ℤ) × IsRotation w u × (passes : List Pass) × ArePassesRound branches passes u
  pub switch : (x : ℤ) (w : List ℤ) (passes : List Pass) → ArePassesRound branches passes (x ∷ w)
      → is_switch triples left_out x ≡ true
  pub some : (w : List ℤ) (passes : List Pass) → ArePassesRound branches passes w → 0 < length passes
  -- wherever it begins, the passes are turned alike
  pub turned : (u v : List ℤ) (passes others : List Pass) → IsLegalLoop triples left_out u → IsRotation u v
      → ArePassesRound branches passes u → ArePassesRound branches others v → IsRotation passes others
