-- Maps that agree on the labels of a triangulation carry the same tracks in the same ways.
use Rattle.std.specs.Prelude.{◌≡◌, ℕ, ℤ, List, map, All}
use Rattle.ideal_tri.specs.Triangulations.{IsLabel}
use Rattle.tri_atlas.specs.Maps.{IsOdd, IsMap}
use Rattle.train_track.specs.Tracks.{switches_of}
use Rattle.train_track.specs.Branches.{IsBranch, IsBranchList}
use Rattle.carry_map.specs.Anchors.{Place, ArePlaces}
use Rattle.carry_map.specs.AnchorAnswers.{AreAnchors, IsFirstWithout, train_path, FitsBy, walk_by}
use Rattle.carry_map.specs.AnchorAnswers.{IsFirstUnfit}
use Rattle.carry_map.specs.MiddleAnchors.{AreMiddleAnchors}
use Rattle.carry_map.specs.AnchorLaws.{HavePaths}
use Rattle.carry_map.specs.CarriedMaps.{Carrying, IsTrainPath, IsCarried}

-- each label has one image under the two
abbrev pub AgreeOn : List (List ℤ) → (ℤ → List ℤ) → (ℤ → List ℤ) → Type 0
AgreeOn triples f g = (x : ℤ) → IsLabel triples x → f x ≡ g x

-- branches of a track with these left-out corners, under two maps that agree
pub record BranchAgreement (triples : List (List ℤ)) (left_out : List ℤ) (branches : List (List ℤ))
    (f g : ℤ → List ℤ) : Type 0 where
  pub fit : (anchors : List Place) → All (FitsBy triples left_out f anchors) branches
      → All (FitsBy triples left_out g anchors) branches
  pub unfit : (anchors : List Place) (j : ℕ)
      → IsFirstUnfit triples left_out branches f anchors j
      → IsFirstUnfit triples left_out branches g anchors j
  pub walks : (anchors : List Place)
      → map (walk_by triples left_out f anchors) branches
      ≡ map (walk_by triples left_out g anchors) branches
  pub paths : (c : Carrying) → HavePaths triples left_out branches f c
      → HavePaths triples left_out branches g c
  pub carried : (triangles : ℕ → ℕ) (c : Carrying)
      → IsCarried triples left_out branches f triangles c
      → IsCarried triples left_out branches g triangles c

-- what holds of f holds of g
pub record AgreementLaws (triples : List (List ℤ)) (left_out : List ℤ) (f g : ℤ → List ℤ)
    : Type 0 where
  pub maps : (target : List (List ℤ)) (triangles : ℕ → ℕ) → IsMap triples target f triangles
      → IsOdd g
      → IsMap triples target g triangles
  -- where the switches go
  pub places : (s : ℤ) (all : List Place) → ArePlaces triples left_out f s all
      → ArePlaces triples left_out g s all
  pub anchors : (firsts : List Place) → AreAnchors triples left_out f firsts
      → AreAnchors triples left_out g firsts
  pub without : (i : ℕ) → IsFirstWithout triples left_out f i
      → IsFirstWithout triples left_out g i
  pub middles : (branches : List (List ℤ)) → IsBranchList triples left_out branches
      → (anchors : List Place) → AreMiddleAnchors triples left_out branches f anchors
      → AreMiddleAnchors triples left_out branches g anchors
  -- where the branches go
  pub path : (c : Carrying) (branch : List ℤ) → IsBranch triples left_out branch
      → train_path (switches_of triples left_out) f c branch
      ≡ train_path (switches_of triples left_out) g c branch
  pub along : (c : Carrying) (branch walk : List ℤ) → IsBranch triples left_out branch
      → IsTrainPath triples left_out f c branch walk
      → IsTrainPath triples left_out g c branch walk
  pub branches : (branches : List (List ℤ)) → IsBranchList triples left_out branches
      → BranchAgreement triples left_out branches f g

-- for all maps that agree
abbrev pub AllAgreementLaws : Type 0
AllAgreementLaws = (triples : List (List ℤ)) (left_out : List ℤ) (f g : ℤ → List ℤ)
    → AgreeOn triples f g → AgreementLaws triples left_out f g
