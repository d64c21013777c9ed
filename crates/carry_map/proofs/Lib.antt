-- what is known from below, lists and words
pub mod TrackKnown
pub mod ElementsAndPairs
pub mod WalkLists
pub mod WordParts
pub mod WordEnds
pub mod InverseEnds
pub mod Conjugates
pub mod Conjugation
-- legal walks and loops, and the branches that they pass
pub mod PassFacts
pub mod PassCounts
pub mod CutWalks
pub mod BackwardPasses
pub mod LegalLoops
pub mod LoopPasses
pub mod LoopCounts
pub mod PassTheory
-- one carrying, and every iterate
pub mod CarriedFacts
pub mod CarriedSwitches
pub mod CarriedBranches
pub mod CarriedChains
pub mod CarriedCounts
pub mod CarriedLoops
pub mod Powers
pub mod EveryIterate
pub mod IterateTheory
-- rays, and the places read off them
pub mod CommonPrefixes
pub mod LegalWalks
pub mod LongerWords
pub mod WindowParts
pub mod RaysUnderWay
pub mod RayReads
pub mod Lines
pub mod PlaceLists
pub mod ListedSwitches
pub mod ListedPlaces
pub mod FirstOfLists
pub mod RayPlaces
pub mod ReachedPlaces
pub mod PlacesFound
-- the greatest heights, by lowering
pub mod LoweredHeights
-- anchors and their train paths
pub mod MapsOnTracks
pub mod SwitchPlaces
pub mod Anchored
pub mod BranchEnds
pub mod Gathering
pub mod SwitchWalks
pub mod TrainPaths
pub mod AnchorTheory
pub mod CarriedBy
pub mod FoundAnchors
pub mod RefusedAnchors
pub mod AgreeingMiddles
pub mod Agreeing
-- anchors in the middle
pub mod Pairs
pub mod SwitchNumbers
pub mod MiddleHeights
pub mod FoundPlaces
pub mod PickedPlaces
pub mod MiddleSteps
pub mod MiddleChosen
pub mod MiddleGaps
