-- What the program's steps mean as moves, and the edge that was carried across one.
use Rattle.std.specs.Prelude.{ℕ, Bool, true, false, take}
use Rattle.tri_atlas.specs.Moves.{Move, flip, unflip, relabel}
use Rattle.tri_atlas.specs.Arena.{EdgeHandle}
use Rattle.tri_atlas.specs.declared.step.Step.{Step}
use Rattle.tri_atlas.specs.declared.step.Step.TheVariants.{Flip, Unflip, Relabel}
use Rattle.tri_atlas.specs.declared.step.Carried.{Carried}
use Rattle.tri_atlas.specs.declared.step.Carried.TheVariants.{Same, New}

-- the move with n edges: only the first n images of a relabelling count
abbrev pub move_of : ℕ → Step → Move
move_of n (Flip e a b c d) = flip e a b c d
move_of n (Unflip e a b c d) = unflip e a b c d
move_of n (Relabel images) = relabel (take n images)

-- the edge after the move
abbrev pub edge_in : Carried → EdgeHandle
edge_in (Same e) = e
edge_in (New e) = e

-- whether the flip took the edge away and put this one in its place
abbrev pub is_new : Carried → Bool
is_new (Same e) = false
is_new (New e) = true
