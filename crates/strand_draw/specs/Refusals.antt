-- Why a vector is not drawn.
use Rattle.std.specs.Prelude.{◌≡◌, ◌<◌, ◌≤◌, ℕ, List}
use Rattle.edge_coords.specs.Coordinates.{total_of}
use Rattle.strand_draw.specs.declared.drawing.DrawError.{DrawError}
use Rattle.strand_draw.specs.declared.drawing.DrawError.TheVariants.{Memory, TotalOver}

-- the total is above the cap, and is told; memory is wanted only where it isn't
abbrev pub IsRefusedFor : List ℕ → ℕ → DrawError → Type 0
IsRefusedFor numbers cap (TotalOver total) = (total ≡ total_of numbers) × (cap < total)
IsRefusedFor numbers cap Memory = total_of numbers ≤ cap
