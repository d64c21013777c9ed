-- Tests of left-out corners.
use Rattle.std.specs.Prelude.{◌&&◌, ◌||◌, Bool, if◌then◌else◌}

-- at least two of three are so
abbrev pub two_of : Bool → Bool → Bool → Bool
two_of a b c = if a then b || c else (b && c)
