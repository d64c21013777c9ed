-- Why letters make no walk.
use Rattle.std.specs.Prelude.{ℤ, List}
use Rattle.free_groupoid.specs.Walks.{DualWalk, IsFirstBreak}
use Rattle.free_groupoid.specs.declared.walk.WalkError.{WalkError}
use Rattle.free_groupoid.specs.declared.walk.WalkError.TheVariants.{NotComposable, Memory}

-- memory may be wanting at any time
abbrev pub IsRefusedFor : List (List ℤ) → DualWalk → WalkError → Type 0
IsRefusedFor triples w (NotComposable place) = IsFirstBreak triples w place
IsRefusedFor triples w Memory = Unit {0}
