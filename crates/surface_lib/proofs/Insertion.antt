-- A generator that is put into a list of generators.
use Rattle.std.proofs.Common.{Bool, true, false, List, [], ◌∷◌, All}
use Rattle.std.specs.Prelude.{String, if◌then◌else◌}
use Rattle.std.specs.declared.alloc.Global.{Global}
use Rattle.std.proofs.lemmas.List.Elements.{All-head, All-tail, All-cons}
use Rattle.indexmap.specs.IndexMap.{insert_entry}
use Rattle.tri_atlas.specs.Arena.{Arena}
use Rattle.tri_atlas.specs.Paths.{MovePath}
use Rattle.surface_lib.specs.Surfaces.{IsGenerator}

pub inserted : (eq : String Global → String Global → Bool) (arena : Arena) (es : List (String Global
    × MovePath)) (k : String Global) (v : MovePath)
    → All (IsGenerator arena) es → IsGenerator arena (k, v) → All (IsGenerator arena) (insert_entry eq es k v)
inserted eq arena [] k v all new = All-cons (IsGenerator arena) (k, v) [] new all
inserted eq arena (e ∷ es) k v all new = by (eq k e.0) (inserted eq arena es k v (All-tail (IsGenerator arena) e es
    all) new)
  where
    by : (b : Bool) → All (IsGenerator arena) (insert_entry eq es k v)
        → All (IsGenerator arena) (if b then (e.0, v) ∷ es else e ∷ insert_entry eq es k v)
    by true later =
        All-cons (IsGenerator arena) (e.0, v) es
        (record { spelt = (All-head (IsGenerator arena) e es all).spelt; loop = new.loop; short = new.short })
        (All-tail (IsGenerator arena) e es all)
    by false later = All-cons (IsGenerator arena) e (insert_entry eq es k v) (All-head (IsGenerator arena) e es all)
        later
