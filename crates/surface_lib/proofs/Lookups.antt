-- A generator that is passed over in a search for a name.
use Rattle.std.proofs.Common.{◌≡◌, ℕ, Bool, false, cond, List, ◌∷◌, Some, ap, ◌∙◌, subst, All}
use Rattle.std.specs.Prelude.{String, string_bytes}
use Rattle.std.specs.List.{find}
use Rattle.std.specs.Option.{option_map}
use Rattle.std.specs.Str.{bytes_eq}
use Rattle.std.specs.declared.alloc.Global.{Global}
use Rattle.std.proofs.lemmas.List.Elements.{All-tail}
use Rattle.tri_atlas.specs.Arena.{Arena}
use Rattle.tri_atlas.specs.Paths.{MovePath}
use Rattle.surface_lib.specs.Words.{moves_of}
use Rattle.surface_lib.specs.Surfaces.{generator_of, generators_in, IsGenerator}

pub passed_over : (t : List ℕ) (before : List (String Global × MovePath)) (e : String Global × MovePath)
    (es : List (String Global × MovePath)) → before ≡ e ∷ es → bytes_eq (string_bytes e.0) t ≡ false
    → moves_of t (generators_in before) ≡ moves_of t (generators_in es)
passed_over t before e es is h =
    ap (λ (z : List (String Global × MovePath)). moves_of t (generators_in z)) is
    ∙ ap (λ (b : Bool). option_map (λ g. g.moves) (cond b (Some (generator_of e)) (find (λ g. bytes_eq g.spelt t)
    (generators_in es)))) h

pub generators_behind : (arena : Arena) (before : List (String Global × MovePath)) (e : String Global × MovePath)
    (es : List (String Global × MovePath)) → before ≡ e ∷ es → All (IsGenerator arena) before
    → All (IsGenerator arena) es
generators_behind arena before e es is all = All-tail (IsGenerator arena) e es (subst (All (IsGenerator arena)) is all)
