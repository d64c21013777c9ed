-- The moves that contracts see of those that are kept.
use Rattle.std.proofs.Common.{◌≡◌, ◌∙◌, ◌<◌, ◌++◌, [], ◌∷◌, ℕ, ℤ, List, sym, ap, subst, length, get_or, map}
use Rattle.std.proofs.lemmas.List.{map-append, length-map, get_or-map}
use Rattle.ideal_tri.specs.RelabellingLaws.{RelabellingLaws}
use Rattle.tri_atlas.specs.Moves.{Move, flip, unflip, relabel, IsMove}
use Rattle.tri_atlas.specs.Arena.{Entry, entry_at, IsEntryOf}
use Rattle.tri_atlas.specs.Steps.{move_of}
use Rattle.tri_atlas.specs.inside.Backwards.{IsBijective}
use Rattle.tri_atlas.specs.inside.Fields.{entry_of}
use Rattle.tri_atlas.specs.declared.atlas.Kept.{Kept}

-- one more move
pub moves_pushed : (n : ℕ) (old new : List Kept) (kept : Kept) (moves : List Entry) (entry : Entry)
    → new ≡ old ++ kept ∷ []
    → map (entry_of n) old ≡ moves → entry_of n kept ≡ entry → map (entry_of n) new ≡ moves ++ entry ∷ []
moves_pushed n old new kept moves entry items view is =
    ap (map (entry_of n)) items
    ∙ map-append (entry_of n) old (kept ∷ [])
    ∙ ap (λ (z : List Entry). z ++ (entry_of n kept ∷ [])) view
    ∙ ap (λ (z : Entry). moves ++ z ∷ []) is

-- a relabelling is a bijection of labels
bijective : RelabellingLaws → (before target : List (List ℤ)) (m : Move) → IsMove before target m → IsBijective m
bijective laws before target (flip e a b c d) h = tt
bijective laws before target (unflip e a b c d) h = tt
bijective laws before target (relabel images) h = laws.bijection before target images h

-- so each step that is kept is
pub step_bijective : RelabellingLaws
    → (n k : ℕ) (triangulations : List (List (List ℤ))) (moves : List Kept) (kept : Kept)
    → k < length (map (entry_of n) moves) → IsEntryOf triangulations (entry_at (map (entry_of n) moves) k)
    → kept ≡ get_or moves k kept → IsBijective (move_of n kept.step)
step_bijective laws n k triangulations moves kept below h is =
    let entry : entry_at (map (entry_of n) moves) k ≡ entry_of n kept =
    get_or-map (entry_of n) moves k kept _ (subst (λ (m : ℕ). k < m) (length-map moves (entry_of n)) below)
    ∙ ap (entry_of n) (sym is) in
    subst (λ (e : Entry). IsBijective e.move) entry (bijective laws _ _ _ h.move)
