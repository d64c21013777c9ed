-- Where walks begin and end, by their first and last letters.
use Rattle.std.proofs.Common.{ℕ, ℤ, List, [], ◌∷◌, ◌≡◌, ◌<◌, subst, arith, length}
use Rattle.ideal_tri.specs.Labels.{inverse}
use Rattle.ideal_tri.specs.Triangulations.{IsLabel, IsWalk, triangle_of}
use Rattle.carry_map.specs.CarriedMaps.{final}

pub same_walk : (ts ts' : List (List ℤ)) (s s' t t' : ℕ) (w w' : List ℤ) → ts ≡ ts' → s ≡ s' → w ≡ w' → t ≡ t'
    → IsWalk ts s w t → IsWalk ts' s' w' t'
same_walk ts ts' s s' t t' w w' ets es ew et h =
    subst (λ (r : ℕ). IsWalk ts' s' w' r) et
    (subst (λ (u : List ℤ). IsWalk ts' s' u t) ew
    (subst (λ (r : ℕ). IsWalk ts' r w t) es (subst (λ (us : List (List ℤ)). IsWalk us s w t) ets h)))

pub ends_with_label : (ts : List (List ℤ)) (s t : ℕ) (w : List ℤ) → 0 < length w → IsWalk ts s w t
    → IsLabel ts (final w)
ends_with_label ts s t [] some h = absurd (omega arith)
ends_with_label ts s t (x ∷ []) some h = h.0
ends_with_label ts s t (x ∷ (y ∷ w)) some h =
    ends_with_label ts (triangle_of ts (inverse x)) t (y ∷ w) (omega arith) h.2
