-- The entries of a vector after a move: a flip changes one, and a relabelling moves them.
use Rattle.std.proofs.Common.{ℕ, ℤ, pos, true, false, List, ◌≡◌, ◌≢◌, ◌<◌, inl, inr, refl, sym, ◌∙◌, ap, subst, length}
use Rattle.std.proofs.Common.{length-set, map, get_or}
use Rattle.std.specs.Prelude.{slice_index}
use Rattle.std.specs.List.{All}
use Rattle.std.proofs.lemmas.Bool.{cases_lt}
use Rattle.std.proofs.lemmas.List.{get_or-set_same, get_or-set_other}
use Rattle.std.proofs.lemmas.List.Elements.{All-get_or, All-from_get_or, All-set}
use Rattle.ideal_tri.specs.Labels.{edge_of}
use Rattle.ideal_tri.specs.Triangulations.{edge_count}
use Rattle.ideal_tri.specs.Vectors.{weight}
use Rattle.ideal_tri.specs.Relabellings.{inverse_images}
use Rattle.tri_atlas.specs.Moves.{Move, flip, unflip, relabel, IsMove}
use Rattle.tri_atlas.specs.Paths.{is_flip}
use Rattle.tri_atlas.specs.MovedVectors.{vector_after, flipped_edge, new_number, flipped_number, IsOver}
use Rattle.tri_atlas.proofs.LowerLaws.{LowerLaws}
use Rattle.tri_atlas.proofs.Flips.{flip_edges}
use Rattle.tri_atlas.proofs.Vectors.Relabelled.{HasOrigin, origin, weight-image, length-moved}

abbrev pub Below : ℕ → List ℕ → Type 0
Below bound w = All (λ n. n < bound) w

-- ---- one move

pub length-after : LowerLaws → (before target : List (List ℤ)) (m : Move) (w : List ℕ) → IsMove before target m
    → length w ≡ edge_count before
    → length (vector_after m w) ≡ edge_count target
length-after laws before target (flip e a b c d) w h long =
    length-set w (edge_of e) (flipped_number w e a b c d) ∙ long ∙ sym (flip_edges laws before target e a b c d h)
length-after laws before target (unflip e a b c d) w h long =
    length-set w (edge_of e) (flipped_number w e a b c d) ∙ long ∙ flip_edges laws target before e a b c d h
length-after laws before target (relabel images) w h long = length-moved laws before target images w h

-- the entries after a move are below the bound, where the new number of a flip is
pub below-after : LowerLaws → (bound : ℕ) (before target : List (List ℤ)) (m : Move) (w : List ℕ)
    → IsMove before target m → length w ≡ edge_count before
    → Below bound w → (IsOver bound m w → ⊥) → Below bound (vector_after m w)
below-after laws bound before target (flip e a b c d) w h long all under =
    All-set (λ n. n < bound) w (edge_of e) (flipped_number w e a b c d)
    (elim (cases_lt (flipped_number w e a b c d) bound) [
      | inl l ↦ l
      | inr reaches ↦ absurd (under (refl, reaches))
    ]) all
below-after laws bound before target (unflip e a b c d) w h long all under =
    All-set (λ n. n < bound) w (edge_of e) (flipped_number w e a b c d)
    (elim (cases_lt (flipped_number w e a b c d) bound) [
      | inl l ↦ l
      | inr reaches ↦ absurd (under (refl, reaches))
    ]) all
below-after laws bound before target (relabel images) w h long all under =
    All-from_get_or (λ n. n < bound) (map (weight w) (inverse_images images)) 0
    (λ k b. entry k
    (origin laws before target images (pos k) h
    (subst (λ (n : ℕ). k < n) (length-moved laws before target images w h) b)))
  where
    entry : (k : ℕ) → HasOrigin before images (pos k) → get_or (map (weight w) (inverse_images images)) k 0 < bound
    entry k o =
        subst (λ (n : ℕ). n < bound)
        (sym (ap (weight (map (weight w) (inverse_images images)))
        (sym o.is) ∙ weight-image laws before target images w h o.origin o.label))
        (All-get_or (λ n. n < bound) w (edge_of o.origin) 0
        (subst (λ (n : ℕ). edge_of o.origin < n) (sym long) o.label) all)

-- the new number of a flip stands at its edge
pub entry-flipped : LowerLaws → (before target : List (List ℤ)) (m : Move) (w : List ℕ) → IsMove before target m
    → length w ≡ edge_count before → is_flip m ≡ true
    → (flipped_edge m < length w) × (slice_index (vector_after m w) (flipped_edge m) ≡ new_number m w)
entry-flipped laws before target (flip e a b c d) w h long flips =
    let below : edge_of e < length w = subst (λ (n : ℕ). edge_of e < n) (sym long) h.label in
    (below, get_or-set_same w (edge_of e) (flipped_number w e a b c d) 0 below)
entry-flipped laws before target (unflip e a b c d) w h long flips =
    let below : edge_of e < length w = subst (λ (n : ℕ). edge_of e < n)
    (sym (long ∙ flip_edges laws target before e a b c d h)) h.label in
    (below, get_or-set_same w (edge_of e) (flipped_number w e a b c d) 0 below)
entry-flipped laws before target (relabel images) w h long flips = absurd (let no : false ≡ true = flips in cc)

-- and all other entries stay
pub entry-other : (m : Move) (w : List ℕ) (e : ℕ) → is_flip m ≡ true → e ≢ flipped_edge m
    → slice_index (vector_after m w) e ≡ slice_index w e
entry-other (flip x a b c d) w e flips ne = get_or-set_other w (edge_of x) e (flipped_number w x a b c d) 0 ne
entry-other (unflip x a b c d) w e flips ne = get_or-set_other w (edge_of x) e (flipped_number w x a b c d) 0 ne
entry-other (relabel images) w e flips ne = absurd (let no : false ≡ true = flips in cc)
