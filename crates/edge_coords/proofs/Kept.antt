-- Numbers in an array with zeros after them: kept whole, and one written over.
use Rattle.std.proofs.Common.{◌≡◌, ◌<◌, ◌≤◌, ◌+◌, ◌-◌, ◌++◌, ◌^◌, ℕ, List, length, take, drop, set, replicate, All, sym}
use Rattle.std.proofs.Common.{◌∙◌, ap, subst, arith, length-append, length-drop}
use Rattle.std.proofs.lemmas.List.Elements.{All-set}
use Rattle.std.proofs.lemmas.List.{drop-replicate, length-replicate, length-set, drop-set-lt}
use Rattle.std.proofs.Math.Seq.{take-append_seam, drop-append_seam, take-set-lt}
use Rattle.edge_coords.specs.Coordinates.{Coordinates, AreSmall}
use Rattle.ideal_tri.specs.declared.tri.TheConstants.{EDGES}
use Rattle.edge_coords.specs.declared.coords.TheConstants.{COORDINATE_LIMIT}
use Rattle.edge_coords.specs.inside.Again.{count_again}
use Rattle.edge_coords.specs.inside.LaidOut.{IsLaidOut, spare_numbers}

pub laid_out : (xs : List ℕ) → length xs ≤ EDGES → AreSmall xs
    → IsLaidOut (length xs) (xs ++ drop (length xs) (replicate EDGES 0))
unfolding spare_numbers
laid_out xs few small = record {
  fits = few;
  room = omega (
    arith,
    length-append xs (drop (length xs) (replicate EDGES 0)),
    length-drop {A = ℕ},
    length-replicate
        {A = ℕ} EDGES 0,
  );
  spare = drop-append_seam xs _ ∙ drop-replicate (length xs) EDGES 0;
  small = let P : List ℕ → Type 0 = λ ys. AreSmall ys in subst P (sym (take-append_seam xs _)) small;
}

-- a number is written over another
pub laid_out_set : (count : ℕ) (numbers : List ℕ) (i v : ℕ) → IsLaidOut count numbers → i < count → v < COORDINATE_LIMIT
    → IsLaidOut count (set numbers i v)
laid_out_set count numbers i v h within low = record {
  fits = h.fits;
  room = length-set numbers i v ∙ h.room;
  spare = drop-set-lt count numbers i v within ∙ h.spare;
  small = subst AreSmall (sym (take-set-lt count numbers i v within)) (All-set (λ n. n < COORDINATE_LIMIT) (take count
      numbers) i v low h.small);
}

-- ---- what contracts see

abbrev coordinates : ℕ → List ℕ → Coordinates
coordinates t w = record { tri = t; numbers = w }

pub seen_same : (s t : ℕ) (u v : List ℕ) → s ≡ t → u ≡ v → coordinates s u ≡ coordinates t v
seen_same s t u v p q = ap (λ (n : ℕ). coordinates n u) p ∙ ap (coordinates t) q

pub place_within : (c : Coordinates) (t count : ℕ) (numbers : List ℕ) (i j : ℕ) → coordinates t (take count numbers) ≡ c
    → IsLaidOut count numbers → i ≡ j → j < length c.numbers → i < count
place_within c t count numbers i j is h place within =
    let seen : length c.numbers ≡ count = ap (λ (d : Coordinates). length d.numbers) (sym is)
    ∙ count_again count numbers h in
    omega arith

pub seen_set : (c : Coordinates) (t count : ℕ) (numbers : List ℕ) (i j u v : ℕ) → coordinates t (take count numbers) ≡ c
    → i < count → i ≡ j → u ≡ v → coordinates t (take count (set numbers i u)) ≡ coordinates c.tri (set c.numbers j v)
seen_set c t count numbers i j u v is within place value =
    seen_same t c.tri (take count (set numbers i u)) (set c.numbers j v) (ap (λ (d : Coordinates). d.tri) is)
    (take-set-lt count numbers i u within
    ∙ ap (λ (d : Coordinates). set d.numbers i u) is
    ∙ ap (λ (n : ℕ). set c.numbers n u) place
    ∙ ap (set c.numbers j) value)
