-- A relabelling writes the number of each edge to the edge of its image. Each number that is written is the one that
-- the vector after the relabelling has there, and each edge is the image of one: so in the end it is that vector.
use Rattle.std.proofs.Common.{◌≡◌, ◌≢◌, ◌<◌, ◌≤◌, ◌+◌, ◌⊎◌, inl, inr, ℕ, ℤ, pos, List, length, take, drop, get_or, set}
use Rattle.std.proofs.Common.{refl, sym, ◌∙◌, ap, subst, arith, length-set, get_or-set_same, get_or-set_other}
use Rattle.std.proofs.lemmas.Bool.{cases_eq}
use Rattle.std.proofs.lemmas.List.{ext_get_or, get_or-take, length-take-le, drop-set-lt}
use Rattle.std.proofs.lemmas.List.Elements.{All-from_get_or}
use Rattle.ideal_tri.specs.Labels.{edge_of}
use Rattle.ideal_tri.specs.Relabellings.{image_of}
use Rattle.tri_atlas.specs.Moves.{relabel}
use Rattle.tri_atlas.specs.MovedVectors.{vector_after}
use Rattle.edge_coords.specs.Coordinates.{AreSmall}
use Rattle.ideal_tri.specs.declared.tri.TheConstants.{EDGES}
use Rattle.edge_coords.specs.declared.coords.TheConstants.{COORDINATE_LIMIT}
use Rattle.edge_coords.specs.inside.Steps.{IsRelabellingOf}

-- the edge of the image of edge k
abbrev place_of : List ℤ → ℕ → ℕ
place_of images k = edge_of (image_of images (pos k))

-- the first k numbers are where they are in v, and what does not count is as it was
pub record IsMovedUpTo (images : List ℤ) (v before numbers : List ℕ) (count k : ℕ) : Type 0 where
  pub room : length numbers ≡ EDGES
  pub placed : (j : ℕ) → j < k → get_or numbers (place_of images j) 0 ≡ get_or v (place_of images j) 0
  pub rest : drop count numbers ≡ drop count before

pub moved_more : (images : List ℤ) (v before numbers : List ℕ) (count k n i : ℕ) → count ≤ EDGES
    → i ≡ place_of images k → i < count
    → n ≡ get_or v (place_of images k) 0 → IsMovedUpTo images v before numbers count k
    → IsMovedUpTo images v before (set numbers i n) count (k + 1)
moved_more images v before numbers count k n i few place within is h = record {
  room = length-set numbers i n ∙ h.room;
  placed = λ j low. elim (cases_eq (place_of images j) i) [
    | inl e ↦
        ap (λ (x : ℕ). get_or (set numbers i n) x 0) e
        ∙ get_or-set_same numbers i n 0 (subst (λ (m : ℕ). i < m) (sym h.room) (omega arith))
        ∙ is ∙ ap (λ (x : ℕ). get_or v x 0) (sym place ∙ sym e)
    | inr apart ↦
        (let other : j ≢ k = λ e. apart (ap (place_of images) e ∙ sym place) in
        get_or-set_other numbers i (place_of images j) n 0 apart ∙ h.placed j (omega arith))
  ];
  rest = drop-set-lt count numbers i n within ∙ h.rest;
}

module _ (images : List ℤ) (before numbers : List ℕ) (count k : ℕ) (few : count ≤ EDGES) (room : length before ≡ EDGES)
    (step : IsRelabellingOf (take count before) images) (all : count ≤ k)
    (h : IsMovedUpTo images (vector_after (relabel images) (take count before)) before numbers count k) where
  many : length (take count before) ≡ count
  many = length-take-le count before (subst (λ (n : ℕ). count ≤ n) (sym room) few)

  v : List ℕ
  v = vector_after (relabel images) (take count before)

  all_placed : (e : ℕ) → e < count → get_or numbers e 0 ≡ get_or v e 0
  unfolding v
  all_placed e low =
      let (j, within, is) = step.onto e (subst (λ (n : ℕ). e < n) (sym many) low) in
      let passed : j < count = subst (λ (n : ℕ). j < n) many within in
      subst (λ (x : ℕ). get_or numbers x 0 ≡ get_or v x 0) is (h.placed j (omega arith))

  long : length (take count numbers) ≡ count
  long = length-take-le count numbers (subst (λ (n : ℕ). count ≤ n) (sym h.room) few)

  pub moved_all : take count numbers ≡ vector_after (relabel images) (take count before)
  unfolding v
  moved_all =
      ext_get_or 0 (take count numbers) v (long ∙ sym many ∙ sym step.as_long)
      (λ e low.
      let within : e < count = subst (λ (n : ℕ). e < n) long low in
      get_or-take count numbers e 0 within ∙ all_placed e within)

  -- each of its numbers is one of those before
  pub small_moved : AreSmall (take count before) → AreSmall (take count numbers)
  unfolding v
  small_moved small =
      subst AreSmall (sym moved_all)
      (All-from_get_or (λ (n : ℕ). n < COORDINATE_LIMIT) v 0
      (λ e low.
      let (j, within, is) = step.onto e (subst (λ (n : ℕ). e < n) step.as_long low) in
      subst (λ (n : ℕ). n < COORDINATE_LIMIT)
      (sym (step.moved j within) ∙ ap (λ (x : ℕ). get_or v x 0) is)
      (small j 0 within)))
