-- Why a vector isn't fixed, at the base of an arena.
use Rattle.std.proofs.Common.{◌≡◌, ℕ, ℤ, List, refl, sym, ◌∙◌, ap, subst, length}
use Rattle.std.specs.Prelude.{slice_index}
use Rattle.ideal_tri.specs.PeripheralParts.{HasFreeCorners}
use Rattle.ideal_tri.specs.Triangulations.{edge_count}
use Rattle.ideal_tri.specs.Vectors.{IsMulticurve}
use Rattle.tri_atlas.specs.Arena.{Arena, triangulation}
use Rattle.tri_atlas.specs.MovedVectors.{OverflowsAt, vector_along}
use Rattle.tri_atlas.specs.Moves.{Move}
use Rattle.edge_coords.specs.Coordinates.{Coordinates, AreCoordinatesIn}
use Rattle.edge_coords.specs.MovedCoordinates.{IsOverflowAlong}
use Rattle.edge_coords.specs.declared.coords.TheConstants.{COORDINATE_LIMIT}
use Rattle.edge_coords.specs.declared.moves.OverflowAt.{OverflowAt}
use Rattle.cert_checker.specs.FirstFailing.{IsFirstFailing}
use Rattle.cert_checker.specs.VectorRules.{AreAllZero, AreCoordinates, IsReducibleRefusal}
use Rattle.cert_checker.specs.VectorRules.{by_overflow, by_edge}

module _ (arena : Arena) (w : Coordinates) (moves : List Move) (base : w.tri ≡ 0) (here : AreCoordinatesIn arena w)
    (some : ¬ AreAllZero w.numbers) (free : HasFreeCorners (triangulation arena 0) w.numbers) where
  abbrev triples : List (List ℤ)
  triples = triangulation arena 0

  accepted : AreCoordinates triples w.numbers
  accepted = record {
    multicurve = subst (λ (t : ℕ). IsMulticurve (triangulation arena t) w.numbers) base here.multicurve;
    small = here.small;
  }

  pub overflows : (o : OverflowAt) (place : ℕ) → place ≡ edge_count (triangulation arena w.tri)
      → IsOverflowAlong (triangulation arena w.tri) w.numbers moves o
      → IsReducibleRefusal triples moves w.numbers 11 place
  overflows o place is along =
      by_overflow along.first.place refl (is ∙ ap (λ (t : ℕ). edge_count (triangulation arena t)) base) accepted some
      free
      (subst (λ (t : ℕ). OverflowsAt COORDINATE_LIMIT (triangulation arena t) w.numbers moves along.first.place) base
      along.overflows)

  pub moved : (before image : List ℕ) (e : ℕ) → before ≡ w.numbers → image ≡ vector_along moves w.numbers
      → ((k : ℕ) → ¬ OverflowsAt COORDINATE_LIMIT (triangulation arena w.tri) w.numbers moves k)
      → IsFirstFailing (length before) (λ (i : ℕ). slice_index image i ≡ slice_index before i) e
      → IsReducibleRefusal triples moves w.numbers 11 e
  moved before image e is becomes within first =
      by_edge refl accepted some free
      (λ k over. within k
      (subst (λ (t : ℕ). OverflowsAt COORDINATE_LIMIT (triangulation arena t) w.numbers moves k) (sym base) over))
      (subst (λ (v : List ℕ). IsFirstFailing (length w.numbers) (λ (i : ℕ). slice_index v i ≡ slice_index w.numbers i) e)
      becomes
      (subst (λ (u : List ℕ). IsFirstFailing (length u) (λ (i : ℕ). slice_index image i ≡ slice_index u i) e) is first))
