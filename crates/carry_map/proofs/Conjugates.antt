-- Closed words that are conjugate: their cyclic reductions are rotations of each other.
use Rattle.std.proofs.Common.{ℤ, List, [], ◌++◌, ◌≡◌, sym, ◌∙◌, ap, subst}
use Rattle.std.specs.List.{flat_map}
use Rattle.std.proofs.lemmas.List.{append-nil}
use Rattle.std.proofs.lemmas.List.Concat.{flat_map-append}
use Rattle.ideal_tri.specs.Words.{inverse_word, reduce, cyclic_reduce, IsRotation, IsCyclicallyReduced}
use Rattle.ideal_tri.specs.WordLaws.{WordLaws}
use Rattle.tri_atlas.specs.Maps.{IsOdd}
use Rattle.tri_atlas.specs.MapLaws.{SubstitutionLaws}

abbrev pub AreConjugate : List ℤ → List ℤ → Type 0
AreConjugate u v = IsRotation (cyclic_reduce u) (cyclic_reduce v)

Rotation-flat_map : (f : ℤ → List ℤ) (u v : List ℤ) → IsRotation u v → IsRotation (flat_map f u) (flat_map f v)
Rotation-flat_map f u v (a, b, e, g) = (
  flat_map f a,
  flat_map f b,
  ap (flat_map f) e ∙ flat_map-append f a b,
  ap (flat_map f) g ∙ flat_map-append f b a,
)

module _ (words : WordLaws) where
  -- words with the same reduction
  pub same_reduction : (u v : List ℤ) → reduce u ≡ reduce v → AreConjugate u v
  same_reduction u v e = words.cyclic.conjugate [] u v (ap reduce (append-nil u) ∙ e)

  -- a word, with a way there and back round it
  pub there_and_back : (a u v : List ℤ) → reduce u ≡ reduce (a ++ (v ++ inverse_word a)) → AreConjugate u v
  there_and_back a u v e =
      let b : List ℤ = inverse_word a in
      let around : inverse_word b ++ (v ++ b) ≡ a ++ (v ++ b) =
      ap (λ (w : List ℤ). w ++ (v ++ b)) (words.inverses.twice a) in
      words.rotations.back (cyclic_reduce v) (cyclic_reduce u)
      (words.cyclic.conjugate b v u (ap reduce around ∙ sym e))

  pub conjugate_along : (u v w : List ℤ) → AreConjugate u v → AreConjugate v w → AreConjugate u w
  conjugate_along u v w = words.rotations.along (cyclic_reduce u) (cyclic_reduce v) (cyclic_reduce w)

  -- a cyclically reduced word is a rotation of what it is conjugate to
  pub conjugate_reduced : (u v : List ℤ) → IsCyclicallyReduced v → AreConjugate u v → IsRotation (cyclic_reduce u) v
  conjugate_reduced u v h r = subst (IsRotation (cyclic_reduce u)) (words.cyclic.fixed v h) r

  -- a substitution takes a word, and any rotation of its cyclic reduction, to conjugate words
  pub conjugate_images : SubstitutionLaws → (f : ℤ → List ℤ) (u v : List ℤ) → IsOdd f → IsRotation (cyclic_reduce u) v
      → AreConjugate (flat_map f u) (flat_map f v)
  conjugate_images substitutions f u v odd r =
      let core : List ℤ = flat_map f (cyclic_reduce u) in
      conjugate_along (flat_map f u) core (flat_map f v)
      (words.rotations.back (cyclic_reduce core) (cyclic_reduce (flat_map f u)) (substitutions.cyclic f u odd))
      (words.cyclic.rotation core (flat_map f v) (Rotation-flat_map f (cyclic_reduce u) v r))
