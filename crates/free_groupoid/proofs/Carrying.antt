-- A word q carries a word u to a word v where u q and q v have the same reduction: conjugacy without an inverse.
use Rattle.std.proofs.Common.{ℤ, List, [], ◌∷◌, ◌++◌, ◌≡◌, refl, sym, ◌∙◌, ap, append_assoc}
use Rattle.std.specs.List.{flat_map}
use Rattle.std.proofs.lemmas.List.Concat.{flat_map-append}
use Rattle.ideal_tri.specs.Words.{inverse_word, reduce, cyclic_reduce, IsRotation}
use Rattle.tri_atlas.specs.Maps.{IsOdd}
use Rattle.free_groupoid.specs.Inner.{IsKept}
use Rattle.free_groupoid.specs.Related.{AreAlikeAt}
use Rattle.free_groupoid.proofs.Known.{Known}
use Rattle.free_groupoid.proofs.Names.{+0, -0, +1, +2, +3, by_fact, flat_map-respects}

abbrev pub Carries : List ℤ → List ℤ → List ℤ → Type 0
Carries q u v = reduce (u ++ q) ≡ reduce (q ++ v)

module _ (known : Known) where
  -- ---- one after another, backwards, and under a substitution

  pub carries_back : (q u v : List ℤ) → Carries q u v → Carries (inverse_word q) v u
  carries_back q u v e =
      by_fact known (q ∷ u ∷ v ∷ []) (+2 ∷ -0 ∷ []) (-0 ∷ +1 ∷ []) (-0 ∷ []) (+0 ∷ +2 ∷ []) (+1 ∷ +0 ∷ []) (-0 ∷ [])
      refl (sym e) refl

  pub carries_on : (p q u v w : List ℤ) → Carries p u v → Carries q v w → Carries (p ++ q) u w
  carries_on p q u v w e f =
      by_fact known (p ∷ q ∷ u ∷ v ∷ []) (+2 ∷ +0 ∷ +1 ∷ []) (+0 ∷ +3 ∷ +1 ∷ []) [] (+2 ∷ +0 ∷ []) (+0 ∷ +3 ∷ [])
      (+1 ∷ []) refl e refl
      ∙ known.words.reduction.right p (v ++ q) (q ++ w) f
      ∙ ap reduce (sym (append_assoc p q w))

  pub carries_image : (f : ℤ → List ℤ) (q u v : List ℤ) → IsOdd f → Carries q u v
      → Carries (flat_map f q) (flat_map f u) (flat_map f v)
  carries_image f q u v odd e =
      ap reduce (sym (flat_map-append f u q))
      ∙ flat_map-respects known f (u ++ q) (q ++ v) odd e
      ∙ ap reduce (flat_map-append f q v)

  pub carries_same : (q u v w x : List ℤ) → reduce u ≡ reduce w → reduce v ≡ reduce x → Carries q u v → Carries q w x
  carries_same q u v w x e f h = sym (known.words.reduction.left u w q e) ∙ h ∙ known.words.reduction.right q v x f

  -- the word that carries may be replaced by one with the same reduction
  pub carries_by : (p q u v : List ℤ) → reduce p ≡ reduce q → Carries p u v → Carries q u v
  carries_by p q u v e h = sym (known.words.reduction.right u p q e) ∙ h ∙ known.words.reduction.left p q v e

  -- ---- rotations

  pub carries-rotation : (q u v : List ℤ) → Carries q u v → IsRotation (cyclic_reduce u) (cyclic_reduce v)
  carries-rotation q u v e =
      known.words.cyclic.conjugate q u v
      (by_fact known (q ∷ u ∷ v ∷ []) (-0 ∷ +1 ∷ +0 ∷ []) (+2 ∷ []) (-0 ∷ []) (+1 ∷ +0 ∷ []) (+0 ∷ +2 ∷ []) [] refl e
      refl)

  pub rotation-carries : (u v : List ℤ) → IsRotation (cyclic_reduce u) (cyclic_reduce v) → (q : List ℤ) × Carries q u v
  rotation-carries u v rotation =
      let (q, e) = known.words.cyclic.conjugator u v rotation in (
        q,
        by_fact known (q ∷ u ∷ v ∷ []) (+1 ∷ +0 ∷ []) (+0 ∷ +2 ∷ []) (+0 ∷ []) (-0 ∷ +1 ∷ +0 ∷ []) (+2 ∷ []) [] refl e
            refl,
      )

  -- ---- maps at a closed word

  -- a closed word may be cyclically reduced before it is mapped
  rotated : (f : ℤ → List ℤ) (w : List ℤ) → IsOdd f
      → IsRotation (cyclic_reduce (flat_map f w)) (cyclic_reduce (flat_map f (cyclic_reduce w)))
  rotated f w odd =
      known.words.rotations.back (cyclic_reduce (flat_map f (cyclic_reduce w))) (cyclic_reduce (flat_map f w))
      (known.maps.substitutions.cyclic f w odd)

  -- a map keeps a cyclic reduction exactly where some word carries the closed word to its image
  pub kept-carries : (f : ℤ → List ℤ) (w : List ℤ) → IsOdd f → IsKept f (cyclic_reduce w)
      → (q : List ℤ) × Carries q w (flat_map f w)
  kept-carries f w odd kept =
      rotation-carries w (flat_map f w)
      (known.words.rotations.back (cyclic_reduce (flat_map f w)) (cyclic_reduce w)
      (known.words.rotations.along (cyclic_reduce (flat_map f w)) (cyclic_reduce (flat_map f (cyclic_reduce w)))
      (cyclic_reduce w)
      (rotated f w odd) kept))

  pub carries-kept : (f : ℤ → List ℤ) (q w : List ℤ) → IsOdd f → Carries q w (flat_map f w) → IsKept f (cyclic_reduce w)
  carries-kept f q w odd carries =
      known.words.rotations.back (cyclic_reduce w) (cyclic_reduce (flat_map f (cyclic_reduce w)))
      (known.words.rotations.along (cyclic_reduce w) (cyclic_reduce (flat_map f w))
      (cyclic_reduce (flat_map f (cyclic_reduce w)))
      (carries-rotation q w (flat_map f w) carries) (rotated f w odd))

  -- two maps are alike at a cyclic reduction where some word carries the one image of the closed word to the other
  pub carries-alike : (f g : ℤ → List ℤ) (q w : List ℤ) → IsOdd f → IsOdd g → Carries q (flat_map f w) (flat_map g w)
      → AreAlikeAt f g (cyclic_reduce w)
  carries-alike f g q w odd_f odd_g carries =
      known.words.rotations.along (cyclic_reduce (flat_map f (cyclic_reduce w))) (cyclic_reduce (flat_map f w))
      (cyclic_reduce (flat_map g (cyclic_reduce w)))
      (known.maps.substitutions.cyclic f w odd_f)
      (known.words.rotations.along (cyclic_reduce (flat_map f w)) (cyclic_reduce (flat_map g w))
      (cyclic_reduce (flat_map g (cyclic_reduce w)))
      (carries-rotation q (flat_map f w) (flat_map g w) carries) (rotated g w odd_g))
