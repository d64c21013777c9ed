-- Substitutions that respect inverses go with reductions, with each other, and with closed words.
--
-- Let f put a word f(x) in the place of each letter x, with f(x^-1) = f(x)^-1. Where a word has a letter beside its
-- inverse, its image has f(x) beside f(x)^-1, which cancel: so a word may be reduced before it is mapped, and the
-- reduced image depends on the reduced word alone. One substitution after another is then the one whose images of
-- letters are mapped and reduced.
--
-- A closed word w reduces to p c p^-1 with c its cyclic reduction. Its image reduces as f(p) f(c) f(p)^-1 does, which
-- is a conjugate of f(c), and conjugate words have cyclic reductions that are rotations of each other. A rotation of
-- w splits it in two, so the images are rotations of each other too.
use Rattle.std.proofs.Common.{ℤ, Bool, cond, List, [], ◌∷◌, ◌++◌, ◌≡◌, inl, inr, refl, sym, ◌∙◌, ap, subst}
use Rattle.std.specs.List.{All, flat_map}
use Rattle.std.proofs.lemmas.List.{append-nil}
use Rattle.std.proofs.lemmas.List.Concat.{flat_map-append}
use Rattle.std.proofs.lemmas.List.Elements.{All-head, All-tail}
use Rattle.ideal_tri.specs.Labels.{inverse}
use Rattle.ideal_tri.specs.Words.{inverse_word, push, reduce, cyclic_reduce, IsRotation}
use Rattle.ideal_tri.specs.Curves.{IsSameCurve}
use Rattle.tri_atlas.specs.Maps.{IsOdd, identity, after}
use Rattle.tri_atlas.specs.MapLaws.{SubstitutionLaws}
use Rattle.tri_atlas.proofs.LowerLaws.{LowerLaws}

-- ---- substitutions that agree

pub flat_map-identity : (w : List ℤ) → flat_map identity w ≡ w
flat_map-identity [] = refl
flat_map-identity (x ∷ w) = ap (λ (z : List ℤ). x ∷ z) (flat_map-identity w)

pub flat_map-same : (f g : ℤ → List ℤ) (w : List ℤ) → ((x : ℤ) → f x ≡ g x) → flat_map f w ≡ flat_map g w
flat_map-same f g [] e = refl
flat_map-same f g (x ∷ w) e =
    ap (λ (z : List ℤ). z ++ flat_map f w) (e x) ∙ ap (λ (z : List ℤ). g x ++ z) (flat_map-same f g w e)

pub flat_map-same_at : (f g : ℤ → List ℤ) (w : List ℤ) → All (λ x. f x ≡ g x) w → flat_map f w ≡ flat_map g w
flat_map-same_at f g [] h = refl
flat_map-same_at f g (x ∷ w) h =
    ap (λ (z : List ℤ). z ++ flat_map f w) (All-head (λ y. f y ≡ g y) x w h)
    ∙ ap (λ (z : List ℤ). g x ++ z) (flat_map-same_at f g w (All-tail (λ y. f y ≡ g y) x w h))

module _ (laws : LowerLaws) where
  -- ---- words

  pub flat_map-inverse_word : (f : ℤ → List ℤ) (w : List ℤ) → IsOdd f
      → flat_map f (inverse_word w) ≡ inverse_word (flat_map f w)
  flat_map-inverse_word f [] odd = refl
  flat_map-inverse_word f (x ∷ w) odd =
      flat_map-append f (inverse_word w) (inverse x ∷ [])
      ∙ ap (λ (z : List ℤ). z ++ (f (inverse x) ++ [])) (flat_map-inverse_word f w odd)
      ∙ ap (λ (z : List ℤ). inverse_word (flat_map f w) ++ z) (append-nil (f (inverse x)) ∙ odd x)
      ∙ sym (laws.words.inverses.append (f x) (flat_map f w))

  -- ---- reductions

  -- the image of a letter cancels that of its inverse
  reduce-flat_map_push : (f : ℤ → List ℤ) (x : ℤ) (w : List ℤ) → IsOdd f
      → reduce (flat_map f (push x w)) ≡ reduce (f x ++ flat_map f w)
  reduce-flat_map_push f x [] odd = refl
  reduce-flat_map_push f x (y ∷ w) odd =
      elim (laws.labels.same_or_not y (inverse x)) [
        | inl e ↦
            (ap (λ (b : Bool). reduce (flat_map f (cond b w (x ∷ (y ∷ w))))) (laws.labels.test_same y (inverse x) e)
            ∙ sym (laws.words.reduction.cancel [] (f x) (flat_map f w))
            ∙ ap (λ (z : List ℤ). reduce (f x ++ (z ++ flat_map f w))) (sym (ap f e ∙ odd x)))
        | inr n ↦ ap (λ (b : Bool). reduce (flat_map f (cond b w (x ∷ (y ∷ w)))))
            (laws.labels.test_other y (inverse x) n)
      ]

  -- a word may be reduced before it is mapped
  pub reduce-flat_map_reduce : (f : ℤ → List ℤ) (w : List ℤ) → IsOdd f
      → reduce (flat_map f (reduce w)) ≡ reduce (flat_map f w)
  reduce-flat_map_reduce f [] odd = refl
  reduce-flat_map_reduce f (x ∷ w) odd =
      reduce-flat_map_push f x (reduce w) odd
      ∙ laws.words.reduction.right (f x) (flat_map f (reduce w)) (flat_map f w) (reduce-flat_map_reduce f w odd)

  -- words with the same reduction have images with the same reduction
  pub flat_map-respects : (f : ℤ → List ℤ) (u v : List ℤ) → IsOdd f → reduce u ≡ reduce v
      → reduce (flat_map f u) ≡ reduce (flat_map f v)
  flat_map-respects f u v odd e =
      sym (reduce-flat_map_reduce f u odd) ∙ ap (λ (z : List ℤ). reduce (flat_map f z)) e
      ∙ reduce-flat_map_reduce f v odd

  -- ---- one map after another

  pub flat_map-after : (f g : ℤ → List ℤ) (w : List ℤ)
      → reduce (flat_map (after g f) w) ≡ reduce (flat_map g (flat_map f w))
  flat_map-after f g [] = refl
  flat_map-after f g (x ∷ w) =
      laws.words.reduction.left (after g f x) (flat_map g (f x)) (flat_map (after g f) w)
      (laws.words.reduction.twice (flat_map g (f x)))
      ∙ laws.words.reduction.right (flat_map g (f x)) (flat_map (after g f) w) (flat_map g (flat_map f w))
      (flat_map-after f g w)
      ∙ ap reduce (sym (flat_map-append g (f x) (flat_map f w)))

  pub IsOdd-after : (f g : ℤ → List ℤ) → IsOdd f → IsOdd g → IsOdd (after g f)
  IsOdd-after f g odd_f odd_g = λ x.
      ap (λ (z : List ℤ). reduce (flat_map g z)) (odd_f x)
      ∙ ap reduce (flat_map-inverse_word g (f x) odd_g)
      ∙ laws.words.reduction.inverse (flat_map g (f x))

  -- ---- closed words

  -- a closed word may be cyclically reduced before it is mapped: its image then starts elsewhere
  cyclic_reduce-flat_map : (f : ℤ → List ℤ) (w : List ℤ) → IsOdd f
      → IsRotation (cyclic_reduce (flat_map f (cyclic_reduce w))) (cyclic_reduce (flat_map f w))
  cyclic_reduce-flat_map f w odd =
      let (p, shape) = laws.words.cyclic.shape w in
      let core : List ℤ = cyclic_reduce w in
      let q : List ℤ = inverse_word (flat_map f p) in
      let between : inverse_word q ++ (flat_map f core ++ q) ≡ flat_map f (reduce w) =
      ap (λ (z : List ℤ). z ++ (flat_map f core ++ q)) (laws.words.inverses.twice (flat_map f p))
      ∙ ap (λ (z : List ℤ). flat_map f p ++ (flat_map f core ++ z)) (sym (flat_map-inverse_word f p odd))
      ∙ ap (λ (z : List ℤ). flat_map f p ++ z) (sym (flat_map-append f core (inverse_word p)))
      ∙ sym (flat_map-append f p (core ++ inverse_word p))
      ∙ ap (flat_map f) (sym shape) in
      laws.words.cyclic.conjugate q (flat_map f core) (flat_map f w)
      (ap reduce between ∙ reduce-flat_map_reduce f w odd)

  Rotation-flat_map : (f : ℤ → List ℤ) (u v : List ℤ) → IsRotation u v → IsRotation (flat_map f u) (flat_map f v)
  Rotation-flat_map f u v (a, b, e, g) = (
    flat_map f a,
    flat_map f b,
    ap (flat_map f) e ∙ flat_map-append f a b,
    ap (flat_map f) g ∙ flat_map-append f b a,
  )

  SameCurve-flat_map : (f : ℤ → List ℤ) (u v : List ℤ) → IsOdd f → IsSameCurve u v
      → IsSameCurve (flat_map f u) (flat_map f v)
  SameCurve-flat_map f u v odd (inl r) = inl (Rotation-flat_map f u v r)
  SameCurve-flat_map f u v odd (inr r) =
      inr (subst (λ (z : List ℤ). IsRotation z (flat_map f v)) (flat_map-inverse_word f u odd)
      (Rotation-flat_map f (inverse_word u) v r))

  -- ---- the laws

  pub substitution_laws : SubstitutionLaws
  substitution_laws = record {
    back = flat_map-inverse_word;
    reduced_before = reduce-flat_map_reduce;
    compose = λ f g w odd_f odd_g. flat_map-after f g w;
    odd = IsOdd-after;
    none = flat_map-identity;
    agree = flat_map-same_at;
    cyclic = cyclic_reduce-flat_map;
    curve = λ f u v odd same. laws.words.curves.reduced (flat_map f u) (flat_map f v)
        (SameCurve-flat_map f u v odd same);
  }
