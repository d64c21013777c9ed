-- The maps of flips and backward flips: they respect inverses, and undo each other.
--
-- Let e be the diagonal and a, b, c, d the other sides, (e,a,b) and (~e,c,d) the triangles. The flip moves b and d to
-- the other triangles, so a step across b now begins with a step across e, and a step across d with one across ~e:
-- write u(x) for what is put before x, so u(b) = e, u(d) = ~e and u(x) is empty otherwise. The image of x is u(x) x
-- u(~x)^-1, and that of ~x is u(~x) ~x u(x)^-1, its inverse.
--
-- The backward flip puts u(x)^-1 before x. Both maps keep e, which is none of b, d, ~b and ~d; so they keep u(x), and
-- one after the other takes x to u(x) u(x)^-1 x u(~x) u(~x)^-1, which reduces to x.
use Rattle.std.proofs.Common.{ℤ, Bool, List, [], ◌∷◌, ◌++◌, ◌≡◌, ◌≢◌, inl, inr, refl, sym, ◌∙◌, ap, append_assoc}
use Rattle.std.proofs.Common.{if◌then◌else◌}
use Rattle.std.specs.Ordering.{int_eq}
use Rattle.std.specs.List.{flat_map}
use Rattle.std.proofs.lemmas.List.{append-nil}
use Rattle.std.proofs.lemmas.List.Concat.{flat_map-append}
use Rattle.ideal_tri.specs.Labels.{inverse}
use Rattle.ideal_tri.specs.Words.{inverse_word, reduce}
use Rattle.tri_atlas.specs.Maps.{IsOdd, after, step_before, flip_image}
use Rattle.tri_atlas.proofs.LowerLaws.{LowerLaws}
use Rattle.tri_atlas.proofs.Substitutions.{flat_map-inverse_word}

-- x is the side b, the side d, or neither
pub data Side (b d x : ℤ) : Type 0 where
  at_b : x ≡ b → Side b d x
  at_d : x ≢ b → x ≡ d → Side b d x
  elsewhere : x ≢ b → x ≢ d → Side b d x

-- the flipped edge is none of the sides b and d
pub record IsApart (e b d : ℤ) : Type 0 where
  pub from_b : e ≢ b
  pub from_d : e ≢ d
  pub back_from_b : inverse e ≢ b
  pub back_from_d : inverse e ≢ d

module _ (laws : LowerLaws) where
  -- ---- what a flip puts before a letter

  pub step_before-b : (e b d x : ℤ) → x ≡ b → step_before e b d x ≡ e ∷ []
  step_before-b e b d x h =
      ap (λ (t : Bool). if t then e ∷ [] else if int_eq x d then inverse e ∷ [] else []) (laws.labels.test_same x b h)

  pub step_before-d : (e b d x : ℤ) → x ≢ b → x ≡ d → step_before e b d x ≡ inverse e ∷ []
  step_before-d e b d x n h =
      ap (λ (t : Bool). if t then e ∷ [] else if int_eq x d then inverse e ∷ [] else []) (laws.labels.test_other x b n)
      ∙ ap (λ (t : Bool). if t then inverse e ∷ [] else []) (laws.labels.test_same x d h)

  pub step_before-other : (e b d x : ℤ) → x ≢ b → x ≢ d → step_before e b d x ≡ []
  step_before-other e b d x n m =
      ap (λ (t : Bool). if t then e ∷ [] else if int_eq x d then inverse e ∷ [] else []) (laws.labels.test_other x b n)
      ∙ ap (λ (t : Bool). if t then inverse e ∷ [] else []) (laws.labels.test_other x d m)

  pub side_of_flip : (b d x : ℤ) → Side b d x
  side_of_flip b d x =
      elim (laws.labels.same_or_not x b) [
        | inl h ↦ at_b h
        | inr n ↦
            elim (laws.labels.same_or_not x d) [
              | inl h ↦ at_d n h
              | inr m ↦ elsewhere n m
            ]
      ]

  -- the backward flip puts the inverse before each letter
  pub step_before-inverse : (e b d x : ℤ) → step_before (inverse e) b d x ≡ inverse_word (step_before e b d x)
  step_before-inverse e b d x = go (side_of_flip b d x)
    where
      go : Side b d x → step_before (inverse e) b d x ≡ inverse_word (step_before e b d x)
      go (at_b h) = step_before-b (inverse e) b d x h ∙ ap inverse_word (sym (step_before-b e b d x h))
      go (at_d n h) = step_before-d (inverse e) b d x n h ∙ ap inverse_word (sym (step_before-d e b d x n h))
      go (elsewhere n m) =
          step_before-other (inverse e) b d x n m ∙ ap inverse_word (sym (step_before-other e b d x n m))

  -- ---- the map of a flip respects inverses

  pub flip_image-odd : (e b d : ℤ) → IsOdd (flip_image e b d)
  flip_image-odd e b d x =
      ap (λ (z : ℤ). there ++ (inverse x ∷ inverse_word (step_before e b d z))) (laws.labels.twice x)
      ∙ ap (λ (z : List ℤ). z ++ (inverse x ∷ inverse_word here)) (sym (laws.words.inverses.twice there))
      ∙ sym (append_assoc (inverse_word (inverse_word there)) (inverse x ∷ []) (inverse_word here))
      ∙ sym (laws.words.inverses.append here (x ∷ inverse_word there))
    where
      here : List ℤ
      here = step_before e b d x

      there : List ℤ
      there = step_before e b d (inverse x)

  -- ---- a flip and the backward flip undo each other

  pub IsApart-inverse : (e b d : ℤ) → IsApart e b d → IsApart (inverse e) b d
  IsApart-inverse e b d h = record {
    from_b = h.back_from_b;
    from_d = h.back_from_d;
    back_from_b = λ k. h.from_b (sym (laws.labels.twice e) ∙ k);
    back_from_d = λ k. h.from_d (sym (laws.labels.twice e) ∙ k);
  }

  -- the map keeps the flipped edge
  flip_image-stays : (e b d x : ℤ) → x ≢ b → x ≢ d → inverse x ≢ b → inverse x ≢ d → flip_image e b d x ≡ x ∷ []
  flip_image-stays e b d x n m p q =
      ap (λ (z : List ℤ). z ++ (x ∷ inverse_word (step_before e b d (inverse x)))) (step_before-other e b d x n m)
      ∙ ap (λ (z : List ℤ). x ∷ inverse_word z) (step_before-other e b d (inverse x) p q)

  flip_image-edge : (e b d : ℤ) → IsApart e b d → flip_image (inverse e) b d e ≡ e ∷ []
  flip_image-edge e b d h = flip_image-stays (inverse e) b d e h.from_b h.from_d h.back_from_b h.back_from_d

  flip_image-edge_inverse : (e b d : ℤ) → IsApart e b d → flip_image (inverse e) b d (inverse e) ≡ inverse e ∷ []
  flip_image-edge_inverse e b d h = flip_image-odd (inverse e) b d e ∙ ap inverse_word (flip_image-edge e b d h)

  -- and so what it put before a letter
  flat_map-step_before : (e b d x : ℤ) → IsApart e b d
      → flat_map (flip_image (inverse e) b d) (step_before e b d x) ≡ step_before e b d x
  flat_map-step_before e b d x h = go (side_of_flip b d x)
    where
      through : (w : List ℤ) → step_before e b d x ≡ w → flat_map (flip_image (inverse e) b d) w ≡ w
          → flat_map (flip_image (inverse e) b d) (step_before e b d x) ≡ step_before e b d x
      through w is kept = ap (flat_map (flip_image (inverse e) b d)) is ∙ kept ∙ sym is

      go : Side b d x → flat_map (flip_image (inverse e) b d) (step_before e b d x) ≡ step_before e b d x
      go (at_b k) =
          through (e ∷ []) (step_before-b e b d x k)
          (append-nil (flip_image (inverse e) b d e) ∙ flip_image-edge e b d h)
      go (at_d n k) =
          through (inverse e ∷ []) (step_before-d e b d x n k)
          (append-nil (flip_image (inverse e) b d (inverse e)) ∙ flip_image-edge_inverse e b d h)
      go (elsewhere n m) = through [] (step_before-other e b d x n m) refl

  pub flip_image-undone : (e b d x : ℤ) → IsApart e b d
      → after (flip_image (inverse e) b d) (flip_image e b d) x ≡ x ∷ []
  flip_image-undone e b d x h =
      ap reduce
      (flat_map-append back here (x ∷ inverse_word there)
      ∙ ap (λ (z : List ℤ). z ++ (back x ++ flat_map back (inverse_word there))) (flat_map-step_before e b d x h)
      ∙ ap (λ (z : List ℤ). here ++ (back x ++ z)) there_back
      ∙ ap (λ (z : List ℤ). here ++ (z ++ inverse_word there)) back_is
      ∙ ap (λ (z : List ℤ). here ++ z) (append_assoc (inverse_word here) (x ∷ there) (inverse_word there)))
      ∙ laws.words.reduction.cancel [] here (x ∷ (there ++ inverse_word there))
      ∙ ap (λ (z : List ℤ). reduce (x ∷ (there ++ z))) (sym (append-nil (inverse_word there)))
      ∙ laws.words.reduction.cancel (x ∷ []) there []
    where
      back : ℤ → List ℤ
      back y = flip_image (inverse e) b d y

      here : List ℤ
      here = step_before e b d x

      there : List ℤ
      there = step_before e b d (inverse x)

      there_back : flat_map (flip_image (inverse e) b d) (inverse_word (step_before e b d (inverse x)))
          ≡ inverse_word (step_before e b d (inverse x))
      there_back =
          flat_map-inverse_word laws (flip_image (inverse e) b d) (step_before e b d (inverse x))
          (flip_image-odd (inverse e) b d)
          ∙ ap inverse_word (flat_map-step_before e b d (inverse x) h)

      back_is : flip_image (inverse e) b d x ≡ inverse_word (step_before e b d x) ++ (x ∷ step_before e b d (inverse x))
      back_is =
          ap (λ (z : List ℤ). z ++ (x ∷ inverse_word (step_before (inverse e) b d (inverse x))))
          (step_before-inverse e b d x)
          ∙ ap (λ (z : List ℤ). inverse_word (step_before e b d x) ++ (x ∷ inverse_word z))
          (step_before-inverse e b d (inverse x))
          ∙ ap (λ (z : List ℤ). inverse_word (step_before e b d x) ++ (x ∷ z))
          (laws.words.inverses.twice (step_before e b d (inverse x)))
