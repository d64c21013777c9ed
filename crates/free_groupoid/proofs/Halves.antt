-- A reduced word conjugate to a letter has that letter in its middle, and the second half conjugates.
use Rattle.std.proofs.Common.{ℤ, List, [], ◌∷◌, ◌++◌, ◌≡◌, ◌+◌, ◌/◌, refl, sym, ◌∙◌, ap, subst}
use Rattle.std.proofs.Common.{append_assoc, arith, length, drop, length-append}
use Rattle.std.proofs.lemmas.List.{append-nil, drop_at}
use Rattle.ideal_tri.specs.Words.{inverse_word, IsReduced, reduce, cyclic_reduce, IsRotation}
use Rattle.free_groupoid.specs.inside.InnerPaths.{second_half}
use Rattle.free_groupoid.proofs.Known.{Known}
use Rattle.free_groupoid.proofs.Names.{+0, +1, -1, by_name}
use Rattle.free_groupoid.proofs.Carrying.{Carries, carries-rotation}

-- a letter alone has no other rotation
rotation_of_one : (x : ℤ) (v : List ℤ) → IsRotation (x ∷ []) v → v ≡ x ∷ []
rotation_of_one x v ([], b, e, f) = f ∙ append-nil b ∙ sym e
rotation_of_one x v ((y ∷ []), b, e, f) = cc
rotation_of_one x v ((y ∷ (z ∷ a)), b, e, f) = absurd (cc)

module _ (known : Known) where
  -- the letters behind the middle of p x p⁻¹
  second_half-middle : (x : ℤ) (p : List ℤ) → second_half (p ++ (x ∷ inverse_word p)) ≡ inverse_word p
  second_half-middle x p =
      ap (λ (w : List ℤ). drop ((length (p ++ (x ∷ inverse_word p)) + 1) / 2) w)
      (sym (append_assoc p (x ∷ []) (inverse_word p)))
      ∙ drop_at (p ++ (x ∷ [])) (inverse_word p) ((length (p ++ (x ∷ inverse_word p)) + 1) / 2)
      (omega (arith, length-append p (x ∷ []), length-append p (x ∷ inverse_word p), known.words.inverses.as_long p))

  -- the shape of a conjugate of a letter
  conjugate_shape : (x : ℤ) (q w : List ℤ) → IsReduced w → Carries q (x ∷ []) w
      → (p : List ℤ) × (w ≡ p ++ (x ∷ inverse_word p))
  conjugate_shape x q w reduced carries =
      let (p, shape) = known.words.cyclic.shape w in
      let alone : cyclic_reduce (x ∷ []) ≡ x ∷ [] = known.words.cyclic.fixed (x ∷ []) (known.labels.apart x, tt) in
      let core : cyclic_reduce w ≡ x ∷ [] =
      rotation_of_one x (cyclic_reduce w)
      (subst (λ (z : List ℤ). IsRotation z (cyclic_reduce w)) alone (carries-rotation known q (x ∷ []) w carries)) in
      (p, sym (known.words.reduction.fixed w reduced) ∙ shape ∙ ap (λ (z : List ℤ). p ++ (z ++ inverse_word p)) core)

  pub second_half_carries : (x : ℤ) (q w : List ℤ) → IsReduced w → Carries q (x ∷ []) w
      → Carries (second_half w) (x ∷ []) w
  second_half_carries x q w reduced carries =
      let (p, shape) = conjugate_shape x q w reduced carries in
      let half : second_half w ≡ inverse_word p = ap second_half shape ∙ second_half-middle x p in
      ap (λ (z : List ℤ). reduce (x ∷ z)) half
      ∙ by_name known ((x ∷ []) ∷ p ∷ []) (+0 ∷ -1 ∷ []) (-1 ∷ +1 ∷ +0 ∷ -1 ∷ []) refl
      ∙ ap (λ (z : List ℤ). reduce (inverse_word p ++ z)) (sym shape)
      ∙ ap (λ (z : List ℤ). reduce (z ++ w)) (sym half)
