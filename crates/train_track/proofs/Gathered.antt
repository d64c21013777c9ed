-- Lists that a loop gathers, label by label.
use Rattle.std.proofs.Common.{ℕ, ℤ, List, [], ◌∷◌, ◌++◌, ◌≡◌, ◌+◌, sym, ◌∙◌, ap, map, arith, Bool, true, false}
use Rattle.std.proofs.Common.{cond}
use Rattle.std.specs.List.{filter, flat_map, range_with_len}
use Rattle.std.proofs.lemmas.List.{map-append, append-nil}
use Rattle.std.proofs.lemmas.Grind.{flat_map-append}
use Rattle.std.proofs.lemmas.List.FromFn.{map-range_with_len_more, filter_of_map_range_with_len_more}

-- what the label at k gives, behind what those before it gave
pub gathered_more : {X Y : Type 0} (h : X → Y) (f : ℤ → List X) (g : ℕ → ℤ) (k : ℕ) (x : ℤ) (ys new : List Y)
    → ys ≡ map h (flat_map f (map g (range_with_len 0 k))) → x ≡ g k → new ≡ ys ++ map h (f x)
    → new ≡ map h (flat_map f (map g (range_with_len 0 (k + 1))))
gathered_more {X} {Y} h f g k x ys new so_far is_x is_new =
    is_new
    ∙ ap (λ (zs : List Y). zs ++ map h (f x)) so_far
    ∙ sym (map-append h (flat_map f (map g (range_with_len 0 k))) (f x))
    ∙ ap (λ (zs : List X). map h (flat_map f (map g (range_with_len 0 k)) ++ zs)) (sym (append-nil (f x)))
    ∙ ap (map h) (sym (flat_map-append f (map g (range_with_len 0 k)) (x ∷ [])))
    ∙ ap (λ (y : ℤ). map h (flat_map f (map g (range_with_len 0 k) ++ (y ∷ [])))) is_x
    ∙ ap (λ (zs : List ℤ). map h (flat_map f zs))
    (sym (map-range_with_len_more g 0 k k (let e : 0 + k ≡ k = omega arith in e)))

module _ {X : Type 0} (p : X → Bool) (g : ℕ → X) (k : ℕ) (x : X) (found new : List X) where
  pub kept_more : found ≡ filter p (map g (range_with_len 0 k)) → x ≡ g k → p x ≡ true → new ≡ found ++ (x ∷ [])
      → new ≡ filter p (map g (range_with_len 0 (k + 1)))
  kept_more so_far is_x passes is_new =
      is_new
      ∙ ap (λ (zs : List X). zs ++ (x ∷ [])) so_far
      ∙ ap (λ (y : X). filter p (map g (range_with_len 0 k)) ++ (y ∷ [])) is_x
      ∙ ap (λ (b : Bool). filter p (map g (range_with_len 0 k)) ++ cond b (g k ∷ []) [])
      (sym (ap p (sym is_x) ∙ passes))
      ∙ sym (filter_of_map_range_with_len_more p g 0 k k (let e : 0 + k ≡ k = omega arith in e))

  pub dropped_more : found ≡ filter p (map g (range_with_len 0 k)) → x ≡ g k → p x ≡ false → new ≡ found
      → new ≡ filter p (map g (range_with_len 0 (k + 1)))
  dropped_more so_far is_x fails is_new =
      is_new
      ∙ so_far
      ∙ sym (append-nil (filter p (map g (range_with_len 0 k))))
      ∙ ap (λ (b : Bool). filter p (map g (range_with_len 0 k)) ++ cond b (g k ∷ []) []) (sym (ap p (sym is_x) ∙ fails))
      ∙ sym (filter_of_map_range_with_len_more p g 0 k k (let e : 0 + k ≡ k = omega arith in e))
