-- Lists that rise by a number: parts of them, and two with the same elements.
use Rattle.std.proofs.Common.{ℕ, zero, suc, Bool, true, false, cond, List, [], ◌∷◌, ◌≡◌, ◌<◌, ◌+◌, sym, subst, arith}
use Rattle.std.proofs.Common.{map}
use Rattle.std.specs.Prelude.{slice_index}
use Rattle.std.specs.List.{All, filter}
use Rattle.std.specs.List.Sorted.{IsStrictlyIncreasing}
use Rattle.std.proofs.lemmas.List.Elements.{All-nil, All-cons, All-head, All-weaker, All-filter}

module _ {A : Type 0} (number : A → ℕ) where
  abbrev pub Rising : List A → Type 0
  Rising [] = Unit {0}
  Rising (x ∷ xs) = All (λ y. number x < number y) xs × Rising xs

  pub rising-filter : (p : A → Bool) (xs : List A) → Rising xs → Rising (filter p xs)
  rising-filter p [] h = tt
  rising-filter p (x ∷ xs) h = go (p x) (rising-filter p xs h.1)
    where
      go : (b : Bool) → Rising (filter p xs) → Rising (cond b (x ∷ filter p xs) (filter p xs))
      go true rest = (All-filter p (λ y. number x < number y) xs h.0, rest)
      go false rest = rest

  pub increasing : (xs : List A) → Rising xs → IsStrictlyIncreasing (map number xs)
  increasing [] h k b = absurd (omega arith)
  increasing (x ∷ []) h k b = absurd (omega arith)
  increasing (x ∷ (y ∷ xs)) h zero b = All-head (λ z. number x < number z) y xs h.0
  increasing (x ∷ (y ∷ xs)) h (suc k) b =
      let more : suc k + 1 ≡ suc (k + 1) = omega arith in
      subst (λ (j : ℕ). slice_index (map number (y ∷ xs)) k < slice_index (map number (x ∷ (y ∷ xs))) j) (sym more)
      (increasing (y ∷ xs) h.1 k (omega arith))

  pub rising : (xs : List A) → IsStrictlyIncreasing (map number xs) → Rising xs
  rising [] h = tt
  rising (x ∷ []) h = (All-nil (λ z. number x < number z), tt)
  rising (x ∷ (y ∷ xs)) h =
      let first : number x < number y = h 0 (omega arith) in
      let rest : Rising (y ∷ xs) = rising (y ∷ xs) later in (
        All-cons (λ z. number x < number z) y xs first
            (All-weaker (λ z. number y < number z) (λ z. number x < number z) (λ z b. omega arith) xs rest.0),
        rest,
      )
    where
      later : IsStrictlyIncreasing (map number (y ∷ xs))
      later k b =
          let more : suc k + 1 ≡ suc (k + 1) = omega arith in
          subst (λ (j : ℕ). slice_index (map number (y ∷ xs)) k < slice_index (map number (x ∷ (y ∷ xs))) j) more
          (h (suc k) (omega arith))
