-- A sink that takes a list piece by piece.
use Rattle.std.proofs.Common.{◌≡◌, ℕ, ◌+◌, ◌-◌, List, [], ◌++◌, Option, length, take, drop, sym, subst, ap, ◌∙◌}
use Rattle.std.proofs.Common.{append-nil, append_assoc}
use Rattle.std.proofs.lemmas.List.{length-drop}
use Rattle.std.proofs.Math.Seq.{take-add, take-length}
use Rattle.flip_io.specs.Taken.{Took}

-- a sink that was left alone took nothing
pub took_nothing : (a : Option (List ℕ)) → Took a a []
took_nothing a = record { added = λ all e. (all, e, sym (append-nil all)) }

-- a sink that took some bytes and then others took them all
pub took_more : (a b c : Option (List ℕ)) (xs ys : List ℕ) → Took a b xs → Took b c ys
    → Took a c (xs ++ ys)
took_more a b c xs ys t u = record {
  added = λ all e.
      let second = u.added all e in
      let first = t.added second.0 second.1 in
      let joined = ap (λ (z : List ℕ). z ++ ys) first.2 ∙ append_assoc first.0 xs ys in
      (first.0, first.1, second.2 ∙ joined);
}

-- the first i, and then the n behind them
pub took_next : (a b c : Option (List ℕ)) (xs : List ℕ) (i n : ℕ) → Took a b (take i xs)
    → Took b c (take n (drop i xs)) → Took a c (take (i + n) xs)
took_next a b c xs i n t u = let P : List ℕ → Type 0 = λ z. Took a c z in
    subst P (sym (take-add i n xs)) (took_more a b c _ _ t u)

-- taking the length of what is left takes all that is left
pub take-drop : (xs : List ℕ) (i : ℕ) → take (length xs - i) (drop i xs) ≡ drop i xs
take-drop xs i = let P : ℕ → Type 0 = λ k. take k (drop i xs) ≡ drop i xs in
    subst P (length-drop i xs) (take-length (drop i xs))

-- the same as `took_next`, with the rest as the code slices it
pub took_rest : (a b c : Option (List ℕ)) (xs : List ℕ) (i n : ℕ) → Took a b (take i xs)
    → Took b c (take n (take (length xs - i) (drop i xs))) → Took a c (take (i + n) xs)
took_rest a b c xs i n t u = let P : List ℕ → Type 0 = λ z. Took b c (take n z) in
    took_next a b c xs i n t (subst P (take-drop xs i) u)
