-- Laws of the line that is printed.
use Rattle.std.proofs.Common.{◌≡◌, ◌<◌, ◌+◌, ◌++◌, ℕ, List, [], ◌∷◌, ◌≤◌, length, take, map, get_or, refl, sym, ◌∙◌, ap}
use Rattle.std.proofs.Common.{append_assoc, arith}
use Rattle.std.specs.Fmt.{decimal}
use Rattle.std.specs.List.{join_with_byte}
use Rattle.std.proofs.lemmas.List.{nil_from_length, take_more, map-append, length-map, length-take}
use Rattle.flipper_cli.specs.Line.{spaced_numbers}

-- one piece more
join_with_byte_push : (c : ℕ) (pieces : List (List ℕ)) (piece : List ℕ) → 0 < length pieces
    → join_with_byte c (pieces ++ piece ∷ []) ≡ join_with_byte c pieces ++ (c ∷ piece)
join_with_byte_push c [] piece some = absurd (omega arith)
join_with_byte_push c (p ∷ []) piece some = refl
join_with_byte_push c (p ∷ q ∷ pieces) piece some =
    ap (λ (z : List ℕ). p ++ (c ∷ z)) (join_with_byte_push c (q ∷ pieces) piece (omega arith))
    ∙ sym (append_assoc p (c ∷ join_with_byte c (q ∷ pieces)) (c ∷ piece))

-- the first k numbers, as they stand on the line
abbrev pub spaced : List ℕ → ℕ → List ℕ
spaced ns k = spaced_numbers (take k ns)

decimals_more : (ns : List ℕ) (k : ℕ) → k < length ns
    → map decimal (take (k + 1) ns) ≡ map decimal (take k ns) ++ decimal (get_or ns k 0) ∷ []
decimals_more ns k inside =
    ap (map decimal) (take_more ns k 0 inside) ∙ map-append decimal (take k ns) (get_or ns k 0 ∷ [])

length-decimals : (ns : List ℕ) (k : ℕ) → k < length ns → length (map decimal (take k ns)) ≡ k
length-decimals ns k inside = simp (length-map, length-take) (omega arith)

spaced-first : (ns : List ℕ) (k : ℕ) → k < length ns → k ≤ 0
    → spaced ns (k + 1) ≡ spaced ns k ++ decimal (get_or ns k 0)
spaced-first ns k inside first =
    let none = nil_from_length (map decimal (take k ns)) (length-decimals ns k inside ∙ omega arith) in
    ap (join_with_byte 32) (decimals_more ns k inside)
    ∙ ap (λ (z : List (List ℕ)). join_with_byte 32 (z ++ decimal (get_or ns k 0) ∷ [])) none
    ∙ sym (ap (λ (z : List (List ℕ)). join_with_byte 32 z ++ decimal (get_or ns k 0)) none)

spaced-more : (ns : List ℕ) (k : ℕ) → k < length ns → 0 < k
    → spaced ns (k + 1) ≡ (spaced ns k ++ 32 ∷ []) ++ decimal (get_or ns k 0)
spaced-more ns k inside later =
    ap (join_with_byte 32) (decimals_more ns k inside)
    ∙ (join_with_byte_push 32 (map decimal (take k ns)) (decimal (get_or ns k 0))
    (omega (arith, length-decimals ns k inside))
    ∙ sym (append_assoc (spaced ns k) (32 ∷ []) (decimal (get_or ns k 0))))

-- a text that is written on behind `start`: the next number, with a space before it unless it is the
-- first
pub spaced_from_first : (ns : List ℕ) (k : ℕ) (start before line : List ℕ) → k < length ns → k ≤ 0
    → before ≡ start ++ spaced ns k → line ≡ before ++ decimal (get_or ns k 0) → line ≡ start ++ spaced ns (k + 1)
spaced_from_first ns k start before line inside first so_far written =
    written
    ∙ ap (λ (z : List ℕ). z ++ decimal (get_or ns k 0)) so_far
    ∙ append_assoc start (spaced ns k) (decimal (get_or ns k 0))
    ∙ ap (λ (z : List ℕ). start ++ z) (sym (spaced-first ns k inside first))

pub spaced_from_more : (ns : List ℕ) (k : ℕ) (start before space line : List ℕ) → k < length ns → 0 < k
    → before ≡ start ++ spaced ns k → space ≡ before ++ 32 ∷ [] → line ≡ space ++ decimal (get_or ns k 0)
    → line ≡ start ++ spaced ns (k + 1)
spaced_from_more ns k start before space line inside later so_far parted written =
    written
    ∙ ap (λ (z : List ℕ). z ++ decimal (get_or ns k 0))
    (parted ∙ ap (λ (z : List ℕ). z ++ 32 ∷ []) so_far ∙ append_assoc start (spaced ns k) (32 ∷ []))
    ∙ append_assoc start (spaced ns k ++ 32 ∷ []) (decimal (get_or ns k 0))
    ∙ ap (λ (z : List ℕ). start ++ z) (sym (spaced-more ns k inside later))
