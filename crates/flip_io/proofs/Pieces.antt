-- The bytes of a file, piece by piece.
use Rattle.std.proofs.Common.{◌≡◌, ◌≤◌, ◌<◌, ℕ, ◌+◌, ◌-◌, min, List, ◌++◌, Option, Some, None, Result, Ok, Err, length}
use Rattle.std.proofs.Common.{take, drop, sym, ◌∙◌, ap, ap₂, subst, refl, arith}
use Rattle.std.proofs.lemmas.List.{length-take, length-take-le, length-drop, length-append}
use Rattle.std.proofs.Math.Seq.{take-add}
use Rattle.std.proofs.lemmas.Grind.{common_steps}
use Rattle.flip_io.specs.Whole.{IsLonger}

-- an option that isn't `None` has a value
pub has_some : {A : Type 0} (o : Option A) → (o ≡ None → ⊥) → (a : A) × (o ≡ Some a)
has_some None empty = absurd (empty refl)
has_some (Some a) empty = (a, refl)

-- a result that is `Ok` is no error
pub not_err : {T E : Type 0} (t : T) (e : E) (r : Result T E) → r ≡ Ok t → r ≡ Err e → ⊥
not_err t e r h k = cc

-- one more piece of a file
pub next_piece : (bytes file buf : List ℕ) (at n : ℕ) → bytes ≡ take at file
    → take n buf ≡ take n (drop at file) → bytes ++ take n buf ≡ take (at + n) file
next_piece bytes file buf at n e h = ap (λ (z : List ℕ). z ++ take n buf) e
    ∙ ap (λ (z : List ℕ). take at file ++ z) h ∙ sym (take-add at n file)

-- a piece that isn't empty lies within the file
pub within_file : (file buf : List ℕ) (at n : ℕ) → n ≤ length buf → 0 < n
    → take n buf ≡ take n (drop at file) → at + n ≤ length file
within_file file buf at n room some h =
    let e : min n (length buf) ≡ min n (length file - at) =
    sym (length-take n buf) ∙ ap length h ∙ length-take n (drop at file)
    ∙ ap (λ (k : ℕ). min n k) (length-drop at file) in
    omega arith

-- the bytes so far and one more piece are longer than the limit
pub piece-IsLonger : (here : Option (List ℕ)) (buf : List ℕ) (at n limit : ℕ) → (here ≡ None → ⊥)
    → ((file : List ℕ) → here ≡ Some file → take n buf ≡ take n (drop at file))
    → n ≤ length buf → at ≤ limit → limit - at < n → IsLonger here limit
piece-IsLonger here buf at n limit there piece room low high =
    let file = has_some here there in
    let some : 0 < n = omega arith in
    let inside = within_file file.0 buf at n room some (piece file.0 file.1) in
    (file.0, file.1, omega arith)

-- behind the end of the file
pub whole_file : (bytes file : List ℕ) (at : ℕ) → bytes ≡ take at file → length file ≤ at
    → bytes ≡ file
whole_file bytes file at e h = grind (arith, common_steps)

-- the bytes so far stay a prefix of the file as one more piece is added
pub next_bytes : (bytes new file buf : List ℕ) (at n : ℕ) → at ≡ length bytes → n ≤ length buf
    → new ≡ bytes ++ take n buf → bytes ≡ take (length bytes) file
    → take n buf ≡ take n (drop at file) → new ≡ take (length new) file
next_bytes bytes new file buf at n here room made got piece =
    let P : ℕ → Type 0 = λ k. bytes ≡ take k file in
    let longer : new ≡ take (at + n) file =
    made ∙ next_piece bytes file buf at n (subst P (sym here) got) piece in
    let size : length new ≡ at + n = ap length made ∙ length-append bytes (take n buf)
    ∙ ap₂ (λ (x y : ℕ). x + y) (sym here) (length-take-le n buf room) in
    longer ∙ ap (λ (k : ℕ). take k file) (sym size)
