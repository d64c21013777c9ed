-- The fields of a `Relabelling` are those that its images give.
use Rattle.std.proofs.Common.{ℕ, ℤ, pos, List, ◌++◌, ◌≡◌, ◌≤◌, ◌-◌, sym, ◌∙◌, ap, arith, length}
use Rattle.std.proofs.Common.{take, drop, replicate}
use Rattle.std.proofs.lemmas.List.{length-take-le, take-append-drop}
use Rattle.ideal_tri.specs.declared.tri.TheConstants.{EDGES}
use Rattle.ideal_tri.specs.Relabellings.{IsBijection}

-- the slots that are not used
unfoldable pub spare_slots : ℕ → List ℤ
spare_slots n = replicate n (pos 0)

-- the fields hold `count` images, which are a bijection's, and nothing else
pub record IsLaidOut (count : ℕ) (images : List ℤ) : Type 0 where
  pub fits : count ≤ EDGES
  pub room : length images ≡ EDGES
  pub spare : drop count images ≡ spare_slots (EDGES - count)
  pub sound : IsBijection (take count images)

pub count_again : (count : ℕ) (images : List ℤ) → IsLaidOut count images
    → length (take count images) ≡ count
count_again count images h =
    let fits : count ≤ EDGES = h.fits in
    let room : length images ≡ EDGES = h.room in
    length-take-le count images (omega arith)

pub images_again : (count : ℕ) (images : List ℤ) → IsLaidOut count images
    → take count images ++ spare_slots (EDGES - length (take count images)) ≡ images
images_again count images h =
    ap (λ (n : ℕ). take count images ++ spare_slots (EDGES - n)) (count_again count images h)
    ∙ ap (λ (z : List ℤ). take count images ++ z) (sym h.spare)
    ∙ take-append-drop count images
