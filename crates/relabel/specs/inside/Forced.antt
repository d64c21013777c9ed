-- What is known, while it is sought, of a relabelling that takes one label to a given one.
use Rattle.std.specs.Prelude.{◌≡◌, ◌<◌, ℕ, ℤ, pos, List, slice_index_or, Bool, true, false}
use Rattle.ideal_tri.specs.Labels.{edge_of}
use Rattle.ideal_tri.specs.Triangulations.{IsLabel, edge_count, next}
use Rattle.ideal_tri.specs.Relabellings.{image_of, IsRelabelling}

-- the image of the label e is known
abbrev pub IsKnown : List Bool → ℕ → Type 0
IsKnown known e = slice_index_or known e false ≡ true

-- x has a known image, and the label after it has none
pub record IsOpen (triples : List (List ℤ)) (known : List Bool) (x : ℤ) : Type 0 where
  pub here : IsKnown known (edge_of x)
  pub after : slice_index_or known (edge_of (next triples x)) false ≡ false

-- where a label has a known image, the label after it has one
abbrev pub IsClosed : List (List ℤ) → List Bool → Type 0
IsClosed triples known =
    (x : ℤ) → IsLabel triples x → IsKnown known (edge_of x)
    → IsKnown known (edge_of (next triples x))

-- all relabellings that take x to y begin with these images
abbrev pub IsForcedList : List (List ℤ) → List (List ℤ) → ℤ → ℤ → List ℤ → Type 0
IsForcedList from to x y images =
    (others : List ℤ) → IsRelabelling from to others → image_of others x ≡ y → (e : ℕ)
    → e < edge_count from
    → slice_index_or others e (pos 0) ≡ slice_index_or images e (pos 0)
