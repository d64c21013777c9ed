-- Each triangle of a triangulation has a side.
use Rattle.std.proofs.Common.{ℕ, ℤ, List, [], ◌∷◌, ◌≡◌, ◌<◌, arith, length, slice_index_or}
use Rattle.std.specs.List.{Contains}
use Rattle.std.proofs.lemmas.List.Elements.{All-get_or}
use Rattle.ideal_tri.specs.Triangulations.{IsLabel, triangle_of}
use Rattle.free_groupoid.proofs.Known.{Glued}
use Rattle.free_groupoid.proofs.Members.{member_here}

-- a side of the triangle n
pub record SideOf (triples : List (List ℤ)) (n : ℕ) : Type 0 where
  pub side : ℤ
  pub label : IsLabel triples side
  pub at : triangle_of triples side ≡ n

first_there : (t : List ℤ) → length t ≡ 3 → (x : ℤ) × Contains t x
first_there [] h = absurd (omega arith)
first_there (x ∷ t) h = (x, member_here x t)

pub side_of_triangle : (triples : List (List ℤ)) → Glued triples → (n : ℕ) → n < length triples → SideOf triples n
side_of_triangle triples glue n below =
    let (x, there) =
    first_there (slice_index_or triples n [])
    (All-get_or (λ t. length t ≡ 3) triples n [] below glue.triangulation.three_sides) in
    let found = glue.triangles.listed n x below there in
    record { side = x; label = found.0; at = found.1 }
