-- The form of a generator with flips and a relabelling.
use Rattle.std.specs.Prelude.{◌≡◌, ◌+◌, ℕ, ℤ, pos, negsuc, List, [], ◌∷◌, ◌++◌, length, Bool, false}
use Rattle.std.specs.Prelude.{not, nat_lt, ◌==◌, Result, Ok, Err, MatchResult, codes}
use Rattle.std.specs.Prelude.{if◌then◌else◌}
use Rattle.serde_json.specs.Data.{Data}
use Rattle.ideal_tri.specs.Labels.{inverse}
use Rattle.ideal_tri.specs.Triangulations.{edge_count, triangle_of}
use Rattle.ideal_tri.specs.Flips.{flipped}
use Rattle.ideal_tri.specs.Relabellings.{IsRelabelling}
use Rattle.tri_atlas.specs.Moves.{Move, relabel}
use Rattle.tri_atlas.specs.Arena.{flip_of}
use Rattle.relabel.specs.Refusals.{IsRefusedFor}
use Rattle.relabel.specs.declared.relabelling.RelabelError.TheVariants.{WrongLength as WrongImages}
use Rattle.relabel.specs.declared.relabelling.RelabelError.TheVariants.{NotLabel as NoLabel}
use Rattle.relabel.specs.declared.relabelling.RelabelError.TheVariants.{NotBijective as NoBijection}
use Rattle.relabel.specs.declared.relabelling.RelabelError.TheVariants.{BreaksTriangle as Breaks}
use Rattle.surface_lib.specs.Json.{numbers_in}
use Rattle.surface_lib.specs.Readings.{if_ok, read_at}
use Rattle.surface_lib.specs.declared.surface_error.Key.TheVariants.{Flips, Relabel}
use Rattle.surface_lib.specs.declared.surface_error.GeneratorFault.{GeneratorFault}
use Rattle.surface_lib.specs.declared.surface_error.GeneratorFault.TheVariants.{TooManyFlips}
use Rattle.surface_lib.specs.declared.surface_error.GeneratorFault.TheVariants.{NotEdge}
use Rattle.surface_lib.specs.declared.surface_error.GeneratorFault.TheVariants.{NotFlippable}
use Rattle.surface_lib.specs.declared.surface_error.GeneratorFault.TheVariants.{WrongLength}
use Rattle.surface_lib.specs.declared.surface_error.GeneratorFault.TheVariants.{NotLabel}
use Rattle.surface_lib.specs.declared.surface_error.GeneratorFault.TheVariants.{NotBijective}
use Rattle.surface_lib.specs.declared.surface_error.GeneratorFault.TheVariants.{BreaksTriangle}

-- ---- flips

-- the most flips of a generator
abbrev pub flips_most : ℕ
flips_most = 4096

-- what flips do, one after another, and the triangulation that they lead to
pub record Flipped : Type 0 where
  pub moves : List Move
  pub reached : List (List ℤ)

-- the number is that of an edge
abbrev pub is_edge : List (List ℤ) → ℤ → Bool
is_edge triangles (pos n) = nat_lt n (edge_count triangles)
is_edge triangles (negsuc n) = false

-- the same triangle is on both sides of the edge
abbrev pub is_folded : List (List ℤ) → ℤ → Bool
is_folded triangles e = triangle_of triangles e == triangle_of triangles (inverse e)

-- the flip of an edge, which is the flip with this index
abbrev pub flip_at : List (List ℤ) → ℕ → ℤ → Result Move GeneratorFault
flip_at triangles j e =
    if not (is_edge triangles e) then Err (NotEdge j)
    else if is_folded triangles e then Err (NotFlippable j) else Ok (flip_of triangles e)

-- the flips of edges, of which the first has the index j
abbrev pub flips_from : List (List ℤ) → ℕ → List ℤ → Result Flipped GeneratorFault
flips_from triangles j [] = Ok (record { moves = []; reached = triangles })
flips_from triangles j (e ∷ edges) =
    if_ok (flip_at triangles j e) (λ m.
    if_ok (flips_from (flipped triangles e) (j + 1) edges) (λ f.
    Ok (record { moves = m ∷ f.moves; reached = f.reached })))

abbrev pub flips_in : List (List ℤ) → List ℤ → Result Flipped GeneratorFault
flips_in base edges =
    if nat_lt flips_most (length edges) then Err (TooManyFlips (length edges))
    else flips_from base 0 edges

-- ---- the relabelling behind the flips

-- why the images are those of no relabelling
abbrev pub IsFaultOfImages : List (List ℤ) → List (List ℤ) → List ℤ → GeneratorFault → Type 0
IsFaultOfImages from to images (WrongLength n) = IsRefusedFor from to images (WrongImages n)
IsFaultOfImages from to images (NotLabel i) = IsRefusedFor from to images (NoLabel i)
IsFaultOfImages from to images (NotBijective e) = IsRefusedFor from to images (NoBijection e)
IsFaultOfImages from to images (BreaksTriangle t) = IsRefusedFor from to images (Breaks t)
IsFaultOfImages from to images fault = ⊥

-- the flips and the relabelling of what they lead to onto the base; or why there is none
abbrev pub IsClosedBy : List (List ℤ) → List ℤ → Flipped → Result (List Move) GeneratorFault
    → Type 0
IsClosedBy base images f (Ok moves) =
    IsRelabelling f.reached base images × (moves ≡ f.moves ++ relabel images ∷ [])
IsClosedBy base images f (Err fault) = IsFaultOfImages f.reached base images fault

-- ---- the form with flips

pub record FlipsForm : Type 0 where
  pub edges : List ℤ
  pub images : List ℤ

abbrev pub flips_form : Data → Result FlipsForm GeneratorFault
flips_form d =
    if_ok (read_at Flips (codes "flips") numbers_in d) (λ edges.
    if_ok (read_at Relabel (codes "relabel") numbers_in d) (λ images.
    Ok (record { edges = edges; images = images })))

-- the generator with flips that an object is, or its first fault
abbrev pub IsReadAsFlips : List (List ℤ) → Data → Result (List Move) GeneratorFault → Type 0
IsReadAsFlips base d result =
    MatchResult (flips_form d)
    (λ form. MatchResult (flips_in base form.edges) (λ f. IsClosedBy base form.images f result)
    (λ fault. result ≡ Err fault))
    (λ fault. result ≡ Err fault)
