-- The path of the Dehn twist about a curve.
use Rattle.std.specs.Prelude.{◌≡◌, ◌<◌, ◌++◌, ℕ, ℤ, pos, List, ◌∷◌, map, sum, Result, Ok, Err}
use Rattle.std.specs.Prelude.{if◌then◌else◌}
use Rattle.std.specs.List.{range_with_len}
use Rattle.std.specs.Ordering.{int_eq}
use Rattle.ideal_tri.specs.Labels.{edge_of, inverse}
use Rattle.ideal_tri.specs.PeripheralParts.{HasFreeCorners}
use Rattle.ideal_tri.specs.Triangulations.{edge_count}
use Rattle.tri_atlas.specs.Arena.{flip_of}
use Rattle.tri_atlas.specs.Moves.{Move, relabel, back_along}
use Rattle.edge_coords.specs.Coordinates.{total_of}
use Rattle.curve_shorten.specs.Descents.{IsDescent}
use Rattle.tri_atlas.specs.FlipPaths.{flips_along}
use Rattle.curve_shorten.specs.ShortCurves.{IsOneCurve, IsSmall, total_limit}
use Rattle.curve_shorten.specs.Twists.{IsAnnulus}
use Rattle.surface_lib.specs.declared.twister.Hand.{Hand}
use Rattle.surface_lib.specs.declared.twister.Hand.TheVariants.{Plus, Minus}
use Rattle.surface_lib.specs.declared.twister.TwistError.{TwistError}
use Rattle.surface_lib.specs.declared.twister.TwistError.TheVariants.{TotalOver, NotOneCurve, Peripheral, Stuck, Memory}

-- ---- the steps

-- q goes to p, and p to ~q; all other edges stay
abbrev pub exchanged : ℤ → ℤ → ℤ → ℤ
exchanged p q x =
    if int_eq x q then p
    else (if int_eq x (inverse q) then inverse p
    else (if int_eq x p then inverse q else (if int_eq x (inverse p) then q else x)))

-- the images of the labels 0, 1, ..
abbrev pub exchange_images : List (List ℤ) → ℤ → ℤ → List ℤ
exchange_images triples p q =
    map (λ e. exchanged p q (pos e)) (range_with_len 0 (edge_count triples))

-- the edges flipped by the descent of the curve, and where it ends at the total 2
pub record IsCompiledFrom (triples : List (List ℤ)) (w : List ℕ) (edges : List ℕ)
    (end : List (List ℤ)) (p q : ℤ) : Type 0 where
  pub numbers : List ℕ
  pub descent : IsDescent triples w edges end numbers
  pub two : sum numbers ≡ 2
  pub annulus : IsAnnulus end numbers p q

-- the twist of hand plus: the descent, the flip of the edge of q, the relabelling, and the descent
-- backwards
abbrev pub plus_moves : List (List ℤ) → List ℕ → List (List ℤ) → ℤ → ℤ → List Move
plus_moves triples edges end p q =
    flips_along triples edges
    ++ (flip_of end (pos (edge_of q)) ∷ (relabel (exchange_images end p q)
    ∷ back_along (flips_along triples edges)))

-- that of hand minus is the same path backwards
abbrev pub hand_moves : Hand → List Move → List Move
hand_moves Plus moves = moves
hand_moves Minus moves = back_along moves

-- ---- what comes of a curve and a hand

-- the curve passes the tests of a descent
pub record IsTwistable (triples : List (List ℤ)) (w : List ℕ) : Type 0 where
  pub small : IsSmall w
  pub one : IsOneCurve triples w
  pub free : HasFreeCorners triples w

-- the moves of the twist; or the first test that the curve fails
abbrev pub IsCompiled : List (List ℤ) → List ℕ → Hand → Result (List Move) TwistError → Type 0
IsCompiled triples w hand (Ok moves) =
    IsTwistable triples w
    × ((edges : List ℕ) × (end : List (List ℤ)) × (p : ℤ) × (q : ℤ)
    × IsCompiledFrom triples w edges end p q
    × (moves ≡ hand_moves hand (plus_moves triples edges end p q)))
IsCompiled triples w hand (Err (TotalOver total)) = (total ≡ total_of w) × (total_limit < total)
IsCompiled triples w hand (Err NotOneCurve) = IsSmall w × ¬ IsOneCurve triples w
IsCompiled triples w hand (Err Peripheral) =
    IsSmall w × IsOneCurve triples w × ¬ HasFreeCorners triples w
IsCompiled triples w hand (Err (Stuck at)) =
    IsTwistable triples w
    × ((edges : List ℕ) × (end : List (List ℤ)) × IsDescent triples w edges end at.numbers)
    × (2 < sum at.numbers)
IsCompiled triples w hand (Err Memory) = Unit {0}
