-- The form of a generator with a twist along a curve.
use Rattle.std.specs.Prelude.{◌≡◌, ◌⊎◌, ℕ, ℤ, pos, negsuc, List, Option, Some, None, Result, Ok, Err}
use Rattle.std.specs.Prelude.{option_and_then, codes, if◌then◌else◌, MatchResult}
use Rattle.std.specs.Str.{bytes_eq}
use Rattle.serde_json.specs.Data.{Data}
use Rattle.serde_json.specs.Find.{as_str}
use Rattle.ideal_tri.specs.Vectors.{IsMulticurve}
use Rattle.tri_atlas.specs.Moves.{Move}
use Rattle.edge_coords.specs.Coordinates.{Coordinates, total_of}
use Rattle.edge_coords.specs.Refusals.{IsRefusedFor}
use Rattle.edge_coords.specs.declared.coords.CoordsError.TheVariants.{WrongLength as WrongNumbers}
use Rattle.edge_coords.specs.declared.coords.CoordsError.TheVariants.{OddTriangle as Odd}
use Rattle.edge_coords.specs.declared.coords.CoordsError.TheVariants.{LongSide as Long}
use Rattle.surface_lib.specs.Json.{all_read, list_in, whole_in}
use Rattle.surface_lib.specs.Readings.{if_ok, read_at}
use Rattle.surface_lib.specs.Twists.{TwistRelation}
use Rattle.surface_lib.specs.declared.twister.Hand.{Hand}
use Rattle.surface_lib.specs.declared.twister.Hand.TheVariants.{Plus, Minus}
use Rattle.surface_lib.specs.declared.twister.TwistError.TheVariants as error
use Rattle.surface_lib.specs.declared.surface_error.Key.TheVariants.{Twist as TwistKey}
use Rattle.surface_lib.specs.declared.surface_error.Key.TheVariants.{Hand as HandKey}
use Rattle.surface_lib.specs.declared.surface_error.GeneratorFault.{GeneratorFault}
use Rattle.surface_lib.specs.declared.surface_error.GeneratorFault.TheVariants.{WrongLength}
use Rattle.surface_lib.specs.declared.surface_error.GeneratorFault.TheVariants.{OddTriangle}
use Rattle.surface_lib.specs.declared.surface_error.GeneratorFault.TheVariants.{LongSide}
use Rattle.surface_lib.specs.declared.surface_error.GeneratorFault.TheVariants.{TotalOver}
use Rattle.surface_lib.specs.declared.surface_error.GeneratorFault.TheVariants.{NotOneCurve}
use Rattle.surface_lib.specs.declared.surface_error.GeneratorFault.TheVariants.{Peripheral, Stuck}

-- ---- vectors

abbrev pub natural_of : ℤ → Option ℕ
natural_of (pos n) = Some n
natural_of (negsuc n) = None

-- a whole number from 0 to 2^31 - 1
abbrev pub count_in : Data → Option ℕ
count_in d = option_and_then natural_of (whole_in d)

abbrev pub counts_in : Data → Option (List ℕ)
counts_in d = option_and_then (all_read count_in) (list_in d)

-- ---- hands

-- the hand that a text names
abbrev pub hand_spelt : List ℕ → Option Hand
hand_spelt s =
    if bytes_eq s (codes "plus") then Some Plus
    else if bytes_eq s (codes "minus") then Some Minus else None

abbrev pub hand_in : Data → Option Hand
hand_in d = option_and_then hand_spelt (as_str d)

-- ---- the form with a twist

-- the vector of a curve, and the hand of the twist along it
pub record TwistForm : Type 0 where
  pub vector : List ℕ
  pub hand : Hand

abbrev pub twist_form : Data → Result TwistForm GeneratorFault
twist_form d =
    if_ok (read_at TwistKey (codes "twist") counts_in d) (λ vector.
    if_ok (read_at HandKey (codes "hand") hand_in d) (λ hand.
    Ok (record { vector = vector; hand = hand })))

-- why the vector is that of no multicurve
abbrev pub IsFaultOfVector : List (List ℤ) → List ℕ → GeneratorFault → Type 0
IsFaultOfVector base vector (WrongLength n) = IsRefusedFor base vector (WrongNumbers n)
IsFaultOfVector base vector (OddTriangle t) = IsRefusedFor base vector (Odd t)
IsFaultOfVector base vector (LongSide t) = IsRefusedFor base vector (Long t)
IsFaultOfVector base vector fault = ⊥

-- why there is no twist about a multicurve
abbrev pub IsFaultOfCurve : TwistRelation → List (List ℤ) → TwistForm → GeneratorFault → Type 0
IsFaultOfCurve twists base form (TotalOver n) =
    twists base form.vector form.hand (Err (error.TotalOver n))
IsFaultOfCurve twists base form NotOneCurve =
    twists base form.vector form.hand (Err error.NotOneCurve)
IsFaultOfCurve twists base form Peripheral = twists base form.vector form.hand (Err error.Peripheral)
IsFaultOfCurve twists base form (Stuck n) =
    (at : Coordinates) × twists base form.vector form.hand (Err (error.Stuck at))
    × (n ≡ total_of at.numbers)
IsFaultOfCurve twists base form fault = ⊥

-- the moves of the twist, or the first fault of its vector
abbrev pub IsTwistAlong : TwistRelation → List (List ℤ) → TwistForm
    → Result (List Move) GeneratorFault → Type 0
IsTwistAlong twists base form (Ok moves) =
    IsMulticurve base form.vector × twists base form.vector form.hand (Ok moves)
IsTwistAlong twists base form (Err fault) =
    IsFaultOfVector base form.vector fault
    ⊎ (IsMulticurve base form.vector × IsFaultOfCurve twists base form fault)

-- the generator with a twist that an object is, or its first fault
abbrev pub IsReadAsTwist : TwistRelation → List (List ℤ) → Data
    → Result (List Move) GeneratorFault → Type 0
IsReadAsTwist twists base d result =
    MatchResult (twist_form d) (λ form. IsTwistAlong twists base form result)
    (λ fault. result ≡ Err fault)
