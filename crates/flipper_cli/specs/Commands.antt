-- The words of the command line, and where the surface of a command comes from.
use Rattle.std.specs.Prelude.{◌≡◌, ◌&&◌, ◌==◌, ℕ, List, [], ◌∷◌, Option, Some, None, Bool, true}
use Rattle.std.specs.Prelude.{not, map, String, string_bytes, codes, if◌then◌else◌}
use Rattle.std.specs.Option.{option_map}
use Rattle.std.specs.Str.{bytes_eq}
use Rattle.std.specs.declared.alloc.Global.{Global}
use Rattle.surface_lib.specs.TwistForms.{hand_spelt}
use Rattle.surface_lib.specs.declared.twister.Hand.{Hand}
use Rattle.verdict_plan.specs.declared.budget.Budget.{Budget}
use Rattle.flipper_cli.specs.Options.{budget_of}

-- where a surface comes from: a file on the shelf, or the program itself
pub data Source : Type 0 where
  file : (name : List ℕ) → Source
  builtin : (name : List ℕ) → Source

-- what the program is asked for
pub data Command : Type 0 where
  show : (source : Source) → Command
  image : (source : Source) (word coordinates : List ℕ) → Command
  twist : (source : Source) (coordinates : List ℕ) (hand : Hand) → Command
  classify : (source : Source) (word : List ℕ) (budget : Budget) → Command
  check : (source : Source) (word certificate : List ℕ) → Command

-- a text that may stand in the place of FILE, WORD, COORDS or CERT: it doesn't begin with `-`
abbrev pub is_argument : List ℕ → Bool
is_argument [] = true
is_argument (c ∷ text) = not (c == 45)

-- what FILE stands for: behind `@`, the name of a built-in surface; else a file's name
abbrev pub source_of : List ℕ → Source
source_of [] = file []
source_of (c ∷ text) = if c == 64 then builtin text else file (c ∷ text)

abbrev pub show_command : List ℕ → Option Command
show_command source = if is_argument source then Some (show (source_of source)) else None

abbrev pub image_command : List ℕ → List ℕ → List ℕ → Option Command
image_command source word coordinates =
    if is_argument source && (is_argument word && is_argument coordinates)
    then Some (image (source_of source) word coordinates)
    else None

-- just one word behind FILE and WORD
abbrev pub image_with : List ℕ → List ℕ → List (List ℕ) → Option Command
image_with source word (coordinates ∷ []) = image_command source word coordinates
image_with source word _ = None

abbrev pub twist_command : List ℕ → List ℕ → List ℕ → Option Command
twist_command source coordinates hand =
    if is_argument source && is_argument coordinates
    then option_map (twist (source_of source) coordinates) (hand_spelt hand)
    else None

-- just one word behind FILE and COORDS: `plus` or `minus`
abbrev pub twist_with : List ℕ → List ℕ → List (List ℕ) → Option Command
twist_with source coordinates (hand ∷ []) = twist_command source coordinates hand
twist_with source coordinates _ = None

abbrev pub classify_command : List ℕ → List ℕ → List (List ℕ) → Option Command
classify_command source word options =
    if is_argument source && is_argument word
    then option_map (classify (source_of source) word) (budget_of options)
    else None

-- CERT is always a file's name, also where it begins with `@`
abbrev pub check_command : List ℕ → List ℕ → List ℕ → Option Command
check_command source word certificate =
    if is_argument source && (is_argument word && is_argument certificate)
    then Some (check (source_of source) word certificate)
    else None

-- just one word behind FILE and WORD
abbrev pub check_with : List ℕ → List ℕ → List (List ℕ) → Option Command
check_with source word (certificate ∷ []) = check_command source word certificate
check_with source word _ = None

-- the command that the words fit: `show FILE`, `image FILE WORD COORDS`, `twist FILE COORDS HAND`,
-- `classify FILE WORD` and options, or `check FILE WORD CERT`
abbrev pub command_named : List ℕ → List (List ℕ) → Option Command
command_named name (source ∷ []) =
    if bytes_eq name (codes "show") then show_command source else None
command_named name (source ∷ (word ∷ options)) =
    if bytes_eq name (codes "classify") then classify_command source word options
    else if bytes_eq name (codes "image") then image_with source word options
    else if bytes_eq name (codes "twist") then twist_with source word options
    else if bytes_eq name (codes "check") then check_with source word options
    else None
command_named name [] = None

abbrev pub command : List (String Global) → Option Command
command [] = None
command (name ∷ words) = command_named (string_bytes name) (map string_bytes words)

-- ---- the surface

-- the surface that the command is about
abbrev pub source_in : Command → Source
source_in (show source) = source
source_in (image source word coordinates) = source
source_in (twist source coordinates hand) = source
source_in (classify source word budget) = source
source_in (check source word certificate) = source

-- the name is that of the surface's file
abbrev pub IsReadFrom : Source → List ℕ → Type 0
IsReadFrom (file name) read = read ≡ name
IsReadFrom (builtin name) read = ⊥
