-- The files of a shelf in memory, with their counts of faults.
use Rattle.std.specs.Prelude.{◌≡◌, ◌≢◌, true, nat_eq, ℕ, List, String}
use Rattle.std.specs.BTreeMap.{BTreeMap, get_by_text}
use Rattle.std.specs.List.{list_any}
use Rattle.std.specs.Option.{option_map, option_map_or}
use Rattle.std.specs.declared.alloc.Global.{Global}
use Rattle.flip_io.specs.Files.{Files}
use Rattle.flip_io.specs.declared.boxed.Held.{Held}

abbrev pub held_files : BTreeMap (String Global) Held → Files
held_files files name = option_map (λ h. h.bytes.items) (get_by_text files name)

-- the count of a name, which is 0 where there is no file
abbrev pub held_faults : BTreeMap (String Global) Held → List ℕ → ℕ
held_faults files name = option_map_or (λ h. h.faults) (get_by_text files name) 0

-- the call with this number is one of those that fail
abbrev pub IsListed : ℕ → List ℕ → Type 0
IsListed call fails = list_any (λ k. nat_eq k call) fails ≡ true

-- a read of a name left the files, and the counts of the other names
pub record SparesOthers (before : BTreeMap (String Global) Held) (name : List ℕ)
    (now : BTreeMap (String Global) Held) : Type 0 where
  pub files : held_files now ≡ held_files before
  pub others : (other : List ℕ) → other ≢ name → held_faults now other ≡ held_faults before other
