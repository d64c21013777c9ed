-- What contracts see of why a generator is not read.
use Rattle.std.specs.Prelude.{◌≡◌, List, [], ◌∷◌, ◌++◌}
use Rattle.edge_coords.specs.Coordinates.{total_of}
use Rattle.surface_lib.specs.Described.{NamedMoves}
use Rattle.surface_lib.specs.declared.refused.Refused.{Refused}
use Rattle.surface_lib.specs.declared.refused.Refused.TheVariants.{Fault, Memory}
use Rattle.surface_lib.specs.declared.surface_error.GeneratorFault.{GeneratorFault}
use Rattle.surface_lib.specs.declared.surface_error.GeneratorFault.TheVariants.{TotalOver}
use Rattle.surface_lib.specs.declared.surface_error.GeneratorFault.TheVariants.{NotOneCurve}
use Rattle.surface_lib.specs.declared.surface_error.GeneratorFault.TheVariants.{Peripheral, Stuck}
use Rattle.surface_lib.specs.declared.twister.TwistError.{TwistError}
use Rattle.surface_lib.specs.declared.twister.TwistError.TheVariants as error

-- P of the fault; want of memory is a free answer
abbrev pub IsFault : (GeneratorFault → Type 0) → Refused → Type 0
IsFault P (Fault fault) = P fault
IsFault P Memory = Unit {0}

-- why there is no twist about a curve, as the reader of its generator answers it
abbrev pub twist_refused : TwistError → Refused
twist_refused (error.TotalOver n) = Fault (TotalOver n)
twist_refused error.NotOneCurve = Fault NotOneCurve
twist_refused error.Peripheral = Fault Peripheral
twist_refused (error.Stuck at) = Fault (Stuck (total_of at.numbers))
twist_refused error.Memory = Memory

-- one more generator stands behind the others, of which P holds
abbrev pub IsLonger : List NamedMoves → List NamedMoves → (NamedMoves → Type 0) → Type 0
IsLonger before after P = (g : NamedMoves) × P g × (after ≡ before ++ g ∷ [])
