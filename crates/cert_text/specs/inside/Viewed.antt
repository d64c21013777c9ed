-- Results, their values seen by definitions.
use Rattle.std.specs.Prelude.{Result, Ok, Err}

abbrev pub viewed : {X Y E : Type 0} → (X → Y) → Result X E → Result Y E
viewed f (Ok x) = Ok (f x)
viewed f (Err e) = Err e
