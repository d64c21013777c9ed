-- The limits on what is read.
use Rattle.std.specs.Prelude.{ℕ}

-- the most digits of a coordinate
abbrev pub digit_limit : ℕ
digit_limit = 64

-- the most bytes of a certificate's file
abbrev pub certificate_limit : ℕ
certificate_limit = 67108864
