-- The limits of certificates.
use Rattle.std.specs.Prelude.{ℕ, ◌^◌}

-- the greatest order
abbrev pub order_limit : ℕ
order_limit = 1024

-- the most letters of a map after a move, and of the walks and of the train paths of a carried track
abbrev pub letter_cap : ℕ
letter_cap = 262144

-- the greatest power of the word that carries a track, and the most flips to the track
abbrev pub power_limit : ℕ
power_limit = 64

abbrev pub flip_limit : ℕ
flip_limit = 64

-- the greatest exponent of a primitive matrix
abbrev pub exponent_limit : ℕ
exponent_limit = 1024

-- the numbers of bounds, and those of their row and the next, are below this
abbrev pub number_limit : ℕ
number_limit = 2 ^ 63
