-- Labels: the two directions of each edge. Edge n has the labels n and -1 - n (Bell's flipper).
use Rattle.std.specs.Prelude.{ℕ, ℤ, pos, negsuc}

-- the same edge in the other direction
abbrev pub inverse : ℤ → ℤ
inverse (pos n) = negsuc n
inverse (negsuc n) = pos n

-- the number of the edge
abbrev pub edge_of : ℤ → ℕ
edge_of (pos n) = n
edge_of (negsuc n) = n

-- x, or its inverse where the sign is that of -1, -2, ..
abbrev pub with_sign_of : ℤ → ℤ → ℤ
with_sign_of (pos n) x = x
with_sign_of (negsuc n) x = inverse x
