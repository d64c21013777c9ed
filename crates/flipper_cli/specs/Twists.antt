-- The lines that `twist` prints of the steps of a Dehn twist.
use Rattle.std.specs.Prelude.{◌++◌, ℕ, ℤ, List, [], ◌∷◌, codes, map}
use Rattle.std.specs.Fmt.{decimal, signed_decimal}
use Rattle.surface_lib.specs.declared.twister.Hand.{Hand}
use Rattle.surface_lib.specs.declared.twister.Hand.TheVariants.{Plus, Minus}
use Rattle.flipper_cli.specs.Show.{line, number_line}

abbrev pub hand_name : Hand → List ℕ
hand_name Plus = codes "plus"
hand_name Minus = codes "minus"

-- the hand; the edges that the descent flips, in order; the edge of the flip at its end; and the
-- images of the labels 0, 1, .. under the relabelling behind it
abbrev pub twist_lines : Hand → List ℕ → ℕ → List ℤ → List ℕ
twist_lines hand down flip images =
    line (codes "hand") (hand_name hand ∷ [])
    ++ line (codes "down") (map decimal down)
    ++ number_line (codes "flip") flip
    ++ line (codes "relabel") (map signed_decimal images)
