-- From the answer of a descent to that of a twist. The path is short: a descent from the total 4,096 has at most 8,188
-- flips, and the path goes along it twice.
use Rattle.std.proofs.Common.{ℕ, ℤ, List, ◌++◌, ◌≡◌, ◌≤◌, ◌<◌, ◌+◌, ◌*◌, ◌^◌, refl, sym, ◌∙◌, ap, subst}
use Rattle.std.proofs.Common.{arith, length, map, length-append}
use Rattle.std.specs.List.{sum}
use Rattle.std.proofs.lemmas.List.{length-map, length-reverse}
use Rattle.curve_shorten.specs.ShortCurves.{IsSmall, IsShort}
use Rattle.curve_shorten.specs.Twists.{IsAnnulus}
use Rattle.curve_shorten.specs.declared.short.Short.{Short}
use Rattle.edge_coords.specs.Coordinates.{Coordinates}
use Rattle.tri_atlas.specs.Arena.{Arena, triangulation, step_of}
use Rattle.tri_atlas.specs.Moves.{Move, back_of, back_along}
use Rattle.tri_atlas.specs.MovedVectors.{flipped_edge}
use Rattle.tri_atlas.specs.Paths.{MovePath, moves_of}
use Rattle.twist_compile.proofs.Descents.{few_flips, edges_of_flips, as_many_flips}
use Rattle.twist_compile.specs.TwistPaths.{IsCompiledFrom, IsTwistable, hand_moves}
use Rattle.surface_lib.specs.declared.twister.Hand.{Hand}
use Rattle.surface_lib.specs.declared.twister.Hand.TheVariants.{Plus, Minus}
use Rattle.twist_compile.specs.inside.EndSteps.{end_moves}

length_back : (moves : List Move) → length (back_along moves) ≡ length moves
length_back moves = length-reverse (map back_of moves) ∙ length-map moves back_of

length_hand : (hand : Hand) (moves : List Move) → length (hand_moves hand moves) ≡ length moves
length_hand Plus moves = refl
length_hand Minus moves = length_back moves

-- there and back, with two moves between
length_whole : (hand : Hand) (down : List Move) (tri : List (List ℤ)) (p q : ℤ)
    → length (hand_moves hand (down ++ end_moves tri p q ++ back_along down)) ≡ 2 * length down + 2
length_whole hand down tri p q =
    omega (
      arith,
      length_hand hand (down ++ end_moves tri p q ++ back_along down),
      length-append (down ++ end_moves tri p q) (back_along down),
      length-append down (end_moves tri p q),
      length_back down,
    )

small_sum : (w : List ℕ) → IsSmall w → sum w ≤ 4096
small_sum w small = omega (arith, small)

pub short_path : (old new arena : Arena) (curve : Coordinates) (s : Short) → IsShort old new curve s → (hand : Hand)
    (path : MovePath) (p q : ℤ)
    → moves_of arena path
    ≡ hand_moves hand (moves_of new s.path ++ end_moves (triangulation new s.coords.tri) p q
    ++ back_along (moves_of new s.path))
    → length path.moves < 2 ^ 31
short_path old new arena curve s h hand path p q is =
    omega (
      arith,
      sym (length-map path.moves (step_of arena)) ∙ ap length is
          ∙ length_whole hand (moves_of new s.path) (triangulation new s.coords.tri) p q,
      ap length h.moves,
      as_many_flips (triangulation old curve.tri) h.edges,
      few_flips _ _ _ _ _ h.descent,
      small_sum curve.numbers h.small,
    )

-- ---- the parts

-- the edges that the path's flips change are those of the descent
pub compiled_from : (old new : Arena) (curve : Coordinates) (s : Short) → IsShort old new curve s → (down : List ℕ)
    (p q : ℤ) → down ≡ map flipped_edge (moves_of new s.path)
    → IsAnnulus (triangulation new s.coords.tri) s.coords.numbers p q
    → IsCompiledFrom (triangulation old curve.tri) curve.numbers down (triangulation new s.coords.tri) p q
compiled_from old new curve s h down p q is annulus =
    let triples : List (List ℤ) = triangulation old curve.tri in
    let end : List (List ℤ) = triangulation new s.coords.tri in
    subst (λ (edges : List ℕ). IsCompiledFrom triples curve.numbers edges end p q)
    (sym (is ∙ ap (map flipped_edge) h.moves ∙ edges_of_flips triples h.edges))
    (record { numbers = s.coords.numbers; descent = h.descent; two = h.two; annulus = annulus })

pub twistable : (old new : Arena) (curve : Coordinates) (s : Short) → IsShort old new curve s
    → IsTwistable (triangulation old curve.tri) curve.numbers
twistable old new curve s h = record { small = h.small; one = h.one; free = h.free }
