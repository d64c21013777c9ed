-- The whole path of a twist: the descent, the moves at its end, and the descent backwards.
--
-- The moves at the end lead from the last triangulation to itself, fix the vector there, and their map is the
-- substitution of the twist. So the whole path leads from the first triangulation to itself, fixes the curve's vector,
-- and its map is that substitution, carried back along the descent. Hand minus has the same path backwards: the descent,
-- the moves at the end backwards, and the descent backwards.
use Rattle.std.proofs.Common.{ℕ, ℤ, pos, List, ◌++◌, ◌≡◌, refl, sym, subst}
use Rattle.ideal_tri.specs.Labels.{edge_of}
use Rattle.ideal_tri.specs.PeripheralParts.{HasFreeCorners}
use Rattle.ideal_tri.specs.Triangulations.{IsTriangulation, IsLabel}
use Rattle.ideal_tri.specs.Vectors.{IsMulticurve}
use Rattle.tri_atlas.specs.Maps.{path_map}
use Rattle.tri_atlas.specs.Moves.{Move, ArePath, back_along}
use Rattle.tri_atlas.specs.MovedVectors.{vector_along}
use Rattle.tri_atlas.specs.FlipPaths.{flips_along}
use Rattle.twist_compile.specs.TwistPaths.{IsCompiledFrom, plus_moves, hand_moves}
use Rattle.twist_compile.specs.TwistLaws.{IsTwist, TwistLaws, hand_letter}
use Rattle.surface_lib.specs.declared.twister.Hand.{Hand}
use Rattle.surface_lib.specs.declared.twister.Hand.TheVariants.{Plus, Minus}
use Rattle.twist_compile.proofs.LowerLaws.{LowerLaws}
use Rattle.twist_compile.proofs.JoinedPaths.{ArePath-around, back_along-around, path_map-around, path_undone}
use Rattle.twist_compile.proofs.JoinedPaths.{fixed_around, fixed_back}
use Rattle.twist_compile.proofs.AlongDescents.{IsWayDown, way_down}
use Rattle.twist_compile.proofs.Annuli.{IsAnnulusOf, annulus_of}
use Rattle.twist_compile.proofs.TwistMoves.{IsOf, annulus_moves, annulus_path, annulus_fixes}
use Rattle.twist_compile.proofs.TwistMaps.{annulus_map, annulus_back_map}

module _ (laws : LowerLaws) (triples : List (List ℤ)) (w : List ℕ) (t : IsTriangulation triples)
    (m : IsMulticurve triples w) (free : HasFreeCorners triples w) (edges : List ℕ) (end : List (List ℤ)) (p q : ℤ)
    (from : IsCompiledFrom triples w edges end p q) where
  abbrev flips : List Move
  flips = flips_along triples edges

  -- the descent, and the annulus at its end
  way : IsWayDown triples w edges end from.numbers
  way = way_down laws triples w edges end from.numbers from.descent t m free

  annulus : IsAnnulusOf end from.numbers p q
  annulus = annulus_of laws end way.triangulation from.numbers way.multicurve from.two p q from.annulus way.free

  is_of : IsOf (pos (edge_of q)) q
  is_of = laws.labels.of_edge (pos (edge_of q)) q refl

  -- the flip and the relabelling there
  abbrev middle : List Move
  middle = annulus_moves end p q (pos (edge_of q))

  there : ArePath end (annulus_moves end p q (pos (edge_of q))) end
  there = annulus_path laws end way.triangulation from.numbers p q annulus (pos (edge_of q)) is_of

  fixed_there : vector_along (annulus_moves end p q (pos (edge_of q))) from.numbers ≡ from.numbers
  fixed_there =
      annulus_fixes laws end way.triangulation from.numbers p q annulus (pos (edge_of q)) is_of way.multicurve.one_per_edge

  -- moves at the end that act as the substitution of a hand, between the descent and the descent backwards
  around : (hand : Hand) (moves : List Move) → ArePath end moves end
      → ((x : ℤ) → IsLabel end x → path_map moves x ≡ hand_letter hand p q x)
      → vector_along moves from.numbers ≡ from.numbers
      → IsTwist triples w edges p q hand (flips_along triples edges ++ (moves ++ back_along (flips_along triples edges)))
  around hand moves path acts fixed = record {
    path = whole;
    map = λ x l. path_map-around laws triples end flips moves (hand_letter hand p q) x t way.path acts l;
    fixed =
        fixed_around laws triples end flips moves w t way.path m
        (subst (λ (v : List ℕ). vector_along moves v ≡ v) way.vector fixed);
    undone = λ x l. path_undone laws triples triples (flips ++ (moves ++ back_along flips)) x t whole l;
  }
    where
      whole : ArePath triples (flips_along triples edges ++ (moves ++ back_along (flips_along triples edges))) triples
      whole = ArePath-around laws triples end flips moves t way.path path

  pub hand_twist : (hand : Hand) → IsTwist triples w edges p q hand (hand_moves hand (plus_moves triples edges end p q))
  hand_twist Plus =
      around Plus middle there
      (annulus_map laws end way.triangulation from.numbers p q annulus (pos (edge_of q)) is_of) fixed_there
  hand_twist Minus =
      subst (IsTwist triples w edges p q Minus) (sym (back_along-around laws triples end flips middle way.path))
      (around Minus (back_along middle) (laws.maps.paths.back end end middle way.triangulation there)
      (annulus_back_map laws end way.triangulation from.numbers p q annulus (pos (edge_of q)) is_of)
      (fixed_back laws end end middle from.numbers way.triangulation there way.multicurve fixed_there))

pub twist_laws : LowerLaws → TwistLaws
twist_laws laws = record {
  twist = λ triples w edges end p q hand t m twistable from.
      hand_twist laws triples w t m twistable.free edges end p q from hand;
}
