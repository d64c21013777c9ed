-- Curves carried back over the flips of a stage.
use Rattle.std.proofs.Common.{◌≡◌, ◌<◌, ◌≤◌, ℕ, ℤ, pos, List, [], ◌∷◌, length, map, refl, sym, ◌∙◌, ap, subst}
use Rattle.std.proofs.Common.{arith, suc}
use Rattle.std.proofs.lemmas.List.{length-map, length-reverse}
use Rattle.ideal_tri.specs.Flips.{flipped}
use Rattle.tri_atlas.specs.Arena.{Arena, IsArena, triangulation}
use Rattle.tri_atlas.specs.AtlasLaws.{WayLaws}
use Rattle.tri_atlas.specs.FlipPaths.{flips_along}
use Rattle.tri_atlas.specs.MovedVectors.{IsFirstOver}
use Rattle.tri_atlas.specs.Moves.{Move, back_of, back_along}
use Rattle.tri_atlas.specs.Paths.{MovePath, inverse_path, moves_of}
use Rattle.edge_coords.specs.declared.coords.TheConstants.{COORDINATE_LIMIT}
use Rattle.cycle_stages.specs.KeptStages.{IsKept}
use Rattle.cycle_stages.specs.StageLists.{depth_count}
use Rattle.cycle_stages.specs.declared.stages.Stage.{Stage}
use Rattle.light_curves.specs.inside.Touched.{AreAtMostTwo}
use Rattle.light_curves.proofs.Doubling.{doubled, doubled_more, none_over}

length_back : (moves : List Move) → length (back_along moves) ≡ length moves
length_back moves = length-reverse (map back_of moves) ∙ length-map moves back_of

length_flips : (triples : List (List ℤ)) (edges : List ℕ) → length (flips_along triples edges) ≡ length edges
length_flips triples [] = refl
length_flips triples (e ∷ edges) = ap suc (length_flips (flipped triples (pos e)) edges)

-- 2 doubled as often as a stage has flips stays below the limit
small_doubled : (flips : ℕ) → flips < depth_count → doubled flips 2 < COORDINATE_LIMIT
small_doubled flips few =
    let most : doubled flips 2 ≤ doubled 55 2 = doubled_more flips 55 2 (omega (arith, few)) in
    let value : doubled 55 2 ≡ 72057594037927936 = refl in
    omega (arith, most, value)

module _ (arena : Arena) (sound : IsArena arena) (ways : WayLaws) (s : Stage) (kept : IsKept arena s) (back : MovePath)
    (is : back ≡ inverse_path s.path) where
  pub back_moves : moves_of arena back ≡ back_along (flips_along (triangulation arena 0) s.edges.items)
  back_moves = ap (moves_of arena) is ∙ ways.back arena s.path sound kept.path ∙ ap back_along kept.moves

  pub back_start : (t : ℕ) → t ≡ s.coords.tri → back.start ≡ t
  back_start t here = ap (λ (p : MovePath). p.start) is ∙ kept.end ∙ sym here

  pub back_end : back.end ≡ 0
  back_end = ap (λ (p : MovePath). p.end) is ∙ kept.start

  pub back_small : (b : List ℕ) → AreAtMostTwo b → length s.edges.items < depth_count → (k : ℕ)
      → ¬ IsFirstOver COORDINATE_LIMIT b (moves_of arena back) k
  back_small b few short k over =
      let flips : length (moves_of arena back) ≡ length s.edges.items =
      ap length back_moves ∙ length_back (flips_along (triangulation arena 0) s.edges.items)
      ∙ length_flips (triangulation arena 0) s.edges.items in
      none_over (moves_of arena back) 2 b COORDINATE_LIMIT few
      (subst (λ (n : ℕ). doubled n 2 < COORDINATE_LIMIT) (sym flips) (small_doubled (length s.edges.items) short)) k
      over.within over.over
