-- The search in the powers of a path from the base to the base: what is known before the turn of a power, and after it.
use Rattle.std.proofs.Common.{ℕ, ℤ, List, [], ◌∷◌, ◌++◌, ◌≡◌, ◌+◌, ◌≤◌, sym, ◌∙◌, subst}
use Rattle.tri_atlas.specs.Arena.{Arena, IsArena, triangulation}
use Rattle.tri_atlas.specs.AtlasLaws.{AtlasLaws}
use Rattle.tri_atlas.specs.Paths.{MovePath, IsPathIn, moves_of}
use Rattle.free_groupoid.specs.GroupoidMaps.{GroupoidMap, IsMapIn, followed_along}
use Rattle.free_groupoid.specs.InnerAnswers.{AreInnerPaths, IsFirstMoved, IsSelfMap}
use Rattle.free_groupoid.specs.MapRefusals.{StaysWithin, IsPathRefusal}
use Rattle.free_groupoid.specs.PeriodicLaws.{FoundLaws}
use Rattle.free_groupoid.specs.Walks.{DualWalk}
use Rattle.free_groupoid.specs.declared.map.MapError.TheVariants.{CapPassed}
use Rattle.periodic_cert.specs.PowerAnswers.{AreAllRefuted, IsCapped, IsOrder, StartInOrder, StartWithLetters}
use Rattle.periodic_cert.specs.PowerAnswers.{letters_of_walks}
use Rattle.periodic_cert.proofs.Turns.{Turned, turned_more, at_base, self_map, within_turns, inner_turns}
use Rattle.periodic_cert.proofs.Turns.{moved_turns}
use Rattle.periodic_cert.proofs.Passing.{passed}
use Rattle.periodic_cert.proofs.Reasons.{AreRefuted, refuted_more, order_found, cap_passed, all_refuted}

-- the first n powers are refuted, and the map has been taken along the path once for each
pub record IsTried (arena : Arena) (word : MovePath) (cap n : ℕ) (reasons : List DualWalk) (now : GroupoidMap)
    : Type 0 where
  pub turned : Turned arena word cap n now
  pub refuted : AreRefuted (triangulation arena 0) (moves_of arena word) n reasons

module _ (atlas : AtlasLaws) (found : FoundLaws) (arena : Arena) (word : MovePath) (path : IsPathIn arena word)
    (start : word.start ≡ 0) (end : word.end ≡ 0) (sound : IsArena arena) (limit cap n : ℕ) (reasons : List DualWalk) (old : GroupoidMap)
    (tried : IsTried arena word cap n reasons old) where
  pub follows : word.start ≡ old.target
  follows = start ∙ sym (at_base atlas found arena word path start end sound cap n old tried.turned)

  pub told_capped : (new : GroupoidMap) (letters : ℕ) → n + 1 ≤ limit
      → IsPathRefusal arena old new word.moves cap (CapPassed letters)
      → IsCapped (triangulation arena 0) (moves_of arena word) limit cap (n + 1) letters (letters_of_walks reasons)
      × StartWithLetters (triangulation arena 0) reasons
  told_capped new letters within refusal =
      cap_passed _ _ limit cap n reasons tried.refuted within letters
      (within_turns atlas found arena word path start end sound cap n old tried.turned)
      (passed atlas found arena word path start end sound cap n old new tried.turned letters refusal)

  pub told_refuted : n ≡ limit
      → AreAllRefuted (triangulation arena 0) (moves_of arena word) limit cap (letters_of_walks reasons)
      × StartWithLetters (triangulation arena 0) reasons
  told_refuted full =
      all_refuted _ _ limit cap n reasons tried.refuted full
      (within_turns atlas found arena word path start end sound cap n old tried.turned)

  -- the turn of the next power
  module _ (new : GroupoidMap) (is_new : new ≡ followed_along arena old word.moves)
      (stays : StaysWithin arena old word.moves cap) (maps : IsMapIn arena new) (triples : List (List ℤ))
      (is_base : triples ≡ triangulation arena 0) where
    turned : Turned arena word cap (n + 1) new
    turned = turned_more atlas found arena word cap n old new tried.turned is_new stays maps

    pub to_base : IsSelfMap triples new
    to_base =
        subst (λ (ts : List (List ℤ)). IsSelfMap ts new) (sym is_base)
        (self_map atlas found arena word path start end sound cap _ new turned)

    pub told_order : (paths : List DualWalk) → n + 1 ≤ limit → AreInnerPaths triples new paths
        → IsOrder (triangulation arena 0) (moves_of arena word) limit cap (n + 1) (letters_of_walks paths)
        (letters_of_walks reasons)
        × StartInOrder paths × StartWithLetters (triangulation arena 0) reasons
    told_order paths within are_paths =
        let here : AreInnerPaths (triangulation arena 0) new paths =
        subst (λ (ts : List (List ℤ)). AreInnerPaths ts new paths) is_base are_paths in
        order_found _ _ limit cap n reasons tried.refuted within new paths
        (within_turns atlas found arena word path start end sound cap _ new turned)
        (inner_turns atlas found arena word path start end sound cap _ new turned paths here) here

    pub tried_more : (w : DualWalk) (more : List DualWalk) → IsFirstMoved triples new w
        → more ≡ reasons ++ (w ∷ []) → IsTried arena word cap (n + 1) more new
    tried_more w more is_moved pushed =
        let here : IsFirstMoved (triangulation arena 0) new w =
        subst (λ (ts : List (List ℤ)). IsFirstMoved ts new w) is_base is_moved in
        record {
          turned = turned;
          refuted = refuted_more _ _ n reasons more w new tried.refuted pushed here
              (moved_turns atlas found arena word path start end sound cap _ new turned w here);
        }
