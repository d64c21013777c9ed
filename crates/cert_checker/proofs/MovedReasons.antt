-- Whether a power carries its reason to itself, read off a test of its substitution.
use Rattle.std.proofs.Common.{ℕ, ℤ, Bool, true, false, List, [], ◌≡◌, ◌+◌, ◌↔◌, IsTrue, sym, ◌∙◌, subst, get_or}
use Rattle.std.specs.List.{repeat}
use Rattle.std.proofs.lemmas.Bool.{false≢true}
use Rattle.ideal_tri.specs.SurfaceLaws.{SurfaceLaws}
use Rattle.tri_atlas.specs.Arena.{Arena, triangulation}
use Rattle.tri_atlas.specs.MapLaws.{MapLaws}
use Rattle.tri_atlas.specs.Maps.{path_map}
use Rattle.tri_atlas.specs.Moves.{Move}
use Rattle.free_groupoid.specs.GroupoidMaps.{GroupoidMap, substitution}
use Rattle.free_groupoid.specs.Inner.{IsKept}
use Rattle.cert_checker.specs.PeriodicRules.{IsReason, IsMoved}
use Rattle.cert_checker.specs.inside.PeriodicParts.{IsPower}
use Rattle.cert_checker.proofs.PowerMaps.{kept_same}

module _ (surface : SurfaceLaws) (maps : MapLaws) (arena : Arena) (moves : List Move) (reasons : List (List ℤ))
    (i : ℕ) (loop : IsReason (triangulation arena 0) reasons i) (f : GroupoidMap)
    (power : IsPower arena moves (i + 1) f) (reason : List ℤ) (is_reason : reason ≡ get_or reasons i [])
    (kept : Bool) (test : IsTrue kept ↔ IsKept (substitution f.images) reason) where
  says : IsTrue kept ↔ IsKept (path_map (repeat (i + 1) moves)) (get_or reasons i [])
  says =
      let here : IsTrue kept ↔ IsKept (substitution f.images) (get_or reasons i []) =
      subst (λ (w : List ℤ). IsTrue kept ↔ IsKept (substitution f.images) w) is_reason test in
      let same : IsKept (substitution f.images) (get_or reasons i [])
      ↔ IsKept (path_map (repeat (i + 1) moves)) (get_or reasons i []) =
      kept_same surface maps.substitutions (triangulation arena 0) (substitution f.images)
      (path_map (repeat (i + 1) moves)) (get_or reasons i []) power.agrees loop in
      (λ t. same.0 (here.0 t), λ k. here.1 (same.1 k))

  pub not_moved : kept ≡ true → ¬ IsMoved (triangulation arena 0) moves reasons i
  not_moved carried moved = moved (says.0 carried)

  pub moved : kept ≡ false → IsMoved (triangulation arena 0) moves reasons i
  moved none carried = absurd (false≢true (sym none ∙ says.1 carried))
