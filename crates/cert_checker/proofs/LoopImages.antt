-- Closed walks that are read from a certificate, and their images under a map of the triangulation to itself.
use Rattle.std.proofs.Common.{ℕ, ℤ, Bool, List, ◌≡◌, ◌<◌, ◌↔◌, IsTrue, sym, ◌∙◌, ap, subst, length, get_or}
use Rattle.std.specs.List.{flat_map}
use Rattle.ideal_tri.specs.Triangulations.{IsTriangulation, IsWalk, triangle_of}
use Rattle.ideal_tri.specs.WordLaws.{ReductionLaws}
use Rattle.ideal_tri.specs.Words.{cyclic_reduce, reduce, strip, IsRotation}
use Rattle.tri_atlas.specs.Arena.{Arena, triangulation}
use Rattle.tri_atlas.specs.MapLaws.{WalkMapLaws}
use Rattle.tri_atlas.specs.Maps.{IsMap}
use Rattle.free_groupoid.specs.GroupoidMaps.{GroupoidMap, IsMapIn, image_walk, substitution, vertex_image}
use Rattle.free_groupoid.specs.Inner.{IsKept}
use Rattle.free_groupoid.specs.InnerAnswers.{IsSelfMap}
use Rattle.free_groupoid.specs.InnerLaws.{IsReducedLoop}
use Rattle.free_groupoid.specs.Walks.{DualWalk, IsWalkOn, IsClosedOn}
use Rattle.cert_checker.proofs.WalkReading.{loop_walk}

-- ---- walks

-- the letters, from the triangle of the first
pub closed_loop : (triples : List (List ℤ)) (reason letters : List ℤ) (x d : ℤ) (start : ℕ) → letters ≡ reason
    → x ≡ get_or letters 0 d → start ≡ triangle_of triples x → start < length triples → IsReducedLoop triples reason
    → IsClosedOn triples (record { start = start; letters = letters })
closed_loop triples reason letters x d start same is_x is_start inside loop = record {
  start_in = inside;
  closed = subst (λ (s : ℕ). IsWalk triples s letters s) (sym is_start)
      (loop_walk triples letters x d is_x (subst (IsReducedLoop triples) (sym same) loop));
}

of_closed : (triples : List (List ℤ)) (w : DualWalk) → IsClosedOn triples w → IsWalkOn triples w
of_closed triples w walk = record { start_in = walk.start_in; end = w.start; leads = walk.closed }

-- what the map asks of a walk
pub can_be_mapped : (triples : List (List ℤ)) (f : GroupoidMap) (w : DualWalk) → IsSelfMap triples f
    → IsWalkOn triples w → (arena : Arena) × IsMapIn arena f × IsWalkOn (triangulation arena f.source) w
can_be_mapped triples f w self walk =
    (self.arena, self.map, subst (λ (ts : List (List ℤ)). IsWalkOn ts w) (sym self.source) walk)

pub closed_can_be_mapped : (triples : List (List ℤ)) (f : GroupoidMap) (w : DualWalk) → IsSelfMap triples f
    → IsClosedOn triples w → (arena : Arena) × IsMapIn arena f × IsWalkOn (triangulation arena f.source) w
closed_can_be_mapped triples f w self walk = can_be_mapped triples f w self (of_closed triples w walk)

self_maps : (triples : List (List ℤ)) (f : GroupoidMap) → IsSelfMap triples f
    → IsMap triples triples (substitution f.images) (vertex_image f)
self_maps triples f self =
    subst (λ (ts : List (List ℤ)). IsMap triples ts (substitution f.images) (vertex_image f)) self.target
    (subst (λ (ts : List (List ℤ)). IsMap ts (triangulation self.arena f.target) (substitution f.images)
    (vertex_image f)) self.source self.map.maps)

pub closed_image : WalkMapLaws → (triples : List (List ℤ)) (f : GroupoidMap) (w image : DualWalk)
    → IsTriangulation triples → IsSelfMap triples f → image ≡ image_walk f w → IsClosedOn triples w
    → IsClosedOn triples image
closed_image laws triples f w image sound self is_image walk =
    let maps : IsMap triples triples (substitution f.images) (vertex_image f) = self_maps triples f self in
    subst (IsClosedOn triples) (sym is_image)
    (record {
      start_in = maps.within w.start walk.start_in;
      closed = laws.reduced triples triples (substitution f.images) (vertex_image f) w.start w.start w.letters sound
          maps walk.closed;
    })

-- ---- the test of a loop

cyclic_reduce-reduce : ReductionLaws → (w : List ℤ) → cyclic_reduce (reduce w) ≡ cyclic_reduce w
unfolding cyclic_reduce
cyclic_reduce-reduce laws w = ap (λ (u : List ℤ). strip (length u) u) (laws.twice w)

pub kept_test : ReductionLaws → (f : ℤ → List ℤ) (reason letters image : List ℤ) (kept : Bool) → letters ≡ reason
    → image ≡ cyclic_reduce (reduce (flat_map f letters)) → (IsTrue kept ↔ IsRotation image letters)
    → IsTrue kept ↔ IsKept f reason
kept_test laws f reason letters image kept same is_image test =
    let core : image ≡ cyclic_reduce (flat_map f reason) =
    is_image ∙ cyclic_reduce-reduce laws (flat_map f letters)
    ∙ ap (λ (w : List ℤ). cyclic_reduce (flat_map f w)) same in
    subst (λ (w : List ℤ). IsTrue kept ↔ IsRotation (cyclic_reduce (flat_map f reason)) w) same
    (subst (λ (u : List ℤ). IsTrue kept ↔ IsRotation u letters) core test)
