-- Cycles that are nonperipheral.
use Rattle.std.proofs.Common.{◌≡◌, ◌<◌, ◌+◌, ℕ, ℤ, List, [], ◌∷◌, length, map, nat_eq, count_by, get_or, slice_index}
use Rattle.std.proofs.Common.{Bool, cond, inl, inr, ◌++◌, refl, sym, ◌∙◌, ap, subst, arith}
use Rattle.std.proofs.lemmas.Bool.{cases_order, eq-eqb}
use Rattle.std.proofs.lemmas.List.Sums.{sum_by-append}
use Rattle.std.specs.List.{All}
use Rattle.std.proofs.lemmas.List.{length-map, get_or-map, append-nil}
use Rattle.std.proofs.lemmas.List.Elements.{All-map}
use Rattle.std.proofs.lemmas.List.FromFn.{get_or-map-range_with_len, length-map-range_with_len}
use Rattle.ideal_tri.specs.Curves.{crossings}
use Rattle.ideal_tri.specs.Labels.{edge_of}
use Rattle.ideal_tri.specs.Triangulations.{edge_count}
use Rattle.tri_atlas.specs.Arena.{Arena, triangulation}
use Rattle.edge_coords.specs.Coordinates.{Coordinates}
use Rattle.edge_coords.specs.PeripheralVertices.{IsPeripheralAt}
use Rattle.free_groupoid.specs.InnerLaws.{IsReducedLoop}
use Rattle.free_groupoid.specs.Walks.{DualWalk, walk_at, walk_of_letters}
use Rattle.ideal_tri.specs.PeripheralParts.{HasFreeCorners}
use Rattle.multicurve_cert.specs.Candidates.{IsNothing}
use Rattle.multicurve_cert.specs.Cycles.{AreCycles, AreCycleWalks, IsCycle, cycle_vector}
use Rattle.cycle_stages.specs.OpenCycles.{IsOpen, IsOpenCycle, IsOpenCycleIn, HasNoOpenCycle, vector_at}
use Rattle.cycle_stages.specs.inside.OpenWalks.{AreShut, HasNoOpen, IsFirstOpen, walk_vector}

-- ---- one cycle

-- a word crosses the edge of its first letter
crosses_first : (triples : List (List ℤ)) (x : ℤ) (rest : List ℤ) → edge_of x < edge_count triples
    → 0 < slice_index (cycle_vector triples (x ∷ rest)) (edge_of x)
crosses_first triples x rest inside =
    let at : slice_index (cycle_vector triples (x ∷ rest)) (edge_of x) ≡ crossings (edge_of x) ((x ∷ rest) ∷ []) =
    get_or-map-range_with_len (λ e. crossings e ((x ∷ rest) ∷ [])) 0 (edge_count triples) (edge_of x) (edge_of x) 0
    inside (omega arith) in
    let one : cond {A = ℕ} (nat_eq (edge_of x) (edge_of x)) 1 0 ≡ 1 =
    ap (λ (b : Bool). cond b 1 0) (eq-eqb (edge_of x) (edge_of x) refl) in
    let sum : crossings (edge_of x) ((x ∷ rest) ∷ [])
    ≡ (0 + cond {A = ℕ} (nat_eq (edge_of x) (edge_of x)) 1 0) + count_by (λ (y : ℤ). nat_eq (edge_of y) (edge_of x)) (rest ++ []) =
    sum_by-append (λ (y : ℤ). cond (nat_eq (edge_of y) (edge_of x)) 1 0) (x ∷ []) (rest ++ []) in
    omega (arith, at, one, sum)

-- so a cycle's vector isn't zero
loop_crosses : (triples : List (List ℤ)) (w : List ℤ) → IsReducedLoop triples w
    → ¬ IsNothing (cycle_vector triples w)
loop_crosses triples [] loop none = loop
loop_crosses triples (x ∷ rest) loop none =
    let inside : edge_of x < edge_count triples = loop.0.0 in
    let many : length (cycle_vector triples (x ∷ rest)) ≡ edge_count triples =
    length-map-range_with_len (λ e. crossings e ((x ∷ rest) ∷ [])) 0 (edge_count triples) in
    let zero : slice_index (cycle_vector triples (x ∷ rest)) (edge_of x) ≡ 0 =
    none (edge_of x) 0 (subst (λ (n : ℕ). edge_of x < n) (sym many) inside) in
    let some : 0 < slice_index (cycle_vector triples (x ∷ rest)) (edge_of x) = crosses_first triples x rest inside in
    omega arith

pub open_where_free : (triples : List (List ℤ)) (w : List ℤ) → IsCycle triples w
    → HasFreeCorners triples (cycle_vector triples w) → IsOpen triples (cycle_vector triples w)
open_where_free triples w cycle free = (loop_crosses triples w cycle.loop, free)

-- a curve round a vertex
pub shut_where_round : (triples : List (List ℤ)) (w : List ℕ) (v : ℕ) → IsPeripheralAt triples w v
    → ¬ IsOpen triples w
shut_where_round triples w v round is_open =
    let free = is_open.1 round.corner round.label in
    let some = round.all free.0 free.1 in
    let none = free.2 in
    omega (arith, some, none)

-- ---- the cycles in order

pub shut_more : (triples : List (List ℤ)) (walks : List DualWalk) (n : ℕ) → AreShut triples walks n
    → ¬ IsOpen triples (walk_vector triples walks n) → AreShut triples walks (n + 1)
shut_more triples walks n before here i low = elim (cases_order i n) [
  | inl is ↦ subst (λ (k : ℕ). ¬ IsOpen triples (walk_vector triples walks k)) (sym is) here
  | inr order ↦ elim order [ inl earlier ↦ before i earlier | inr later ↦ absurd (omega (arith, low, later)) ]
]

module _ (triples : List (List ℤ)) (words : List (List ℤ)) (walks : List DualWalk)
    (are : AreCycleWalks triples words walks) where
  pub each_walk : All (λ w. IsCycle triples w.letters) walks
  each_walk =
      subst (All (λ (w : DualWalk). IsCycle triples w.letters)) (sym are.1)
      (All-map (λ (w : DualWalk). IsCycle triples w.letters) (walk_of_letters triples) words are.0.each)

  as_many : length walks ≡ length words
  as_many = ap length are.1 ∙ length-map words (walk_of_letters triples)

  same_vector : (i : ℕ) → i < length words → walk_vector triples walks i ≡ vector_at triples words i
  same_vector i inside =
      ap (λ (ws : List DualWalk). cycle_vector triples (walk_at ws i).letters) are.1
      ∙ ap (λ (w : DualWalk). cycle_vector triples w.letters)
      (get_or-map (walk_of_letters triples) words i [] _ inside)

  shut_before : (n : ℕ) → AreShut triples walks n → (i : ℕ) → i < n → i < length words
      → ¬ IsOpen triples (vector_at triples words i)
  shut_before n shut i low inside is_open =
      shut i low (subst (IsOpen triples) (sym (same_vector i inside)) is_open)

  pub none_open : HasNoOpen triples walks → HasNoOpenCycle triples
  none_open shut = record {
    cycles = words;
    are_cycles = are.0;
    none = λ i inside. shut_before (length walks) shut i (omega (arith, as_many)) inside;
  }

pub first_open_in : (arena : Arena) (words : List (List ℤ)) (walks : List DualWalk)
    → AreCycleWalks (triangulation arena 0) words walks → (c : Coordinates) → IsFirstOpen arena walks c
    → IsOpenCycleIn arena c
first_open_in arena words walks are c h =
    let inside : h.place < length words = omega (arith, h.within, as_many (triangulation arena 0) words walks are) in
    record {
      here = h.here;
      base = h.base;
      cycle = record {
        cycles = words;
        are_cycles = are.0;
        place = h.place;
        within = inside;
        vector = h.vector ∙ same_vector (triangulation arena 0) words walks are h.place inside;
        is_open = h.is_open;
        first = λ i low. shut_before (triangulation arena 0) words walks are h.place h.first i low (omega (arith, low, inside));
      };
    }
