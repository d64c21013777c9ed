-- The least count at a vertex, from one corner to the next. It is the lesser of the least count among the corners that
-- were passed and that among the corners still to come; the corner that one stands at may count on both sides.
use Rattle.std.proofs.Common.{◌≡◌, ◌<◌, ◌≤◌, ◌-◌, ◌+◌, ◌*◌, ℕ, zero, suc, ℤ, List, min, sym, ◌∙◌, ap, arith}
use Rattle.ideal_tri.specs.Triangulations.{edge_count}
use Rattle.ideal_tri.specs.Vectors.{corner_count}
use Rattle.ideal_tri.specs.Vertices.{corner_step}
use Rattle.ideal_tri.specs.PeripheralParts.{least_count, least_count_within}

least_count-le : (triples : List (List ℤ)) (w : List ℕ) (n : ℕ) (x : ℤ)
    → least_count_within triples w n x ≤ corner_count triples w x
least_count-le triples w zero x = omega arith
least_count-le triples w (suc n) x = omega arith

-- `least` is the least count from the corner x on to `corner`, which is i steps on
pub record IsLeastSoFar (triples : List (List ℤ)) (w : List ℕ) (x corner : ℤ) (least i : ℕ) : Type 0 where
  pub passed : least ≤ corner_count triples w corner
  pub to_come : least_count triples w x ≡ min least (least_count_within triples w (2 * edge_count triples - i) corner)

module _ (triples : List (List ℤ)) (w : List ℕ) (x : ℤ) where
  pub least_none : (least : ℕ) → least ≡ corner_count triples w x → IsLeastSoFar triples w x x least 0
  least_none least is = record {
    passed = omega arith;
    to_come =
        (let all : 2 * edge_count triples - 0 ≡ 2 * edge_count triples = omega arith in
        omega (arith, least_count-le triples w (2 * edge_count triples) x)
        ∙ ap (λ (n : ℕ). min least (least_count_within triples w n x)) (sym all));
  }

  pub least_more : (corner next : ℤ) (least count less i : ℕ) → i < 2 * edge_count triples
      → next ≡ corner_step triples corner
      → count ≡ corner_count triples w next → less ≡ min least count → IsLeastSoFar triples w x corner least i
      → IsLeastSoFar triples w x next less (i + 1)
  least_more corner next least count less i low turned counted is h = record {
    passed = omega arith;
    to_come =
        (let n : ℕ = 2 * edge_count triples - (i + 1) in
        let left : 2 * edge_count triples - i ≡ suc n = omega arith in
        let rest : least_count_within triples w n (corner_step triples corner) ≡ least_count_within triples w n next =
        ap (least_count_within triples w n) (sym turned) in
        let others : least_count_within triples w n next ≤ corner_count triples w next = least_count-le triples w n
        next in
        h.to_come ∙ ap (λ (m : ℕ). min least (least_count_within triples w m corner)) left ∙ omega (arith, h.passed));
  }

  pub least_all : (corner : ℤ) (least i : ℕ) → 2 * edge_count triples ≤ i → IsLeastSoFar triples w x corner least i
      → least ≡ least_count triples w x
  least_all corner least i past h =
      let left : 2 * edge_count triples - i ≡ 0 = omega arith in
      let rest : least_count_within triples w (2 * edge_count triples - i) corner ≡ corner_count triples w corner =
      ap (λ (n : ℕ). least_count_within triples w n corner) left in
      omega (arith, h.passed, h.to_come)
