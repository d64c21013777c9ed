-- Along a path the image of a vector first reaches a bound where the new number of a flip does.
--
-- The image under the map of the first k moves is the vector after them, and entries change at flips alone. So as
-- long as no new number has reached the bound, all entries are below it, and the first one that does stands alone.
-- Conversely, where the image reaches the bound first behind a flip, no new number has reached it before, by
-- induction on the moves; so the number of that flip does.
use Rattle.std.proofs.Common.{ℕ, zero, suc, ℤ, List, [], ◌∷◌, ◌≡◌, ◌≤◌, ◌<◌, inl, inr, sym, ◌∙◌, ap, subst, arith}
use Rattle.std.proofs.Common.{length, take}
use Rattle.std.specs.Prelude.{slice_index}
use Rattle.std.proofs.lemmas.Bool.{cases_eq, cases_lt}
use Rattle.std.proofs.lemmas.List.Elements.{All-get_or}
use Rattle.ideal_tri.specs.Drawings.{draw}
use Rattle.ideal_tri.specs.Triangulations.{IsTriangulation, edge_count}
use Rattle.ideal_tri.specs.Vectors.{IsMulticurve}
use Rattle.ideal_tri.specs.Strands.{IsDrawing}
use Rattle.tri_atlas.specs.Moves.{Move, ArePath}
use Rattle.tri_atlas.specs.Maps.{path_map}
use Rattle.tri_atlas.specs.MovedVectors.{vector_after, vector_along, move_at, flipped_edge, new_number, IsOver}
use Rattle.tri_atlas.specs.MovedVectors.{IsFirstOver, ImageReaches, OverflowsAt}
use Rattle.tri_atlas.specs.VectorLaws.{OverflowLaws}
use Rattle.tri_atlas.proofs.Vectors.Given.{Given}
use Rattle.tri_atlas.proofs.Vectors.Along.{along_laws, path_edges, multicurve_along}
use Rattle.tri_atlas.proofs.Vectors.Beginnings.{vector_along-next, Beginning, beginning, MoveOf, move_of}
use Rattle.tri_atlas.proofs.Vectors.Entries.{Below, length-after, below-after, entry-flipped, entry-other}

module _ (g : Given) (before target : List (List ℤ)) (moves : List Move) (w : List ℕ) (bound : ℕ)
    (p : IsTriangulation before)
    (h : ArePath before moves target) (m : IsMulticurve before w) (small : Below bound w) where
  -- the vector after the first k moves
  abbrev vector : ℕ → List ℕ
  vector k = vector_along (take k moves) w

  long : (k : ℕ) → length (vector_along (take k moves) w) ≡ edge_count before
  long k =
      let b : Beginning before moves k = beginning before target moves k h in
      (multicurve_along g before b.middle (take k moves) w p b.path m).one_per_edge
      ∙ path_edges g.lower before b.middle (take k moves) b.path

  -- the image reaches the bound where an entry does
  reaches_entry : (k : ℕ) → ImageReaches bound before w (path_map (take k moves))
      → (Below bound (vector_along (take k moves) w) → ⊥)
  reaches_entry k r below =
      let b : Beginning before moves k = beginning before target moves k h in
      let laws = along_laws g before b.middle (take k moves) w p b.path m in
      let same = laws.image.counts r.runs r.drawing r.edge r.is_edge in
      let less : slice_index (vector_along (take k moves) w) r.edge < bound =
      All-get_or (λ n. n < bound) (vector_along (take k moves) w) r.edge 0
      (subst (λ (n : ℕ). r.edge < n) (sym (long k)) r.is_edge) below in
      let more = r.reaches in
      omega arith

  entry_reaches : (k e : ℕ) → e < edge_count before → bound ≤ slice_index (vector_along (take k moves) w) e
      → ImageReaches bound before w (path_map (take k moves))
  entry_reaches k e l more =
      let b : Beginning before moves k = beginning before target moves k h in
      let laws = along_laws g before b.middle (take k moves) w p b.path m in
      let drawn : IsDrawing before w (draw before w) = (g.drawings before p).exists w m in
      record {
        runs = draw before w;
        drawing = drawn;
        edge = e;
        is_edge = l;
        reaches = subst (λ (n : ℕ). bound ≤ n) (laws.image.counts (draw before w) drawn e l) more;
      }

  -- ---- entries below the bound

  -- as long as no new number reaches the bound
  pub all_below : (k : ℕ) → ((j : ℕ) → j < k → IsOver bound (move_at moves j) (vector_along (take j moves) w) → ⊥)
      → Below bound (vector_along (take k moves) w)
  all_below k under = go before moves w k h m.one_per_edge small under
    where
      go : (from : List (List ℤ)) (ms : List Move) (u : List ℕ) (k : ℕ) → ArePath from ms target
          → length u ≡ edge_count from → Below bound u
          → ((j : ℕ) → j < k → IsOver bound (move_at ms j) (vector_along (take j ms) u) → ⊥)
          → Below bound (vector_along (take k ms) u)
      go from ms u zero path l all under = all
      go from [] u (suc k) path l all under = all
      go from (x ∷ ms) u (suc k) (between, t, move, rest) l all under =
          go between ms (vector_after x u) k rest (length-after g.lower from between x u move l)
          (below-after g.lower bound from between x u move l all (under 0 (omega arith)))
          (λ j b. under (suc j) (omega arith))

  -- the first new number that does
  first_entry : (k : ℕ) → IsFirstOver bound w moves k
      → (flipped_edge (move_at moves k) < edge_count before)
      × (slice_index (vector_along (take (suc k) moves) w) (flipped_edge (move_at moves k)) ≡ new_number
      (move_at moves k) (vector_along (take k moves) w))
  first_entry k o =
      let s : MoveOf before moves k = move_of before target moves k h o.within in
      let l : length (vector_along (take k moves) w) ≡ edge_count s.from = long k
      ∙ sym (path_edges g.lower before s.from (take k moves) s.path) in
      let there =
      entry-flipped g.lower s.from s.to (move_at moves k) (vector_along (take k moves) w) s.move l o.over.0 in (
        subst (λ (n : ℕ). flipped_edge (move_at moves k) < n) (long k) there.0,
        ap (λ (u : List ℕ). slice_index u (flipped_edge (move_at moves k))) (vector_along-next moves k w o.within)
            ∙ there.1,
      )

  first_reaches : (k : ℕ) → IsFirstOver bound w moves k → ImageReaches bound before w (path_map (take (suc k) moves))
  first_reaches k o =
      let there = first_entry k o in
      entry_reaches (suc k) (flipped_edge (move_at moves k)) there.0
      (subst (λ (n : ℕ). bound ≤ n) (sym there.1) o.over.1)

  overflows : (k : ℕ) → IsFirstOver bound w moves k → OverflowsAt bound before w moves k
  overflows k o = record {
    within = o.within;
    flips = o.over.0;
    reaches = first_reaches k o;
    first = λ j b flips r. reaches_entry (suc j) r (all_below (suc j) (λ i c. o.first i (omega arith)));
  }

  -- where the image hasn't reached the bound before, no new number has
  none_before : (k : ℕ) → OverflowsAt bound before w moves k → (n : ℕ) → n ≤ k → (j : ℕ) → j < n
      → IsOver bound (move_at moves j) (vector_along (take j moves) w) → ⊥
  none_before k o zero l j b over = absurd (omega arith)
  none_before k o (suc n) l j b over =
      elim (cases_lt j n) [
        | inl before_n ↦ none_before k o n (omega arith) j before_n over
        | inr last ↦
            (let earlier : (i : ℕ) → i < j → IsOver bound (move_at moves i) (vector_along (take i moves) w) → ⊥ =
            λ i c. none_before k o n (omega arith) i (omega arith) in
            let within : k < length moves = o.within in
            let first : IsFirstOver bound w moves j = record { within = omega arith; over = over; first = earlier } in
            o.first j (omega arith) over.0 (first_reaches j first))
      ]

  is_first : (k : ℕ) → OverflowsAt bound before w moves k → IsFirstOver bound w moves k
  is_first k o = record {
    within = o.within;
    over = (o.flips, reached);
    first = none_before k o k (omega arith);
  }
    where
      under : new_number (move_at moves k) (vector_along (take k moves) w) < bound → (j : ℕ) → j < suc k
          → IsOver bound (move_at moves j) (vector_along (take j moves) w) → ⊥
      under less j b over =
          elim (cases_lt j k) [
            | inl earlier ↦ none_before k o k (omega arith) j earlier over
            | inr last ↦
                (let same : j ≡ k = omega arith in
                let here : IsOver bound (move_at moves k) (vector_along (take k moves) w) =
                subst (λ (i : ℕ). IsOver bound (move_at moves i) (vector_along (take i moves) w)) same over in
                let more = here.1 in
                omega arith)
          ]

      reached : bound ≤ new_number (move_at moves k) (vector_along (take k moves) w)
      reached =
          elim (cases_lt (new_number (move_at moves k) (vector_along (take k moves) w)) bound) [
            | inr more ↦ more
            | inl less ↦ absurd (reaches_entry (suc k) o.reaches (all_below (suc k) (under less)))
          ]

  -- no other entry reaches the bound then
  only_there : (k e : ℕ) → IsFirstOver bound w moves k → e < length w
      → bound ≤ slice_index (vector_along (take (suc k) moves) w) e
      → e ≡ flipped_edge (move_at moves k)
  only_there k e o l more =
      elim (cases_eq e (flipped_edge (move_at moves k))) [
        | inl same ↦ same
        | inr other ↦
            (let stays : slice_index (vector_along (take (suc k) moves) w) e ≡ slice_index
            (vector_along (take k moves) w) e =
            ap (λ (u : List ℕ). slice_index u e) (vector_along-next moves k w o.within)
            ∙ entry-other (move_at moves k) (vector_along (take k moves) w) e o.over.0 other in
            let less : slice_index (vector_along (take k moves) w) e < bound =
            All-get_or (λ n. n < bound) (vector_along (take k moves) w) e 0 (omega (arith, long k, m.one_per_edge))
            (all_below k o.first) in
            absurd (omega arith))
      ]

  pub overflow_laws : OverflowLaws before moves w bound
  overflow_laws = record {
    first = λ k. (is_first k, overflows k);
    value = λ k o. (first_entry k o).1;
    there = only_there;
    below = all_below;
  }
