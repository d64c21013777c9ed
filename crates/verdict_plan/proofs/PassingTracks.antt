-- A candidate that passes gives a certificate that holds.
--
-- The tests give all that the certificate asks of the carried track. Of its growth, the bounds are those of either rule:
-- the row is that of column sums of a power for which this row and the next stay below the limit, the row is positive,
-- and the next is greater in each entry. The next row is the row times the matrix. Each of the two ratios is that of two
-- entries of these rows at one place, so that its numbers are positive and below the limit.
use Rattle.std.proofs.Common.{◌≡◌, ◌<◌, ◌≤◌, ◌*◌, ℕ, suc, ℤ, List, sym, ◌∙◌, ap, subst, arith, slice_index}
use Rattle.tri_atlas.specs.Maps.{path_map}
use Rattle.tri_atlas.specs.Moves.{Move}
use Rattle.train_track.specs.Tracks.{ArePlaced, IsFilling, switches_of}
use Rattle.train_track.specs.Branches.{IsBranchList}
use Rattle.transition_matrix.specs.Bounds.{column_sum, times}
use Rattle.transition_matrix.specs.Matrices.{Square, entry}
use Rattle.transition_matrix.specs.MatrixLaws.{ColumnSumLaws, SumLaws}
use Rattle.growth_bounds.specs.Rule.{Grows, HasRatios, IsLeastRatio, turned}
use Rattle.growth_bounds.specs.declared.rule.GrowthBounds.{GrowthBounds}
use Rattle.carry_map.specs.AnchorAnswers.{letters_together}
use Rattle.carry_map.specs.CarriedMaps.{IsCarried}
use Rattle.carry_map.specs.Iterates.{IsTransition}
use Rattle.cert_text.specs.Certificates.{CarriedTrack}
use Rattle.cert_text.specs.Limits.{letter_cap, number_limit}
use Rattle.cert_text.specs.PseudoAnosov.{IsCarriedTrack, IsCount, IsGrowing}
use Rattle.cert_text.specs.PseudoAnosov.{carrying_of, matrix_of, track_path, track_triangles}
use Rattle.verdict_plan.specs.TrackTests.{IsPassing, IsRuledIn}
use Rattle.verdict_plan.specs.declared.series.Series.{Series}
use Rattle.verdict_plan.specs.declared.series.Series.TheVariants.{First, Further}
use Rattle.verdict_plan.specs.inside.Trials.{IsSoundPass, PassLaw}

-- ---- the numbers of the bounds

-- by either rule the row grows
grown : (series : Series) (m : Square) (bounds : GrowthBounds) → IsRuledIn series m bounds
    → HasRatios m (Grows m) bounds
grown First m bounds h = record {
  number = h.number;
  first = h.first.grows;
  size = h.size;
  row_is = h.row_is;
  low = h.low;
  high = h.high;
}
grown Further m bounds h = record {
  number = h.number;
  first = h.first.grows;
  size = h.size;
  row_is = h.row_is;
  low = h.low;
  high = h.high;
}

module _ (m : Square) (sums : SumLaws) (columns : ColumnSumLaws) (bounds : GrowthBounds)
    (rule : HasRatios m (Grows m) bounds) where
  abbrev row : ℕ → ℕ
  row = column_sum m rule.number

  abbrev next : ℕ → ℕ
  next = column_sum m (suc rule.number)

  row_count : (i : ℕ) → i < m.size → IsCount (row i)
  row_count i below = (rule.first.positive i below, rule.first.small i below)

  next_count : (i : ℕ) → i < m.size → IsCount (next i)
  next_count i below =
      let some = rule.first.positive i below in
      let more = rule.first.greater i below in (omega arith, rule.first.next_small i below)

  ratio_counts : (v u : ℕ → ℕ) (pair : ℕ × ℕ) → ((i : ℕ) → i < m.size → IsCount (v i))
      → ((i : ℕ) → i < m.size → IsCount (u i)) → IsLeastRatio m.size v u pair → IsCount pair.0 × IsCount pair.1
  ratio_counts v u pair above below h =
      (subst IsCount (sym h.above) (above h.place h.within), subst IsCount (sym h.below) (below h.place h.within))

  low_counts : IsCount bounds.low.0 × IsCount bounds.low.1
  low_counts = ratio_counts next row bounds.low next_count row_count rule.low

  high_counts : IsCount bounds.high.0 × IsCount bounds.high.1
  high_counts =
      let (below, above) = ratio_counts row next (turned bounds.high) row_count next_count rule.high in (above, below)

  row_small : (u : List ℕ) → u ≡ bounds.u.items → (i : ℕ) → i < m.size → slice_index u i < number_limit
  row_small u is i below =
      subst (λ (n : ℕ). n < number_limit)
      (sym (ap (λ (xs : List ℕ). slice_index xs i) is ∙ rule.row_is i below))
      (rule.first.small i below)

  next_is : (u : List ℕ) → u ≡ bounds.u.items → (i : ℕ) → times m (slice_index u) i ≡ next i
  next_is u is i =
      sums.same m.size (λ k. slice_index u k * entry m k i) (λ k. row k * entry m k i)
      (λ k below.
      ap (λ (n : ℕ). n * entry m k i) (ap (λ (xs : List ℕ). slice_index xs k) is ∙ rule.row_is k below))
      ∙ sym (columns.next m rule.number i)

  next_small : (u : List ℕ) → u ≡ bounds.u.items → (i : ℕ) → i < m.size → times m (slice_index u) i < number_limit
  next_small u is i below =
      subst (λ (n : ℕ). n < number_limit) (sym (next_is u is i)) (rule.first.next_small i below)

-- ---- the certificate

module _ (series : Series) (triples : List (List ℤ)) (path : List Move) (left_out : List ℤ) (c : CarriedTrack)
    (h : IsSoundPass series triples path left_out c) where
  abbrev passes : IsPassing series triples path left_out c
  passes = h.passing

  ruled : HasRatios (matrix_of c) (Grows (matrix_of c)) passes.bounds
  ruled = grown series (matrix_of c) passes.bounds passes.ruled

  is_growing : SumLaws → ColumnSumLaws → IsGrowing (matrix_of c) c
  is_growing sums columns = record {
    some = passes.exponent.some;
    within_limit = passes.within_limit;
    positive = passes.exponent.positive;
    bounds = h.bounds;
    low =
        subst (λ (low : ℕ × ℕ). IsCount low.0 × IsCount low.1) (sym passes.low)
        (low_counts (matrix_of c) sums columns passes.bounds ruled);
    high =
        subst (λ (high : ℕ × ℕ). IsCount high.0 × IsCount high.1) (sym passes.high)
        (high_counts (matrix_of c) sums columns passes.bounds ruled);
    row = row_small (matrix_of c) sums columns passes.bounds ruled c.u passes.row;
    next_row = next_small (matrix_of c) sums columns passes.bounds ruled c.u passes.row;
  }

  is_carried : IsCarriedTrack triples path c
  is_carried = record {
    corners = subst (ArePlaced triples) (sym passes.corners) h.corners;
    filling =
        subst (IsFilling triples) (sym passes.corners) passes.counted.fitting.anchored.mapped.filling;
    within_cap = passes.counted.fitting.anchored.mapped.within_cap;
    switches = passes.switches ∙ ap (switches_of triples) (sym passes.corners);
    few_to_connect =
        subst (λ (ws : List (List ℤ)). letters_together ws ≤ letter_cap) (sym passes.connect)
        passes.counted.few_between;
    few_in_images =
        subst (λ (ws : List (List ℤ)). letters_together ws ≤ letter_cap) (sym passes.images)
        passes.counted.few_along;
    branches = passes.branches;
    listed =
        subst (λ (out : List ℤ). IsBranchList triples out passes.branches) (sym passes.corners)
        passes.counted.fitting.anchored.listed;
    triangles = h.triangles;
    map = h.map;
    carried =
        subst (λ (out : List ℤ). IsCarried triples out passes.branches (path_map path) h.triangles (carrying_of c))
        (sym passes.corners) h.carried;
    rows = passes.rows;
    matrix =
        subst (λ (ws : List (List ℤ)). IsTransition passes.branches ws (matrix_of c)) (sym passes.images)
        passes.counted.matrix;
  }

-- the certificate of a candidate that passes holds
pub passing_holds : SumLaws → ColumnSumLaws → PassLaw
passing_holds sums columns series triples moves left_out c positive within few flips h = record {
  positive = positive;
  within_limit = within;
  few_flips = few;
  flips = flips;
  track = is_carried series (track_triangles triples c) (track_path triples moves c) left_out c h;
  growth = is_growing series (track_triangles triples c) (track_path triples moves c) left_out c h sums columns;
}
