-- The sum of the first images of a vector, and the difference of two.
use Rattle.std.proofs.Common.{◌≡◌, ◌<◌, ◌≤◌, ◌+◌, ◌-◌, inl, inr, ℕ, zero, suc, ℤ, List, length, slice_index}
use Rattle.std.proofs.Common.{Bool, true, false, refl, sym, ◌∙◌, ap, subst, arith, add-one, if◌then◌else◌}
use Rattle.std.specs.List.{repeat}
use Rattle.std.proofs.lemmas.List.FromFn.{get_or-map-range_with_len, length-map-range_with_len}
use Rattle.tri_atlas.specs.Arena.{Arena, IsArena, triangulation}
use Rattle.tri_atlas.specs.Moves.{Move}
use Rattle.tri_atlas.specs.MovedVectors.{OverflowsAt}
use Rattle.edge_coords.specs.Coordinates.{Coordinates, AreCoordinatesIn}
use Rattle.edge_coords.specs.Sums.{sums, differences, IsLeastOver, IsPartOf}
use Rattle.edge_coords.specs.declared.coords.TheConstants.{COORDINATE_LIMIT}
use Rattle.edge_coords.specs.declared.moves.Overflow.{Overflow}
use Rattle.multicurve_cert.specs.Candidates.{image_number, is_sum, lower, needed, put_together, sum_to, upper}
use Rattle.multicurve_cert.specs.Candidates.{IsTooLarge, IsNoMulticurve}
use Rattle.multicurve_cert.specs.LastTests.{AreAtBase}
use Rattle.multicurve_cert.specs.inside.Images.{IsImageNumber}
use Rattle.multicurve_cert.specs.inside.Tested.{IsPutTogether}
use Rattle.multicurve_cert.proofs.ImageList.{base_curve}

true_or_false : (b : Bool) → b ≡ true → b ≡ false → ⊥
true_or_false b holds fails = let apart : true ≡ false = sym holds ∙ fails in grind arith

-- ---- differences

module _ (arena : Arena) (moves : List Move) (w : List ℕ) (kind : ℕ) (difference : is_sum kind ≡ false) where
  abbrev triples : List (List ℤ)
  triples = triangulation arena 0

  pub needs_upper : needed kind ≡ upper kind
  needs_upper = ap (λ (b : Bool). if b then kind else upper kind) difference

  is_difference : put_together triples moves w kind
      ≡ differences (image_number triples moves w (upper kind)) (image_number triples moves w (lower kind))
  is_difference =
      ap (λ (b : Bool). if b then sum_to triples moves w kind
      else differences (image_number triples moves w (upper kind)) (image_number triples moves w (lower kind)))
      difference

  module _ (high low : Coordinates) (is_high : IsImageNumber arena moves w (upper kind) high)
      (is_low : IsImageNumber arena moves w (lower kind) low) where
    pub not_too_large : ¬ IsTooLarge triples moves w kind
    not_too_large (inl (k, over)) =
        is_high.small (k, subst (λ (n : ℕ). OverflowsAt COORDINATE_LIMIT triples w (repeat n moves) k) needs_upper over)
    not_too_large (inr sum) = true_or_false (is_sum kind) sum.0 difference

    pub part_of : IsPartOf (triangulation arena high.tri) low.numbers high.numbers
        → IsPartOf triples (image_number triples moves w (lower kind)) (image_number triples moves w (upper kind))
    part_of part =
        subst (λ (u : List ℕ). IsPartOf triples u (image_number triples moves w (upper kind))) is_low.numbers
        (subst (IsPartOf triples low.numbers) is_high.numbers
        (subst (λ (t : ℕ). IsPartOf (triangulation arena t) low.numbers high.numbers) is_high.at_base.base part))

    back_part : IsPartOf triples (image_number triples moves w (lower kind))
        (image_number triples moves w (upper kind))
        → IsPartOf (triangulation arena high.tri) low.numbers high.numbers
    back_part part =
        subst (λ (t : ℕ). IsPartOf (triangulation arena t) low.numbers high.numbers) (sym is_high.at_base.base)
        (subst (IsPartOf triples low.numbers) (sym is_high.numbers)
        (subst (λ (u : List ℕ). IsPartOf triples u (image_number triples moves w (upper kind))) (sym is_low.numbers)
        part))

    -- what is left is the candidate's difference
    pub difference_made : (rest : Coordinates)
        → rest ≡ record { tri = high.tri; numbers = differences high.numbers low.numbers }
        → AreCoordinatesIn arena rest → IsPartOf (triangulation arena high.tri) low.numbers high.numbers
        → IsPutTogether arena moves w kind rest
    difference_made rest is here part = record {
      at_base = record {
        coordinates = here;
        base = ap (λ (c : Coordinates). c.tri) is ∙ is_high.at_base.base;
      };
      numbers =
          ap (λ (c : Coordinates). c.numbers) is
          ∙ ap (λ (u : List ℕ). differences u low.numbers) is_high.numbers
          ∙ ap (differences (image_number triples moves w (upper kind))) is_low.numbers ∙ sym is_difference;
      small = not_too_large;
      multicurve = λ none. none.1 (part_of part);
    }

    -- where it is no multicurve's, the candidate has no difference
    pub no_difference : ¬ IsPartOf (triangulation arena high.tri) low.numbers high.numbers
        → (¬ IsTooLarge triples moves w kind) × IsNoMulticurve triples moves w kind
    no_difference none = (not_too_large, (difference, λ part. none (back_part part)))

-- ---- sums

module _ (triples : List (List ℤ)) (moves : List Move) (w : List ℕ) where
  sum_length : (n : ℕ) → length (sum_to triples moves w n) ≡ length w
  sum_length zero = refl
  sum_length (suc n) = length-map-range_with_len _ 0 (length (sum_to triples moves w n)) ∙ sum_length n

  sum_at : (n e : ℕ) → e < length w → slice_index (sum_to triples moves w (suc n)) e
      ≡ slice_index (sum_to triples moves w n) e + slice_index (image_number triples moves w (suc n)) e
  sum_at n e within =
      get_or-map-range_with_len _ 0 (length (sum_to triples moves w n)) e e 0 (omega (arith, sum_length n)) (omega arith)

  -- sums only grow
  sum_grows : (n m k e : ℕ) → k ≡ n + m → e < length w
      → slice_index (sum_to triples moves w n) e ≤ slice_index (sum_to triples moves w k) e
  sum_grows n zero k e is within =
      let same : k ≡ n = omega arith in
      subst (λ (i : ℕ). slice_index (sum_to triples moves w n) e ≤ slice_index (sum_to triples moves w i) e) (sym same)
      (omega arith)
  sum_grows n (suc m) k e is within =
      let next : k ≡ suc (n + m) = omega (arith, is) in
      let before : slice_index (sum_to triples moves w n) e ≤ slice_index (sum_to triples moves w (n + m)) e =
      sum_grows n m (n + m) e refl within in
      subst (λ (i : ℕ). slice_index (sum_to triples moves w n) e ≤ slice_index (sum_to triples moves w i) e) (sym next)
      (omega (arith, sum_at (n + m) e within))

module _ (arena : Arena) (moves : List Move) (w : List ℕ) where
  -- a sum of the vector and its first images
  pub record IsSumTo (k : ℕ) (sum : Coordinates) : Type 0 where
    pub at_base : AreAtBase arena sum
    pub numbers : sum.numbers ≡ sum_to (triangulation arena 0) moves w k

  pub sum_more : (k : ℕ) (sum image more : Coordinates) → IsArena arena → IsSumTo k sum
      → IsImageNumber arena moves w (k + 1) image
      → more ≡ record { tri = sum.tri; numbers = sums sum.numbers image.numbers }
      → ((a : Arena) → IsArena a → AreCoordinatesIn a sum → AreCoordinatesIn a image → AreCoordinatesIn a more)
      → IsSumTo (k + 1) more
  sum_more k sum image more sound before is_image is here = record {
    at_base = record {
      coordinates = here arena sound before.at_base.coordinates is_image.at_base.coordinates;
      base = ap (λ (c : Coordinates). c.tri) is ∙ before.at_base.base;
    };
    numbers =
        ap (λ (c : Coordinates). c.numbers) is ∙ ap (λ (u : List ℕ). sums u image.numbers) before.numbers
        ∙ ap (sums (sum_to (triangulation arena 0) moves w k)) is_image.numbers
        ∙ ap (λ (n : ℕ). sums (sum_to (triangulation arena 0) moves w k)
        (image_number (triangulation arena 0) moves w n)) (add-one k)
        ∙ ap (sum_to (triangulation arena 0) moves w) (sym (add-one k));
  }

  pub sum_tri : (k : ℕ) (sum image : Coordinates) → IsSumTo k sum → IsImageNumber arena moves w (k + 1) image
      → image.tri ≡ sum.tri
  sum_tri k sum image before is_image = is_image.at_base.base ∙ sym before.at_base.base

  pub sum_as_many : (k : ℕ) (sum image : Coordinates) → IsSumTo k sum → IsImageNumber arena moves w (k + 1) image
      → length image.numbers ≡ length sum.numbers
  sum_as_many k sum image before is_image =
      (base_curve arena image is_image.at_base).one_per_edge
      ∙ sym (base_curve arena sum before.at_base).one_per_edge

  module _ (kind : ℕ) (is_kind : is_sum kind ≡ true) where
    needs_kind : needed kind ≡ kind
    needs_kind = ap (λ (b : Bool). if b then kind else upper kind) is_kind

    sum_length_is : (k : ℕ) (sum : Coordinates) → IsSumTo k sum → length sum.numbers ≡ length w
    sum_length_is k sum made = ap length made.numbers ∙ sum_length (triangulation arena 0) moves w k

    small_sum : (sum last : Coordinates) → IsSumTo kind sum → IsImageNumber arena moves w kind last
        → ¬ IsTooLarge (triangulation arena 0) moves w kind
    small_sum sum last made is_last (inl (k, over)) =
        is_last.small (
          k,
          subst (λ (n : ℕ). OverflowsAt COORDINATE_LIMIT (triangulation arena 0) w (repeat n moves) k) needs_kind over,
        )
    small_sum sum last made is_last (inr (holds, (e, within, large))) =
        let low : slice_index sum.numbers e < COORDINATE_LIMIT =
        made.at_base.coordinates.small e 0 (omega (arith, sum_length_is kind sum made, within)) in
        let same : slice_index sum.numbers e ≡ slice_index (sum_to (triangulation arena 0) moves w kind) e =
        ap (λ (u : List ℕ). slice_index u e) made.numbers in
        omega (arith, large)

    pub sum_made : (sum last : Coordinates) → IsSumTo kind sum → IsImageNumber arena moves w kind last
        → IsPutTogether arena moves w kind sum
    sum_made sum last made is_last = record {
      at_base = made.at_base;
      numbers =
          made.numbers
          ∙ sym (ap (λ (b : Bool). if b then sum_to (triangulation arena 0) moves w kind
          else differences (image_number (triangulation arena 0) moves w (upper kind))
          (image_number (triangulation arena 0) moves w (lower kind))) is_kind);
      small = small_sum sum last made is_last;
      multicurve = λ none. true_or_false (is_sum kind) is_kind none.0;
    }

    -- where a sum on the way is too large, so is the last
    pub sum_overflows : (k : ℕ) (sum image : Coordinates) (o : Overflow) → k < kind → IsSumTo k sum
        → IsImageNumber arena moves w (k + 1) image → IsLeastOver sum.numbers image.numbers o
        → IsTooLarge (triangulation arena 0) moves w kind
    sum_overflows k sum image o below before is_image over =
        let within : o.edge < length sum.numbers = over.within in
        let here : o.edge < length w = omega (arith, sum_length_is k sum before) in
        let summed : slice_index sum.numbers o.edge
        ≡ slice_index (sum_to (triangulation arena 0) moves w k) o.edge =
        ap (λ (u : List ℕ). slice_index u o.edge) before.numbers in
        let added : slice_index image.numbers o.edge
        ≡ slice_index (image_number (triangulation arena 0) moves w (suc k)) o.edge =
        ap (λ (u : List ℕ). slice_index u o.edge) is_image.numbers
        ∙ ap (λ (n : ℕ). slice_index (image_number (triangulation arena 0) moves w n) o.edge) (add-one k) in
        let more : kind ≡ suc k + (kind - suc k) = omega (arith, below) in
        let grows = sum_grows (triangulation arena 0) moves w (suc k) (kind - suc k) kind o.edge more here in
        let value : o.value ≡ slice_index sum.numbers o.edge + slice_index image.numbers o.edge = over.value in
        let large : COORDINATE_LIMIT ≤ o.value = over.over in
        inr (
          is_kind,
          (
            o.edge,
            here,
            omega (arith, grows, sum_at (triangulation arena 0) moves w k o.edge here, summed, added, value, large),
          ),
        )
