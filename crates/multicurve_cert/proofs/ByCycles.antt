-- The search among the vectors of cycles is the search among cycles.
use Rattle.std.proofs.Common.{◌≡◌, ◌<◌, ◌/◌, ◌%◌, ◌*◌, ℕ, ℤ, List, [], length, map, get_or, min, sym, ◌∙◌, ap, subst, arith}
use Rattle.std.proofs.Common.{All}
use Rattle.std.proofs.lemmas.List.{get_or-map, length-map}
use Rattle.std.proofs.Math.Nat.{mod-lt}
use Rattle.tri_atlas.specs.Moves.{Move}
use Rattle.free_groupoid.specs.Walks.{DualWalk, walk_of_letters}
use Rattle.edge_coords.specs.Coordinates.{Coordinates}
use Rattle.multicurve_cert.specs.Candidates.{candidate, kinds, IsLineOf, Passes}
use Rattle.multicurve_cert.specs.CurveAnswers.{candidate_count, kind_of, vector_of, IsCurvesAnswer}
use Rattle.multicurve_cert.specs.Cycles.{cycle_vector, AreCycleWalks, IsCycle}
use Rattle.multicurve_cert.specs.inside.Among.{count_among, kind_at, vector_at, IsAnswerAmong}
use Rattle.multicurve_cert.specs.inside.Images.{coords_at}
use Rattle.multicurve_cert.specs.declared.curve_search.Curves.{Curves}
use Rattle.multicurve_cert.specs.declared.curve_search.Curves.TheVariants.{Found, None}

module _ (triples : List (List ℤ)) (words : List (List ℤ)) (walks : List DualWalk)
    (are : AreCycleWalks triples words walks) where
  walk_is : (i : ℕ) (d : DualWalk) → i < length words → get_or walks i d ≡ walk_of_letters triples (get_or words i [])
  walk_is i d inside =
      ap (λ (ws : List DualWalk). get_or ws i d) are.1 ∙ get_or-map (walk_of_letters triples) words i [] d inside

  as_many_walks : length walks ≡ length words
  as_many_walks = ap length are.1 ∙ length-map words (walk_of_letters triples)

  -- the letters of each walk are a cycle
  pub each_walk : All (λ w. IsCycle triples w.letters) walks
  each_walk i d inside =
      let within : i < length words = omega (arith, as_many_walks) in
      subst (λ (w : DualWalk). IsCycle triples w.letters) (sym (walk_is i d within)) (are.0.each i [] within)

  module _ (vectors : List Coordinates) (numbers : map (λ c. c.numbers) vectors
      ≡ map (λ w. cycle_vector triples w.letters) walks) (some : 0 < length walks) where
    as_many : length vectors ≡ length words
    as_many =
        sym (length-map vectors (λ c. c.numbers)) ∙ ap length numbers
        ∙ length-map walks (λ w. cycle_vector triples w.letters) ∙ as_many_walks

    vector_is : (i : ℕ) → i < length vectors
        → (coords_at vectors i).numbers ≡ cycle_vector triples (get_or words i [])
    vector_is i inside =
        let within : i < length words = omega (arith, as_many) in
        let among : i < length walks = omega (arith, as_many, as_many_walks) in
        sym (get_or-map (λ (c : Coordinates). c.numbers) vectors i _ [] inside)
        ∙ ap (λ (vs : List (List ℕ)). get_or vs i []) numbers
        ∙ get_or-map (λ (w : DualWalk). cycle_vector triples w.letters) walks i
        (record { start = 0; letters = [] }) [] among
        ∙ ap (λ (w : DualWalk). cycle_vector triples w.letters) (walk_is i _ within)

    same_vector : (n : ℕ) → vector_at vectors n ≡ vector_of triples words n
    same_vector n =
        let many : 0 < length vectors = omega (arith, as_many, as_many_walks, some) in
        vector_is (n % length vectors) (mod-lt n many)
        ∙ ap (λ (m : ℕ). cycle_vector triples (get_or words (n % m) [])) as_many

    same_kind : (n : ℕ) → kind_at vectors n ≡ kind_of words n
    same_kind n = ap (λ (m : ℕ). n / m) as_many

    same_count : (budget : ℕ) → count_among vectors budget ≡ candidate_count words budget
    same_count budget = ap (λ (m : ℕ). min budget (kinds * m)) as_many

    -- what holds of a vector and a kind
    there : (P : List ℕ → ℕ → Type 0) (n : ℕ) → P (vector_at vectors n) (kind_at vectors n)
        → P (vector_of triples words n) (kind_of words n)
    there P n h =
        subst (P (vector_of triples words n)) (same_kind n)
        (subst (λ (w : List ℕ). P w (kind_at vectors n)) (same_vector n) h)

    back : (P : List ℕ → ℕ → Type 0) (n : ℕ) → P (vector_of triples words n) (kind_of words n)
        → P (vector_at vectors n) (kind_at vectors n)
    back P n h =
        subst (P (vector_at vectors n)) (sym (same_kind n))
        (subst (λ (w : List ℕ). P w (kind_of words n)) (sym (same_vector n)) h)

    pub by_cycles : (moves : List Move) (budget : ℕ) (answer : Curves)
        → IsAnswerAmong triples moves vectors budget answer → IsCurvesAnswer triples moves budget answer
    by_cycles moves budget (Found number coords) h = record {
      cycles = words;
      are_cycles = are.0;
      within = subst (λ (m : ℕ). number < m) (same_count budget) h.within;
      passes = there (Passes triples moves) number h.passes;
      are_numbers = there (λ w kind. coords.numbers ≡ candidate triples moves w kind) number h.are_numbers;
      before = λ n low passes. h.before n low (back (Passes triples moves) n passes);
    }
    by_cycles moves budget (None log) h = record {
      cycles = words;
      are_cycles = are.0;
      one_line_each = h.one_line_each ∙ same_count budget;
      lines = λ n line inside. there (λ w kind. IsLineOf triples moves w kind (get_or log.items n line)) n
          (h.lines n line inside);
    }
