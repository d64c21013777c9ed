-- The candidates, tried in order.
use Rattle.std.proofs.Common.{◌≡◌, ◌<◌, ◌≤◌, ◌+◌, ◌%◌, inl, inr, ℕ, ℤ, List, [], ◌∷◌, ◌++◌, length, min}
use Rattle.std.proofs.Common.{get_or, set, sym, ◌∙◌, ap, subst, arith}
use Rattle.std.proofs.lemmas.Bool.{cases_eq}
use Rattle.std.proofs.lemmas.List.{length-append, length-set, get_or_append_left, get_or-set_same, get_or-set_other}
use Rattle.std.proofs.Math.Nat.{mod-eq_of_lt, mod-lt}
use Rattle.std.proofs.Math.Seq.{get_or-append_seam}
use Rattle.tri_atlas.specs.Arena.{Arena}
use Rattle.tri_atlas.specs.Moves.{Move}
use Rattle.edge_coords.specs.Coordinates.{Coordinates}
use Rattle.edge_coords.specs.declared.lines.CurveLine.{CurveLine}
use Rattle.edge_coords.specs.declared.lines.CurveLine.TheVariants.{Overflow, NotMulticurve, Empty, Moved}
use Rattle.multicurve_cert.specs.Candidates.{candidate, IsLineOf, Passes}
use Rattle.multicurve_cert.specs.inside.Among.{AreFailingAmong, AreImagesFrom, AreKept, IsFirstAmong}
use Rattle.multicurve_cert.specs.inside.Among.{PassesAmong, count_among, kind_at, vector_at}
use Rattle.multicurve_cert.specs.inside.Images.{coords_at}
use Rattle.multicurve_cert.specs.declared.images.Images.{Images}
use Rattle.multicurve_cert.proofs.Joined.{below_or_on}

-- a candidate with a line doesn't pass
pub line_fails : (triples : List (List ℤ)) (moves : List Move) (w : List ℕ) (kind : ℕ) (line : CurveLine)
    → IsLineOf triples moves w kind line → ¬ Passes triples moves w kind
line_fails triples moves w kind Overflow (inl large) passes = passes.0.small large
line_fails triples moves w kind Overflow (inr (some, (k, over))) passes = passes.1 k over
line_fails triples moves w kind NotMulticurve h passes = passes.0.multicurve h.1
line_fails triples moves w kind Empty h passes = passes.0.some h.2
line_fails triples moves w kind Moved h passes = h.2 passes.2

module _ (arena : Arena) (moves : List Move) (vectors : List Coordinates) (n : ℕ) (kept : List Images)
    (before : AreKept arena moves vectors n kept) where
  -- the images of one more vector
  pub kept_more : (images : Images) (more : List Images) → n < length vectors
      → AreImagesFrom arena moves (coords_at vectors n).numbers images → more ≡ kept ++ images ∷ []
      → AreKept arena moves vectors (n + 1) more
  kept_more images more within new pushed = subst (AreKept arena moves vectors (n + 1)) (sym pushed) (record {
    counted = omega (arith, length-append kept (images ∷ []), before.counted);
    each = λ i other inside. elim (cases_eq i (length kept)) [
      | inl e ↦
          let here : i ≡ n = omega (arith, before.counted, e) in
          subst (λ (k : ℕ). AreImagesFrom arena moves (coords_at vectors k).numbers
          (get_or (kept ++ images ∷ []) i other)) (sym here)
          (subst (AreImagesFrom arena moves (coords_at vectors n).numbers)
          (sym (ap (λ (k : ℕ). get_or (kept ++ images ∷ []) k other) e ∙ get_or-append_seam kept images [] other)) new)
      | inr apart ↦
          let low : i < length kept = omega (arith, length-append kept (images ∷ []), apart) in
          subst (AreImagesFrom arena moves (coords_at vectors i).numbers)
          (sym (get_or_append_left kept (images ∷ []) other i low)) (before.each i other low)
    ];
  })

  -- or none, where all are there
  pub kept_all : length vectors ≤ n → AreKept arena moves vectors (n + 1) kept
  kept_all past = record { counted = omega (arith, before.counted); each = before.each }

  -- as they are read
  pub kept_at : (place : ℕ) (images : Images) → place < length kept → images ≡ get_or kept place images
      → AreImagesFrom arena moves (coords_at vectors place).numbers images
  kept_at place images inside is =
      subst (AreImagesFrom arena moves (coords_at vectors place).numbers) (sym is) (before.each place images inside)

  -- images that are carried on stay those of their vector
  pub kept_on : (place : ℕ) (images : Images) → place < length kept
      → AreImagesFrom arena moves (coords_at vectors place).numbers images
      → AreKept arena moves vectors n (set kept place images)
  kept_on place images inside new = record {
    counted = length-set kept place images ∙ before.counted;
    each = λ i other low. elim (cases_eq i place) [
      | inl e ↦
          subst (λ (k : ℕ). AreImagesFrom arena moves (coords_at vectors k).numbers (get_or (set kept place images) k other))
          (sym e)
          (subst (AreImagesFrom arena moves (coords_at vectors place).numbers)
          (sym (get_or-set_same kept place images other inside)) new)
      | inr apart ↦
          let here : i < length kept = omega (arith, length-set kept place images) in
          subst (AreImagesFrom arena moves (coords_at vectors i).numbers)
          (sym (get_or-set_other kept place i images other apart)) (before.each i other here)
    ];
  }

-- the place of the vector of candidate n is among those that are kept
pub place_kept : (n m : ℕ) → 0 < m → n % m < min (n + 1) m
place_kept n m some = elim (below_or_on n m) [
  | inl low ↦ let here : n % m ≡ n = mod-eq_of_lt low in omega arith
  | inr on ↦
      let below : n % m < m = mod-lt n some in
      let e : n ≡ m + on.0 = on.1 in
      omega arith
]

module _ (triples : List (List ℤ)) (moves : List Move) (vectors : List Coordinates) (n : ℕ) (log : List CurveLine)
    (failing : AreFailingAmong triples moves vectors n log) where
  -- one more line
  pub failing_more : (line : CurveLine) (more : List CurveLine)
      → IsLineOf triples moves (vector_at vectors n) (kind_at vectors n) line → more ≡ log ++ line ∷ []
      → AreFailingAmong triples moves vectors (n + 1) more
  failing_more line more new pushed = subst (AreFailingAmong triples moves vectors (n + 1)) (sym pushed) (record {
    one_line_each = omega (arith, length-append log (line ∷ []), failing.one_line_each);
    lines = λ k other inside. elim (cases_eq k (length log)) [
      | inl e ↦
          let here : k ≡ n = e ∙ failing.one_line_each in
          subst (λ (i : ℕ). IsLineOf triples moves (vector_at vectors i) (kind_at vectors i)
          (get_or (log ++ line ∷ []) k other)) (sym here)
          (subst (IsLineOf triples moves (vector_at vectors n) (kind_at vectors n))
          (sym (ap (λ (i : ℕ). get_or (log ++ line ∷ []) i other) e ∙ get_or-append_seam log line [] other)) new)
      | inr apart ↦
          let low : k < length log = omega (arith, length-append log (line ∷ []), apart) in
          subst (IsLineOf triples moves (vector_at vectors k) (kind_at vectors k))
          (sym (get_or_append_left log (line ∷ []) other k low)) (failing.lines k other low)
    ];
  })

  -- the first that passes
  pub found_first : (budget : ℕ) (numbers : List ℕ) → n < count_among vectors budget
      → PassesAmong triples moves vectors n
      → numbers ≡ candidate triples moves (vector_at vectors n) (kind_at vectors n)
      → IsFirstAmong triples moves vectors budget n numbers
  found_first budget numbers within passes are = record {
    within = within;
    passes = passes;
    are_numbers = are;
    before = λ k low. line_fails triples moves (vector_at vectors k) (kind_at vectors k) (get_or log k Empty)
        (failing.lines k Empty (omega (arith, failing.one_line_each)));
  }
