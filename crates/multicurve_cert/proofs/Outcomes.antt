-- The first test that a candidate fails.
use Rattle.std.proofs.Common.{◌≡◌, ◌<◌, ◌≤◌, ◌⊎◌, inl, inr, ℕ, ℤ, List, length, Bool, true, refl, subst, arith}
use Rattle.ideal_tri.specs.PeripheralParts.{stripped}
use Rattle.tri_atlas.specs.Arena.{Arena, triangulation}
use Rattle.tri_atlas.specs.Moves.{Move}
use Rattle.edge_coords.specs.Coordinates.{Coordinates}
use Rattle.edge_coords.specs.declared.lines.CurveLine.{CurveLine}
use Rattle.edge_coords.specs.declared.lines.CurveLine.TheVariants.{Overflow, NotMulticurve, Empty, Moved}
use Rattle.multicurve_cert.specs.Candidates.{candidate, needed, put_together, IsLineOf, IsNoMulticurve, IsTooLarge}
use Rattle.multicurve_cert.specs.inside.Images.{AreImages, first_of}
use Rattle.multicurve_cert.specs.Candidates.{Overflows}
use Rattle.multicurve_cert.specs.PowerLaws.{PowerLaws}
use Rattle.multicurve_cert.specs.LastTests.{IsLastLine}
use Rattle.multicurve_cert.proofs.ImageList.{first_curve, first_small}

-- a candidate that passes the first two tests fails one of the others first
line_of : (triples : List (List ℤ)) (moves : List Move) (w : List ℕ) (kind : ℕ)
    → ¬ IsTooLarge triples moves w kind → ¬ IsNoMulticurve triples moves w kind → (line : CurveLine)
    → IsLastLine triples moves (candidate triples moves w kind) line → IsLineOf triples moves w kind line
line_of triples moves w kind small curve Overflow h =
    inr (record { small = small; multicurve = curve; some = h.0 }, h.1)
line_of triples moves w kind small curve NotMulticurve h = absurd h
line_of triples moves w kind small curve Empty h = (small, curve, h)
line_of triples moves w kind small curve Moved h =
    (record { small = small; multicurve = curve; some = h.0 }, h.1, h.2)

pub last_line : (triples : List (List ℤ)) (moves : List Move) (w : List ℕ) (kind : ℕ) (made : List ℕ)
    → made ≡ put_together triples moves w kind → ¬ IsTooLarge triples moves w kind
    → ¬ IsNoMulticurve triples moves w kind → (line : CurveLine)
    → IsLastLine triples moves (stripped triples made) line → IsLineOf triples moves w kind line
last_line triples moves w kind made is small curve line h =
    line_of triples moves w kind small curve line
    (subst (λ (v : List ℕ). IsLastLine triples moves (stripped triples v) line) is h)

-- where the images end before all are there that it needs, one of these is too large
module _ (arena : Arena) (moves : List Move) (laws : PowerLaws (triangulation arena 0) moves) (ended : Bool)
    (list : List Coordinates) (images : AreImages arena moves ended list) (number : ℕ)
    (wanting : length list ≤ number) where
  has_ended : (number < length list) ⊎ (ended ≡ true) → ended ≡ true
  has_ended (inl enough) = absurd (omega arith)
  has_ended (inr end) = end

  pub too_large : (number < length list) ⊎ (ended ≡ true) → (kind : ℕ) → number ≡ needed kind → (w : List ℕ)
      → first_of list ≡ w → IsTooLarge (triangulation arena 0) moves w kind
  too_large far kind all w first =
      inl (subst (λ (n : ℕ). Overflows (triangulation arena 0) moves w n) all
      (subst (λ (v : List ℕ). Overflows (triangulation arena 0) moves v number) first
      (laws.later (first_of list) (length list) number
      (first_curve arena moves laws (first_of list) list images.images refl)
      (first_small arena moves laws (first_of list) list images.images refl) wanting (images.end (has_ended far)))))
