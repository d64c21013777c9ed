-- The images of multicurves under the powers of a word.
use Rattle.std.proofs.Common.{◌≡◌, ◌<◌, ◌≤◌, ◌+◌, ◌-◌, ℕ, zero, suc, ℤ, List, length, refl, sym, ◌∙◌}
use Rattle.std.proofs.Common.{ap, subst, arith}
use Rattle.std.specs.List.{repeat}
use Rattle.std.proofs.lemmas.List.FromFn.{fill_by_all}
use Rattle.ideal_tri.specs.Curves.{crossings}
use Rattle.ideal_tri.specs.Drawings.{draw}
use Rattle.ideal_tri.specs.DrawingLaws.{DrawingLaws}
use Rattle.ideal_tri.specs.Strands.{words_of}
use Rattle.ideal_tri.specs.Triangulations.{IsTriangulation, edge_count}
use Rattle.ideal_tri.specs.Vectors.{IsMulticurve}
use Rattle.tri_atlas.specs.MapLaws.{PathLaws}
use Rattle.tri_atlas.specs.Maps.{images_under, path_map}
use Rattle.tri_atlas.specs.Moves.{Move, ArePath}
use Rattle.tri_atlas.specs.MovedVectors.{vector_along, IsFirstOver, OverflowsAt}
use Rattle.tri_atlas.specs.VectorLaws.{VectorLaws, AlongLaws, OverflowLaws}
use Rattle.edge_coords.specs.Coordinates.{AreSmall}
use Rattle.edge_coords.specs.declared.coords.TheConstants.{COORDINATE_LIMIT}
use Rattle.multicurve_cert.specs.Candidates.{HasSmallImage, image_vector, image_number}
use Rattle.multicurve_cert.specs.Candidates.{Overflows}
use Rattle.multicurve_cert.specs.PowerLaws.{PowerLaws}
use Rattle.multicurve_cert.proofs.Joined.{NoneFirst, over_left, over_right, none_joined}

module _ (triples : List (List ℤ)) (moves : List Move) (laws : VectorLaws) (paths : PathLaws) (drawing : DrawingLaws triples)
    (sound : IsTriangulation triples) (path : ArePath triples moves triples) where
  paths_often : (n : ℕ) → ArePath triples (repeat n moves) triples
  paths_often zero = refl
  paths_often (suc n) = paths.append triples triples triples moves (repeat n moves) path (paths_often n)

  image_along : (ms : List Move) (w : List ℕ) → ArePath triples ms triples → IsMulticurve triples w
      → image_vector triples ms w ≡ vector_along ms w
  image_along ms w on curve =
      let along : AlongLaws triples triples ms w = laws.paths triples triples ms w sound on curve in
      sym (fill_by_all (λ e. crossings e (images_under (path_map ms) (words_of (draw triples w)))) (vector_along ms w)
      (edge_count triples) 0 along.image.one_per_edge
      (λ e within. along.image.counts (draw triples w) (drawing.exists w curve) e within))

  number_along : (w : List ℕ) (n : ℕ) → IsMulticurve triples w
      → image_number triples moves w n ≡ vector_along (repeat n moves) w
  number_along w n curve = image_along (repeat n moves) w (paths_often n) curve

  along_curve : (w : List ℕ) (n : ℕ) → IsMulticurve triples w
      → IsMulticurve triples (vector_along (repeat n moves) w)
  along_curve w n curve = (laws.paths triples triples (repeat n moves) w sound (paths_often n) curve).multicurve

  overflows : (ms : List Move) (w : List ℕ) → ArePath triples ms triples → IsMulticurve triples w → AreSmall w
      → OverflowLaws triples ms w COORDINATE_LIMIT
  overflows ms w on curve small = laws.overflow triples triples ms w COORDINATE_LIMIT sound on curve small

  none_first : (w : List ℕ) (n : ℕ) → IsMulticurve triples w → AreSmall w → ¬ Overflows triples moves w n
      → NoneFirst COORDINATE_LIMIT w (repeat n moves)
  none_first w n curve small none k h =
      none (k, ((overflows (repeat n moves) w (paths_often n) curve small).first k).1 h)

  module _ (w : List ℕ) (n : ℕ) (curve : IsMulticurve triples w) (small : AreSmall w) where
    abbrev here : List ℕ
    here = image_number triples moves w n

    is_along : here ≡ vector_along (repeat n moves) w
    is_along = number_along w n curve

    here_curve : IsMulticurve triples here
    here_curve = subst (IsMulticurve triples) (sym is_along) (along_curve w n curve)

    module _ (small_here : AreSmall here) (none : ¬ Overflows triples moves w n) where
      next_small : HasSmallImage triples moves here → ¬ Overflows triples moves w (n + 1)
      next_small low (k, h) =
          none_joined laws COORDINATE_LIMIT w (repeat n moves) moves (none_first w n curve small none)
          (λ i over. low i (((overflows moves here path here_curve small_here).first i).1
          (subst (λ (v : List ℕ). IsFirstOver COORDINATE_LIMIT v moves i) (sym is_along) over))) k
          (subst (λ (ms : List Move). IsFirstOver COORDINATE_LIMIT w ms k) (paths.repeats.more n moves)
          (((overflows (repeat (n + 1) moves) w (paths_often (n + 1)) curve small).first k).0 h))

      next_large : (k : ℕ) → OverflowsAt COORDINATE_LIMIT triples here moves k → Overflows triples moves w (n + 1)
      next_large k h =
          let there = length (repeat n moves) + k in (
            there,
            ((overflows (repeat (n + 1) moves) w (paths_often (n + 1)) curve small).first there).1
                (subst (λ (ms : List Move). IsFirstOver COORDINATE_LIMIT w ms there) (sym (paths.repeats.more n moves))
                (over_right laws COORDINATE_LIMIT w (repeat n moves) moves k (none_first w n curve small none)
                (subst (λ (v : List ℕ). IsFirstOver COORDINATE_LIMIT v moves k) is_along
                (((overflows moves here path here_curve small_here).first k).0 h)))),
          )

    later : (m : ℕ) → n ≤ m → Overflows triples moves w n → Overflows triples moves w m
    later m more (k, h) =
        let on : m ≡ n + (m - n) = omega arith in (
          k,
          ((overflows (repeat m moves) w (paths_often m) curve small).first k).1
              (subst (λ (ms : List Move). IsFirstOver COORDINATE_LIMIT w ms k) (sym (ap (λ (i : ℕ). repeat i moves) on ∙ paths.repeats.join n (m - n) moves))
              (over_left laws COORDINATE_LIMIT w (repeat n moves) (repeat (m - n) moves) k
              (((overflows (repeat n moves) w (paths_often n) curve small).first k).0 h))),
        )

  pub power_laws : PowerLaws triples moves
  power_laws = record {
    path = paths_often;
    along = λ w n curve. number_along w n curve;
    image = λ w curve. image_along moves w path curve;
    none = λ w curve. number_along w 0 curve;
    none_small = λ w over. let within : over.0 < 0 = over.1.within in omega arith;
    next = λ w n curve. number_along w (n + 1) curve
        ∙ ap (λ (ms : List Move). vector_along ms w) (paths.repeats.more n moves)
        ∙ laws.join (repeat n moves) moves w
        ∙ ap (vector_along moves) (sym (number_along w n curve));
    next_small = λ w n curve small small_here none low. next_small w n curve small small_here none low;
    next_large = λ w n k curve small small_here none large. next_large w n curve small small_here none k large;
    later = λ w n m curve small more over. later w n curve small m more over;
  }
