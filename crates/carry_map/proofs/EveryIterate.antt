-- Every iterate of every closed legal walk of a carried track.
--
-- Let v be an n-th image of the closed legal walk w. It is a closed legal walk again, so nothing in it can be reduced,
-- and the n-th iterate of the map takes w to a conjugate of v: turn v to begin at a switch, and the map takes it to the
-- joined train paths, with a walk there and back round them. The passes of a closed legal walk are counted alike
-- wherever it begins, so the matrix applied to the counts of v gives those of the next image. The bounds hold for all
-- columns, so for these.
use Rattle.std.proofs.Common.{ℕ, zero, suc, ℤ, List, ◌≡◌, ◌<◌, ◌*◌, refl, sym, ◌∙◌, ap, subst, length}
use Rattle.std.specs.List.{flat_map}
use Rattle.ideal_tri.specs.Words.{cyclic_reduce, IsRotation}
use Rattle.ideal_tri.specs.WordLaws.{WordLaws}
use Rattle.tri_atlas.specs.Maps.{IsOdd}
use Rattle.tri_atlas.specs.MapLaws.{SubstitutionLaws}
use Rattle.train_track.specs.Passes.{Pass}
use Rattle.transition_matrix.specs.Matrices.{Square, entry}
use Rattle.transition_matrix.specs.Bounds.{applied, iterated}
use Rattle.transition_matrix.specs.MatrixLaws.{SumLaws, GrowthLaws}
use Rattle.carry_map.specs.CarriedMaps.{Carrying}
use Rattle.carry_map.specs.Iterates.{times, IsLegalLoop, ArePassesRound, CountsPasses, passed, joined_paths}
use Rattle.carry_map.specs.Iterates.{IsCarriedTo, IsCarriedOften}
use Rattle.carry_map.specs.IterateLaws.{LoopLaws, CarriedLaws}
use Rattle.carry_map.proofs.PassFacts.{PassFacts}
use Rattle.carry_map.proofs.CarriedFacts.{CarriedFacts}
use Rattle.carry_map.proofs.Conjugates.{AreConjugate, same_reduction, there_and_back, conjugate_along}
use Rattle.carry_map.proofs.Conjugates.{conjugate_reduced, conjugate_images}
use Rattle.carry_map.proofs.Powers.{times_odd}

-- what lower layers prove, as far as it is used here
pub record IterateBase : Type 0 where
  pub words : WordLaws
  pub substitutions : SubstitutionLaws
  pub sums : SumLaws
  pub growth : GrowthLaws

-- columns that agree below the size have the same product
applied_same : SumLaws → (m : Square) (y z : ℕ → ℕ) (i : ℕ) → ((j : ℕ) → j < m.size → y j ≡ z j)
    → applied m y i ≡ applied m z i
applied_same sums m y z i same =
    sums.same m.size (λ j. entry m i j * y j) (λ j. entry m i j * z j)
    (λ j below. ap (λ (k : ℕ). entry m i j * k) (same j below))

module _ (base : IterateBase) (triples : List (List ℤ)) (left_out : List ℤ) (branches : List (List ℤ))
    (f : ℤ → List ℤ) (c : Carrying) (m : Square) (odd : IsOdd f) (size : m.size ≡ length branches)
    (facts : PassFacts triples left_out branches) (loops : LoopLaws triples left_out branches)
    (carrying : CarriedFacts triples left_out branches f c m) where
  -- ---- one image

  turned_legal : (u v : List ℤ) → IsLegalLoop triples left_out u → (to : IsCarriedTo branches c.images u v)
      → IsLegalLoop triples left_out to.turned
  turned_legal u v legal to = facts.loop_rotation u to.turned to.rotation legal

  image_legal : (u v : List ℤ) → IsLegalLoop triples left_out u → IsCarriedTo branches c.images u v
      → IsLegalLoop triples left_out v
  image_legal u v legal to =
      subst (IsLegalLoop triples left_out) (sym to.joined)
      (carrying.legal to.turned to.passes (turned_legal u v legal to) to.round)

  -- the map takes a walk that is conjugate to u to one that is conjugate to its image
  image_conjugate : (w u v : List ℤ) → IsLegalLoop triples left_out u → IsCarriedTo branches c.images u v
      → IsRotation (cyclic_reduce w) u → AreConjugate (flat_map f w) v
  image_conjugate w u v legal to there =
      let turned : IsRotation (cyclic_reduce w) to.turned =
      base.words.rotations.along (cyclic_reduce w) u to.turned there to.rotation in
      let (a, image) = carrying.image to.turned to.passes (turned_legal u v legal to) to.round in
      let joined : List ℤ = joined_paths c.images to.passes in
      conjugate_along base.words (flat_map f w) (flat_map f to.turned) v
      (conjugate_images base.words base.substitutions f w to.turned odd turned)
      (subst (AreConjugate (flat_map f to.turned)) (sym to.joined)
      (there_and_back base.words a (flat_map f to.turned) joined image))

  -- and the matrix counts the passes of the image
  image_counts : (u v : List ℤ) (y : ℕ → ℕ) → IsLegalLoop triples left_out u → IsCarriedTo branches c.images u v
      → CountsPasses branches u y → CountsPasses branches v (applied m y)
  image_counts u v y legal to counted =
      let onward : List Pass = flat_map carrying.onward to.passes in
      let round : ArePassesRound branches onward v =
      subst (ArePassesRound branches onward) (sym to.joined)
      (carrying.round to.turned to.passes (turned_legal u v legal to) to.round) in
      let here : CountsPasses branches u (passed to.passes) = record {
        turned = to.turned;
        rotation = to.rotation;
        passes = to.passes;
        round = to.round;
        counts = λ i below. refl;
      } in
      let same : (j : ℕ) → j < m.size → y j ≡ passed to.passes j =
      λ j below. loops.only u y (passed to.passes) legal counted here j (subst (λ (k : ℕ). j < k) size below) in
      record {
        turned = v;
        rotation = base.words.rotations.same v;
        passes = onward;
        round = round;
        counts = λ i below.
            applied_same base.sums m y (passed to.passes) i same
            ∙ sym (carrying.counts to.turned to.passes i to.round (subst (λ (k : ℕ). i < k) (sym size) below));
      }

  -- ---- n images

  often_legal : (w : List ℤ) (n : ℕ) (v : List ℤ) → IsLegalLoop triples left_out w
      → IsCarriedOften branches c.images n w v → IsLegalLoop triples left_out v
  often_legal w zero v legal often = subst (IsLegalLoop triples left_out) (sym often) legal
  often_legal w (suc n) v legal (u, often, to) = image_legal u v (often_legal w n u legal often) to

  often_counts : (w : List ℤ) (y : ℕ → ℕ) (n : ℕ) (v : List ℤ) → IsLegalLoop triples left_out w
      → CountsPasses branches w y → IsCarriedOften branches c.images n w v
      → CountsPasses branches v (iterated m n y)
  often_counts w y zero v legal counted often = subst (λ (z : List ℤ). CountsPasses branches z y) (sym often) counted
  often_counts w y (suc n) v legal counted (u, often, to) =
      image_counts u v (iterated m n y) (often_legal w n u legal often) to
      (often_counts w y n u legal counted often)

  often_image : (w : List ℤ) (n : ℕ) (v : List ℤ) → IsLegalLoop triples left_out w
      → IsCarriedOften branches c.images n w v → IsRotation (cyclic_reduce (flat_map (times n f) w)) v
  often_image w zero v legal often =
      let there : cyclic_reduce (flat_map (times zero f) w) ≡ v =
      ap cyclic_reduce (base.substitutions.none w) ∙ base.words.cyclic.fixed w (facts.loop_reduced w legal)
      ∙ sym often in
      subst (λ (z : List ℤ). IsRotation z v) (sym there) (base.words.rotations.same v)
  often_image w (suc n) v legal (u, often, to) =
      let loop : IsLegalLoop triples left_out u = often_legal w n u legal often in
      let before : List ℤ = flat_map (times n f) w in
      let all : List ℤ = flat_map (times (suc n) f) w in
      conjugate_reduced base.words all v (facts.loop_reduced v (image_legal u v loop to))
      (conjugate_along base.words all (flat_map f before) v
      (same_reduction base.words all (flat_map f before)
      (base.substitutions.compose (times n f) f w (times_odd base.substitutions f n odd) odd))
      (image_conjugate before u v loop to (often_image w n u legal often)))

  -- each closed legal walk has an n-th image
  often_carried : (w : List ℤ) (n : ℕ) → IsLegalLoop triples left_out w
      → (v : List ℤ) × IsCarriedOften branches c.images n w v
  often_carried w zero legal = (w, refl)
  often_carried w (suc n) legal =
      let (u, often) = often_carried w n legal in
      let (turned, rotation, passes, round) = facts.begun u (often_legal w n u legal often) in (
        joined_paths c.images passes,
        (
          u,
          often,
          record { turned = turned; rotation = rotation; passes = passes; round = round; joined = refl },
        ),
      )

  pub carried_laws : CarriedLaws triples left_out branches f c m
  carried_laws = record {
    carried = often_carried;
    iterates = λ w y n v legal counted often. record {
      legal = often_legal w n v legal often;
      image = often_image w n v legal often;
      passes = often_counts w y n v legal counted often;
      at_least = λ u low high bounds. base.growth.at_least m u low high n y bounds;
      at_most = λ u low high bounds. base.growth.at_most m u low high n y bounds;
    };
  }
