-- Paths joined and backwards, the labels in their images, and a path with another in its midst.
--
-- Let flips lead from one triangulation to another, and other moves from there to itself. The path of the flips, these
-- moves and the flips backwards has the map of the moves, carried back along the flips: the image of a label under
-- the flips has labels of the end alone, and a word may be reduced before it is mapped.
use Rattle.std.proofs.Common.{ℕ, ℤ, List, [], ◌∷◌, ◌++◌, ◌≡◌, sym, ◌∙◌, ap}
use Rattle.std.proofs.Common.{append_assoc, get_or}
use Rattle.std.specs.List.{All, flat_map}
use Rattle.ideal_tri.specs.Labels.{inverse}
use Rattle.ideal_tri.specs.Words.{reduce}
use Rattle.ideal_tri.specs.Triangulations.{IsTriangulation, IsLabel, triangle_of}
use Rattle.ideal_tri.specs.Vectors.{IsMulticurve}
use Rattle.tri_atlas.specs.Moves.{Move, ArePath, back_along}
use Rattle.tri_atlas.specs.Maps.{after, path_map}
use Rattle.tri_atlas.specs.MovedVectors.{vector_along}
use Rattle.curve_shorten.specs.Twists.{carried_back}
use Rattle.twist_compile.proofs.LowerLaws.{LowerLaws}

-- ---- paths joined and backwards

module _ (laws : LowerLaws) where
  -- a path with another in its midst, backwards
  pub back_along-around : (before target : List (List ℤ)) (flips moves : List Move) → ArePath before flips target
      → back_along (flips ++ (moves ++ back_along flips)) ≡ flips ++ (back_along moves ++ back_along flips)
  back_along-around before target flips moves h =
      laws.maps.paths.back_append flips (moves ++ back_along flips)
      ∙ ap (λ (ms : List Move). ms ++ back_along flips)
      (laws.maps.paths.back_append moves (back_along flips)
      ∙ ap (λ (ms : List Move). ms ++ back_along moves) (laws.maps.paths.back_twice before target flips h))
      ∙ append_assoc flips (back_along moves) (back_along flips)

  pub ArePath-around : (before target : List (List ℤ)) (flips moves : List Move) → IsTriangulation before
      → ArePath before flips target → ArePath target moves target
      → ArePath before (flips ++ (moves ++ back_along flips)) before
  ArePath-around before target flips moves p h k =
      laws.maps.paths.append before target before flips (moves ++ back_along flips) h
      (laws.maps.paths.append target target before moves (back_along flips) k (laws.maps.paths.back before target flips p h))

  -- ---- the images of labels are labels

  pub image_labels : (before target : List (List ℤ)) (moves : List Move) (x : ℤ) → IsTriangulation before
      → ArePath before moves target → IsLabel before x → All (IsLabel target) (path_map moves x)
  image_labels before target moves x p h l =
      let (triangles, along) = laws.maps.paths.maps before target moves p h in
      laws.surfaces.letters target (triangles (triangle_of before x)) (triangles (triangle_of before (inverse x)))
      (path_map moves x) (along.walks x l)

  -- ---- a path with another in its midst

  pub path_map-around : (before target : List (List ℤ)) (flips moves : List Move) (f : ℤ → List ℤ) (x : ℤ)
      → IsTriangulation before → ArePath before flips target
      → ((y : ℤ) → IsLabel target y → path_map moves y ≡ f y) → IsLabel before x
      → path_map (flips ++ (moves ++ back_along flips)) x ≡ carried_back flips f x
  path_map-around before target flips moves f x p h same l =
      laws.maps.paths.join flips (moves ++ back_along flips) x
      ∙ ap reduce
      (laws.maps.substitutions.agree (path_map (moves ++ back_along flips)) (after (path_map (back_along flips))
      (path_map moves)) there (λ k d inside. laws.maps.paths.join moves (back_along flips) (get_or there k d)))
      ∙ laws.maps.substitutions.compose (path_map moves) (path_map (back_along flips)) there
      (laws.maps.paths.odd moves) (laws.maps.paths.odd (back_along flips))
      ∙ ap (λ (w : List ℤ). reduce (flat_map (path_map (back_along flips)) w))
      (laws.maps.substitutions.agree (path_map moves) f there
      (λ k d inside. same (get_or there k d) (image_labels before target flips x p h l k d inside)))
      ∙ sym (laws.maps.substitutions.reduced_before (path_map (back_along flips)) (flat_map f there)
      (laws.maps.paths.odd (back_along flips)))
    where
      there : List ℤ
      there = path_map flips x

  -- the moves backwards undo a path
  pub path_undone : (before target : List (List ℤ)) (moves : List Move) (x : ℤ) → IsTriangulation before
      → ArePath before moves target → IsLabel before x
      → after (path_map (back_along moves)) (path_map moves) x ≡ x ∷ []
  path_undone before target moves x p h l =
      sym (laws.maps.paths.join moves (back_along moves) x) ∙ laws.maps.paths.undo before target moves x p h l

  -- moves that fix the vector at the end of flips fix the vector, carried back
  pub fixed_around : (before target : List (List ℤ)) (flips moves : List Move) (w : List ℕ) → IsTriangulation before
      → ArePath before flips target → IsMulticurve before w
      → vector_along moves (vector_along flips w) ≡ vector_along flips w
      → vector_along (flips ++ (moves ++ back_along flips)) w ≡ w
  fixed_around before target flips moves w p h m fixed =
      laws.vectors.join flips (moves ++ back_along flips) w
      ∙ laws.vectors.join moves (back_along flips) (vector_along flips w)
      ∙ ap (vector_along (back_along flips)) fixed
      ∙ (laws.vectors.paths before target flips w p h m).back

  -- moves that fix a vector fix it backwards
  pub fixed_back : (before target : List (List ℤ)) (moves : List Move) (w : List ℕ) → IsTriangulation before
      → ArePath before moves target → IsMulticurve before w → vector_along moves w ≡ w
      → vector_along (back_along moves) w ≡ w
  fixed_back before target moves w p h m fixed =
      ap (vector_along (back_along moves)) (sym fixed) ∙ (laws.vectors.paths before target moves w p h m).back
