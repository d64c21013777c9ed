-- The maps of paths: they respect inverses, follow each other where paths do, and are undone by the path backwards.
--
-- The map of a path is built up move by move behind the identity, and reduced after each move. Behind any map f whose
-- images are reduced the same moves give the map of the path after f: by induction on the moves, since a word may be
-- reduced before it is mapped. This gives the map of two paths joined, and that of a first move followed by a path.
--
-- A path and the same path backwards run along the first move, along the rest and back, and along the first move
-- backwards. The rest and back is the identity on the labels of the triangulation after the first move, by induction,
-- and the letters of the image of a label are such labels. What is left is the first move and its backward move,
-- which undo each other.
use Rattle.std.proofs.Common.{get_or, ℤ, List, [], ◌∷◌, ◌++◌, ◌≡◌, refl, sym, ◌∙◌, ap, append_assoc, map}
use Rattle.std.specs.List.{All, flat_map}
use Rattle.std.proofs.lemmas.List.{append-nil, reverse-append}
use Rattle.ideal_tri.specs.Words.{reduce}
use Rattle.ideal_tri.specs.Triangulations.{IsTriangulation, IsLabel}
use Rattle.tri_atlas.specs.Moves.{Move, back_of, ArePath, back_along}
use Rattle.tri_atlas.specs.Maps.{IsOdd, identity, after, image_of_letter, map_behind, path_map}
use Rattle.tri_atlas.proofs.LowerLaws.{LowerLaws}
use Rattle.tri_atlas.proofs.Substitutions.{reduce-flat_map_reduce, flat_map-respects, flat_map-after, IsOdd-after}
use Rattle.tri_atlas.proofs.Substitutions.{flat_map-identity, flat_map-same, flat_map-same_at}
use Rattle.tri_atlas.proofs.Moves.{image_of_letter-odd, image_of_letter-labels, move_undone}

module _ (laws : LowerLaws) where
  -- ---- paths

  map_behind-odd : (f : ℤ → List ℤ) (moves : List Move) → IsOdd f → IsOdd (map_behind f moves)
  map_behind-odd f [] odd = odd
  map_behind-odd f (m ∷ moves) odd =
      map_behind-odd (after (image_of_letter m) f) moves
      (IsOdd-after laws f (image_of_letter m) odd (image_of_letter-odd laws m))

  pub path_map-odd : (moves : List Move) → IsOdd (path_map moves)
  path_map-odd moves = map_behind-odd identity moves (λ x. refl)

  -- images stay reduced
  map_behind-reduced : (f : ℤ → List ℤ) (moves : List Move) → ((x : ℤ) → reduce (f x) ≡ f x)
      → (x : ℤ) → reduce (map_behind f moves x) ≡ map_behind f moves x
  map_behind-reduced f [] h x = h x
  map_behind-reduced f (m ∷ moves) h x =
      map_behind-reduced (after (image_of_letter m) f) moves
      (λ y. laws.words.reduction.twice (flat_map (image_of_letter m) (f y))) x

  pub path_map-reduced : (moves : List Move) (x : ℤ) → reduce (path_map moves x) ≡ path_map moves x
  path_map-reduced moves x = map_behind-reduced identity moves (λ y. refl) x

  -- a path behind a map is the map of the path, after the first map
  map_behind-is : (f : ℤ → List ℤ) (moves : List Move) → ((x : ℤ) → reduce (f x) ≡ f x)
      → (x : ℤ) → map_behind f moves x ≡ after (path_map moves) f x
  map_behind-is f [] h x = sym (h x) ∙ ap reduce (sym (flat_map-identity (f x)))
  map_behind-is f (m ∷ moves) h x =
      map_behind-is (after first f) moves (λ y. laws.words.reduction.twice (flat_map first (f y))) x
      ∙ reduce-flat_map_reduce laws rest (flat_map first (f x)) (path_map-odd moves)
      ∙ flat_map-respects laws rest (flat_map first (f x)) (flat_map (after first identity) (f x))
      (path_map-odd moves) same_reduction
      ∙ sym (flat_map-after laws (after first identity) rest (f x))
      ∙ ap reduce
      (sym (flat_map-same (path_map (m ∷ moves)) (after rest (after first identity)) (f x)
      (map_behind-is (after first identity) moves reduced)))
    where
      first : ℤ → List ℤ
      first y = image_of_letter m y

      rest : ℤ → List ℤ
      rest y = path_map moves y

      reduced : (y : ℤ) → reduce (after (image_of_letter m) identity y) ≡ after (image_of_letter m) identity y
      reduced y = laws.words.reduction.twice (flat_map (image_of_letter m) (identity y))

      same_reduction : reduce (flat_map (image_of_letter m) (f x))
          ≡ reduce (flat_map (after (image_of_letter m) identity) (f x))
      same_reduction =
          ap (λ (w : List ℤ). reduce (flat_map (image_of_letter m) w)) (sym (flat_map-identity (f x)))
          ∙ sym (flat_map-after laws identity (image_of_letter m) (f x))

  map_behind-append : (f : ℤ → List ℤ) (first second : List Move) (x : ℤ)
      → map_behind f (first ++ second) x ≡ map_behind (map_behind f first) second x
  map_behind-append f [] second x = refl
  map_behind-append f (m ∷ first) second x = map_behind-append (after (image_of_letter m) f) first second x

  pub path_map-join : (first second : List Move) (x : ℤ)
      → path_map (first ++ second) x ≡ after (path_map second) (path_map first) x
  path_map-join first second x =
      map_behind-append identity first second x
      ∙ map_behind-is (path_map first) second (path_map-reduced first) x

  -- the map of a path is that of its first move, and then that of the others
  pub path_map-cons : (m : Move) (moves : List Move) (x : ℤ)
      → path_map (m ∷ moves) x ≡ after (path_map moves) (image_of_letter m) x
  path_map-cons m moves x =
      map_behind-is (after (image_of_letter m) identity) moves
      (λ y. laws.words.reduction.twice (flat_map (image_of_letter m) (identity y))) x
      ∙ reduce-flat_map_reduce laws (path_map moves) (flat_map (image_of_letter m) (identity x)) (path_map-odd moves)
      ∙ ap (λ (w : List ℤ). reduce (flat_map (path_map moves) w)) (append-nil (image_of_letter m x))

  -- ---- there and back

  -- one move after some that lead back to each letter
  path_map-then : (moves : List Move) (m : Move) (y : ℤ) → path_map moves y ≡ y ∷ []
      → path_map (moves ++ (m ∷ [])) y ≡ after (image_of_letter m) identity y
  path_map-then moves m y h =
      path_map-join moves (m ∷ []) y
      ∙ ap (λ (w : List ℤ). reduce (flat_map (path_map (m ∷ [])) w)) h
      ∙ ap reduce (append-nil (path_map (m ∷ []) y))
      ∙ laws.words.reduction.twice (flat_map (image_of_letter m) (identity y))

  -- a move, moves that lead back to each letter, and a move
  path_map-around : (P : ℤ → Type 0) (m : Move) (moves : List Move) (n : Move) (x : ℤ) → All P (image_of_letter m x)
      → ((y : ℤ) → P y → path_map moves y ≡ y ∷ [])
      → path_map (m ∷ (moves ++ (n ∷ []))) x ≡ after (image_of_letter n) (image_of_letter m) x
  path_map-around P m moves n x letters h =
      path_map-cons m (moves ++ (n ∷ [])) x
      ∙ ap reduce
      (flat_map-same_at (path_map (moves ++ (n ∷ []))) (after (image_of_letter n) identity) (image_of_letter m x)
      (λ k d inside. path_map-then moves n (get_or (image_of_letter m x) k d)
      (h (get_or (image_of_letter m x) k d) (letters k d inside))))
      ∙ flat_map-after laws identity (image_of_letter n) (image_of_letter m x)
      ∙ ap (λ (w : List ℤ). reduce (flat_map (image_of_letter n) w)) (flat_map-identity (image_of_letter m x))

  pub back_along-cons : (m : Move) (moves : List Move) → back_along (m ∷ moves) ≡ back_along moves ++ (back_of m ∷ [])
  back_along-cons m moves = reverse-append (back_of m ∷ []) (map back_of moves)

  pub path_undone : (before target : List (List ℤ)) (moves : List Move) (x : ℤ) → IsTriangulation before
      → ArePath before moves target → IsLabel before x → path_map (moves ++ back_along moves) x ≡ x ∷ []
  path_undone before target [] x t h l = refl
  path_undone before target (m ∷ moves) x t (between, b, move, rest) l =
      ap (λ (ms : List Move). path_map (m ∷ ms) x)
      (ap (λ (ms : List Move). moves ++ ms) (back_along-cons m moves)
      ∙ sym (append_assoc moves (back_along moves) (back_of m ∷ [])))
      ∙ path_map-around (IsLabel between) m (moves ++ back_along moves) (back_of m) x
      (image_of_letter-labels laws before between m x move l)
      (λ y k. path_undone between target moves y b rest k)
      ∙ move_undone laws before between m x t b move l
