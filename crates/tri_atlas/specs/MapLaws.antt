-- What holds of substitutions, of moves and paths and their maps, and of walks under maps.
use Rattle.std.specs.Prelude.{◌≡◌, ◌<◌, ◌+◌, ℕ, ℤ, pos, List, [], ◌∷◌, ◌++◌, length}
use Rattle.std.specs.List.{All, flat_map, repeat}
use Rattle.ideal_tri.specs.Curves.{IsSameCurve}
use Rattle.ideal_tri.specs.Flips.{flipped}
use Rattle.ideal_tri.specs.Labels.{inverse}
use Rattle.ideal_tri.specs.Words.{inverse_word, reduce, cyclic_reduce, IsRotation}
use Rattle.ideal_tri.specs.Triangulations.{IsTriangulation, IsLabel, IsWalk, next, previous}
use Rattle.tri_atlas.specs.FlipPaths.{IsFlippableEdge, CanBeFlipped, flips_along, flipped_along}
use Rattle.tri_atlas.specs.Maps.{IsOdd, identity, after, image_of_letter, path_map, IsMap}
use Rattle.tri_atlas.specs.Moves.{Move, IsFlip, IsMove, back_of, ArePath, back_along, triangle_image}

-- substitutions that respect inverses
pub record SubstitutionLaws : Type 0 where
  pub back : (f : ℤ → List ℤ) (w : List ℤ) → IsOdd f
      → flat_map f (inverse_word w) ≡ inverse_word (flat_map f w)
  pub reduced_before : (f : ℤ → List ℤ) (w : List ℤ) → IsOdd f
      → reduce (flat_map f (reduce w)) ≡ reduce (flat_map f w)
  pub compose : (f g : ℤ → List ℤ) (w : List ℤ) → IsOdd f → IsOdd g
      → reduce (flat_map (after g f) w) ≡ reduce (flat_map g (flat_map f w))
  pub odd : (f g : ℤ → List ℤ) → IsOdd f → IsOdd g → IsOdd (after g f)
  pub none : (w : List ℤ) → flat_map identity w ≡ w
  pub agree : (f g : ℤ → List ℤ) (w : List ℤ) → All (λ x. f x ≡ g x) w
      → flat_map f w ≡ flat_map g w
  pub cyclic : (f : ℤ → List ℤ) (w : List ℤ) → IsOdd f
      → IsRotation (cyclic_reduce (flat_map f (cyclic_reduce w))) (cyclic_reduce (flat_map f w))
  pub curve : (f : ℤ → List ℤ) (u v : List ℤ) → IsOdd f → IsSameCurve u v
      → IsSameCurve (cyclic_reduce (flat_map f u)) (cyclic_reduce (flat_map f v))

-- the images of walks under a map of walks are walks, and maps follow each other
pub record WalkMapLaws : Type 0 where
  pub walks : (source target : List (List ℤ)) (f : ℤ → List ℤ) (g : ℕ → ℕ) (s t : ℕ) (w : List ℤ)
      → IsTriangulation target → IsMap source target f g → IsWalk source s w t
      → IsWalk target (g s) (flat_map f w) (g t)
  pub reduced : (source target : List (List ℤ)) (f : ℤ → List ℤ) (g : ℕ → ℕ) (s t : ℕ) (w : List ℤ)
      → IsTriangulation target → IsMap source target f g → IsWalk source s w t
      → IsWalk target (g s) (reduce (flat_map f w)) (g t)
  pub identity : (triples : List (List ℤ)) → IsMap triples triples identity (λ t. t)
  pub compose : (source between target : List (List ℤ)) (f f' : ℤ → List ℤ) (g g' : ℕ → ℕ)
      → IsTriangulation target → IsMap source between f g → IsMap between target f' g'
      → IsMap source target (after f' f) (λ t. g' (g t))

-- the maps of moves
pub record MoveLaws : Type 0 where
  pub odd : (m : Move) → IsOdd (image_of_letter m)
  pub maps : (before target : List (List ℤ)) (m : Move) → IsTriangulation before
      → IsTriangulation target → IsMove before target m
      → IsMap before target (image_of_letter m) (triangle_image before target m)
  pub back : (before target : List (List ℤ)) (m : Move) → IsTriangulation before
      → IsTriangulation target → IsMove before target m → IsMove target before (back_of m)
  pub twice : (before target : List (List ℤ)) (m : Move) → IsMove before target m
      → back_of (back_of m) ≡ m
  pub undo : (before target : List (List ℤ)) (m : Move) (x : ℤ) → IsTriangulation before
      → IsTriangulation target → IsMove before target m → IsLabel before x
      → after (image_of_letter (back_of m)) (image_of_letter m) x ≡ x ∷ []
  pub undo_triangle : (before target : List (List ℤ)) (m : Move) (t : ℕ) → IsTriangulation before
      → IsTriangulation target → IsMove before target m → t < length before
      → triangle_image target before (back_of m) (triangle_image before target m t) ≡ t

-- lists taken several times
pub record RepeatLaws (A : Type 0) : Type 0 where
  pub more : (n : ℕ) (xs : List A) → repeat (n + 1) xs ≡ repeat n xs ++ xs
  pub join : (n m : ℕ) (xs : List A) → repeat (n + m) xs ≡ repeat n xs ++ repeat m xs

-- paths follow each other, and lead back; and their maps
pub record PathLaws : Type 0 where
  pub append : (before between target : List (List ℤ)) (first second : List Move)
      → ArePath before first between → ArePath between second target
      → ArePath before (first ++ second) target
  pub end : (before target : List (List ℤ)) (moves : List Move) → IsTriangulation before
      → ArePath before moves target → IsTriangulation target
  pub back : (before target : List (List ℤ)) (moves : List Move) → IsTriangulation before
      → ArePath before moves target → ArePath target (back_along moves) before
  pub back_append : (first second : List Move)
      → back_along (first ++ second) ≡ back_along second ++ back_along first
  pub back_twice : (before target : List (List ℤ)) (moves : List Move)
      → ArePath before moves target → back_along (back_along moves) ≡ moves
  pub repeats : RepeatLaws Move
  -- ---- maps
  pub maps : (before target : List (List ℤ)) (moves : List Move) → IsTriangulation before
      → ArePath before moves target
      → (triangles : ℕ → ℕ) × IsMap before target (path_map moves) triangles
  pub odd : (moves : List Move) → IsOdd (path_map moves)
  pub reduced : (moves : List Move) (x : ℤ) → reduce (path_map moves x) ≡ path_map moves x
  pub join : (first second : List Move) (x : ℤ)
      → path_map (first ++ second) x ≡ after (path_map second) (path_map first) x
  pub cons : (m : Move) (moves : List Move) (x : ℤ)
      → path_map (m ∷ moves) x ≡ after (path_map moves) (image_of_letter m) x
  pub undo : (before target : List (List ℤ)) (moves : List Move) (x : ℤ) → IsTriangulation before
      → ArePath before moves target → IsLabel before x
      → path_map (moves ++ back_along moves) x ≡ x ∷ []

-- the flip of a flippable edge, with the sides of its two triangles, and flips one after another
pub record FlipPathLaws : Type 0 where
  pub is_flip : (triples : List (List ℤ)) (e : ℕ) → IsFlippableEdge triples e
      → IsFlip triples (flipped triples (pos e)) (pos e) (next triples (pos e))
      (previous triples (pos e)) (next triples (inverse (pos e)))
      (previous triples (inverse (pos e)))
  pub path : (triples : List (List ℤ)) (edges : List ℕ) → IsTriangulation triples
      → CanBeFlipped triples edges
      → ArePath triples (flips_along triples edges) (flipped_along triples edges)

-- all of them
pub record MapLaws : Type 0 where
  pub substitutions : SubstitutionLaws
  pub walks : WalkMapLaws
  pub moves : MoveLaws
  pub paths : PathLaws
  pub flips : FlipPathLaws
