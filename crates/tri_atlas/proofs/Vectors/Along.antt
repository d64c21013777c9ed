-- The vector along a path: its curves are the images of the curves under the map of the path.
--
-- By induction: the images after the first move are the curves of some drawing of the vector after it, the map of the
-- other moves carries these two lists to lists that are the same, and the second of them is known. Reducing
-- cyclically on the way moves at most the place where a word begins.
use Rattle.std.proofs.Common.{ℕ, ℤ, List, [], ◌∷◌, ◌++◌, ◌≡◌, inl, refl, sym, ◌∙◌, ap, subst}
use Rattle.std.specs.List.{All, AllZip, flat_map}
use Rattle.std.proofs.lemmas.List.{append-nil}
use Rattle.std.proofs.lemmas.List.Elements.{All-head, All-tail}
use Rattle.ideal_tri.specs.Words.{reduce, cyclic_reduce, IsCyclicallyReduced}
use Rattle.ideal_tri.specs.Curves.{IsSameCurve, IsSameCurves}
use Rattle.ideal_tri.specs.Drawings.{draw}
use Rattle.ideal_tri.specs.Triangulations.{IsTriangulation, edge_count}
use Rattle.ideal_tri.specs.Vectors.{IsMulticurve}
use Rattle.ideal_tri.specs.Strands.{State, IsDrawing, words_of}
use Rattle.tri_atlas.specs.Moves.{Move, flip, unflip, relabel, IsMove, back_of, ArePath, back_along}
use Rattle.tri_atlas.specs.Maps.{identity, after, image_of_letter, path_map, images_under}
use Rattle.tri_atlas.specs.MapLaws.{SubstitutionLaws}
use Rattle.tri_atlas.specs.MovedVectors.{vector_after, vector_along}
use Rattle.tri_atlas.specs.VectorLaws.{MovedLaws, AlongLaws}
use Rattle.tri_atlas.proofs.Flips.{flip_edges}
use Rattle.tri_atlas.proofs.LowerLaws.{LowerLaws}
use Rattle.tri_atlas.proofs.Substitutions.{substitution_laws, flat_map-respects, flat_map-after}
use Rattle.tri_atlas.proofs.Substitutions.{flat_map-identity, flat_map-same}
use Rattle.tri_atlas.proofs.JoinedPaths.{path_end}
use Rattle.tri_atlas.proofs.Paths.{path_map-odd, path_map-join, back_along-cons}
use Rattle.tri_atlas.proofs.Vectors.Given.{Given}
use Rattle.tri_atlas.proofs.Vectors.FlipLaws.{flip_laws, unflip_laws, image_of_curves}
use Rattle.tri_atlas.proofs.Vectors.RelabelledDrawings.{relabel_laws}

-- ---- one move

pub moved_laws : Given → (before target : List (List ℤ)) (m : Move) (w : List ℕ) → IsTriangulation before
    → IsTriangulation target → IsMove before target m
    → IsMulticurve before w → MovedLaws before target m w
moved_laws g before target (flip e a b c d) w p t h m = flip_laws g before target e a b c d p t h w m
moved_laws g before target (unflip e a b c d) w p t h m = unflip_laws g target before e a b c d t p h w m
moved_laws g before target (relabel images) w p t h m = relabel_laws g before target images p t h w m

pub move_edges : LowerLaws → (before target : List (List ℤ)) (m : Move) → IsMove before target m
    → edge_count target ≡ edge_count before
move_edges laws before target (flip e a b c d) h = flip_edges laws before target e a b c d h
move_edges laws before target (unflip e a b c d) h = sym (flip_edges laws target before e a b c d h)
move_edges laws before target (relabel images) h = sym (laws.relabellings.edges before target images h)

-- ---- paths

pub path_edges : LowerLaws → (before target : List (List ℤ)) (moves : List Move) → ArePath before moves target
    → edge_count target ≡ edge_count before
path_edges laws before target [] h = ap edge_count (sym h)
path_edges laws before target (m ∷ moves) (between, b, move, rest) =
    path_edges laws between target moves rest ∙ move_edges laws before between m move

pub multicurve_along : Given → (before target : List (List ℤ)) (moves : List Move) (w : List ℕ)
    → IsTriangulation before → ArePath before moves target
    → IsMulticurve before w → IsMulticurve target (vector_along moves w)
multicurve_along g before target [] w p h m = subst (λ (t : List (List ℤ)). IsMulticurve t w) h m
multicurve_along g before target (x ∷ moves) w p (between, b, move, rest) m =
    multicurve_along g between target moves (vector_after x w) b rest
    (moved_laws g before between x w p b move m).multicurve

pub vector_along-append : (first second : List Move) (w : List ℕ)
    → vector_along (first ++ second) w ≡ vector_along second (vector_along first w)
vector_along-append [] second w = refl
vector_along-append (m ∷ first) second w = vector_along-append first second (vector_after m w)

pub back_vector : Given → (before target : List (List ℤ)) (moves : List Move) (w : List ℕ) → IsTriangulation before
    → ArePath before moves target
    → IsMulticurve before w → vector_along (back_along moves) (vector_along moves w) ≡ w
back_vector g before target [] w p h m = refl
back_vector g before target (x ∷ moves) w p (between, b, move, rest) m =
    ap (λ (ms : List Move). vector_along ms (vector_along moves (vector_after x w))) (back_along-cons g.lower x moves)
    ∙ vector_along-append (back_along moves) (back_of x ∷ []) (vector_along moves (vector_after x w))
    ∙ ap (vector_after (back_of x)) (back_vector g between target moves (vector_after x w) b rest one.multicurve)
    ∙ one.back
  where
    one : MovedLaws before between x w
    one = moved_laws g before between x w p b move m

-- ---- curves along a path

-- nothing moves along the empty path
images_stay : Given → (words : List (List ℤ)) → All IsCyclicallyReduced words → images_under (path_map []) words ≡ words
images_stay g [] r = refl
images_stay g (word ∷ words) r =
    ap (λ (u : List ℤ). cyclic_reduce u ∷ images_under (path_map []) words) (flat_map-identity word)
    ∙ ap (λ (u : List ℤ). u ∷ images_under (path_map []) words)
    (g.lower.words.cyclic.fixed word (All-head IsCyclicallyReduced word words r))
    ∙ ap (λ (us : List (List ℤ)). word ∷ us) (images_stay g words (All-tail IsCyclicallyReduced word words r))

-- the map of a path is that of its first move and then that of the others
reduce-first : Given → (m : Move) (moves : List Move) (word : List ℤ)
    → reduce (flat_map (path_map moves) (flat_map (image_of_letter m) word))
    ≡ reduce (flat_map (path_map (m ∷ moves)) word)
reduce-first g m moves word =
    flat_map-respects r rest (flat_map (image_of_letter m) word) (flat_map first word) (path_map-odd r moves)
    (ap (λ (u : List ℤ). reduce (flat_map (image_of_letter m) u)) (sym (flat_map-identity word))
    ∙ sym (flat_map-after r identity (image_of_letter m) word))
    ∙ sym (flat_map-after r first rest word)
    ∙ sym (ap reduce (flat_map-same (path_map (m ∷ moves)) (after rest first) word (path_map-join r (m ∷ []) moves)))
  where
    r : LowerLaws
    r = g.lower

    first : ℤ → List ℤ
    first x = path_map (m ∷ []) x

    rest : ℤ → List ℤ
    rest x = path_map moves x

-- so the images under it run along the same curves, each cyclically reduced on the way or not
images_after : Given → (m : Move) (moves : List Move) (words : List (List ℤ))
    → AllZip IsSameCurve (images_under (path_map (m ∷ moves)) words)
    (images_under (path_map moves) (images_under (image_of_letter m) words))
images_after g m moves [] = tt
images_after g m moves (word ∷ words) = (
  g.lower.words.curves.back (cyclic_reduce (rest (cyclic_reduce first))) (cyclic_reduce whole)
      (g.lower.words.curves.along (cyclic_reduce (rest (cyclic_reduce first))) (cyclic_reduce (rest first))
      (cyclic_reduce whole)
      (inl ((substitution_laws g.lower).cyclic (path_map moves) first
      (path_map-odd g.lower moves)))
      (inl (g.lower.words.cyclic.conjugate [] (rest first) whole
      (ap reduce (append-nil (rest first)) ∙ reduce-first g m moves word)))),
  images_after g m moves words,
)
  where
    first : List ℤ
    first = flat_map (image_of_letter m) word

    rest : List ℤ → List ℤ
    rest u = flat_map (path_map moves) u

    whole : List ℤ
    whole = flat_map (path_map (m ∷ moves)) word

pub curves_along : Given → (before target : List (List ℤ)) (moves : List Move) (w : List ℕ) → IsTriangulation before
    → ArePath before moves target → IsMulticurve before w → (runs end : List (List State)) → IsDrawing before w runs
    → IsDrawing target (vector_along moves w) end
    → IsSameCurves (images_under (path_map moves) (words_of runs)) (words_of end)
curves_along g before target [] w p h m runs end d e =
    subst (λ (us : List (List ℤ)). IsSameCurves us (words_of end))
    (sym (images_stay g (words_of runs) ((g.drawings before p).reduced w runs m d)))
    ((g.drawings before p).unique w runs end m d (subst (λ (t : List (List ℤ)). IsDrawing t w end) (sym h) e))
curves_along g before target (x ∷ moves) w p (between, b, move, rest) m runs end d e =
    g.same.along whole (onwards first) (words_of end)
    (g.same.entrywise whole (onwards first) (images_after g x moves (words_of runs)))
    (g.same.along (onwards first) (onwards (words_of middle)) (words_of end)
    (g.same.mapped (λ u. cyclic_reduce (flat_map (path_map moves) u))
    (λ u v s. laws.curve (path_map moves) u v (path_map-odd g.lower moves) s)
    first (words_of middle) (one.curves runs middle d drawn))
    (curves_along g between target moves (vector_after x w) b rest one.multicurve middle end drawn e))
  where
    laws : SubstitutionLaws
    laws = substitution_laws g.lower

    one : MovedLaws before between x w
    one = moved_laws g before between x w p b move m

    middle : List (List State)
    middle = draw between (vector_after x w)

    drawn : IsDrawing between (vector_after x w) (draw between (vector_after x w))
    drawn = (g.drawings between b).exists (vector_after x w) one.multicurve

    -- the images after the first move, and under the map of the others
    first : List (List ℤ)
    first = images_under (image_of_letter x) (words_of runs)

    onwards : List (List ℤ) → List (List ℤ)
    onwards us = images_under (path_map moves) us

    whole : List (List ℤ)
    whole = images_under (path_map (x ∷ moves)) (words_of runs)

pub along_laws : Given → (before target : List (List ℤ)) (moves : List Move) (w : List ℕ) → IsTriangulation before
    → ArePath before moves target
    → IsMulticurve before w → AlongLaws before target moves w
along_laws g before target moves w p h m = record {
  multicurve = multicurve_along g before target moves w p h m;
  curves = curves_along g before target moves w p h m;
  image = image_of_curves g before target w (vector_along moves w) (path_map moves) (path_end before target moves p h) m
      (multicurve_along g before target moves w p h m) (path_edges g.lower before target moves h)
      (curves_along g before target moves w p h m);
  back = back_vector g before target moves w p h m;
}
