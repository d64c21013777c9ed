-- Relabellings: what they do to labels, triangles and curves, their inverses and compositions.
--
-- A relabelling f carries each triangle of the list to a triangle, so also each triangle read from another of its
-- sides. A label x and the two that follow it are a triangle, and in the triangle f(x), f(next x), .. the labels follow
-- each other: f goes with next. So for a triangle a, b, c of `to` with a = f(x) we have b = f(next x) and c = f(next
-- next x); the inverse images carry it to x, next x, next next x, which is a triangle. The composition of two
-- relabellings carries a triangle as the one does after the other. The images of cyclically reduced words are
-- cyclically reduced, and cross the image of an edge as often as the words cross the edge, which for a drawing is the
-- number of the vector.
use Rattle.std.proofs.Common.{ℕ, ℤ, pos, List, [], ◌∷◌, ◌++◌, ◌≡◌, ◌<◌, ◌⊎◌, inl, inr, refl, sym, ◌∙◌, ap, subst, arith}
use Rattle.std.proofs.Common.{length, get_or, map, All, flat_map}
use Rattle.std.proofs.lemmas.List.{map-append, length-map, get_or_default}
use Rattle.std.proofs.lemmas.List.Elements.{All-nil, All-cons, All-head, All-tail, All-append, All-weaker, All-get_or}
use Rattle.ideal_tri.specs.Labels.{edge_of}
use Rattle.ideal_tri.specs.Words.{IsCyclicallyReduced, cyclic_reduce}
use Rattle.ideal_tri.specs.Curves.{crossings}
use Rattle.ideal_tri.specs.Triangulations.{IsTriangulation, IsLabel, IsWalk, edge_count, triangle_of, next, previous}
use Rattle.ideal_tri.specs.Strands.{words_of}
use Rattle.ideal_tri.specs.SurfaceLaws.{TriangleLaws}
use Rattle.ideal_tri.specs.Relabellings.{hits, image_of, IsBijection, inverse_images, IsTriangleOf, IsCarried}
use Rattle.ideal_tri.specs.Relabellings.{IsRelabelling, reduced_images}
use Rattle.ideal_tri.specs.BijectionLaws.{AreMapped}
use Rattle.ideal_tri.specs.RelabellingLaws.{IsOnto, MovesCounts, RelabellingLaws}
use Rattle.ideal_tri.proofs.Rotations.{Rotation-map}
use Rattle.ideal_tri.proofs.Cyclic.{cyclic_reduce-fixed}
use Rattle.ideal_tri.proofs.Triangles.{triangle_laws}
use Rattle.ideal_tri.proofs.Triples.{three_listed, stands_in, at_label, sides, IsTriangleOf-turned}
use Rattle.ideal_tri.proofs.Drawings.Words.{drawing_walks, drawing_reduced}
use Rattle.ideal_tri.proofs.Crossings.{drawing_counts}
use Rattle.ideal_tri.proofs.Hits.{place_of_hit, length_by_hits}
use Rattle.ideal_tri.proofs.Bijections.{image_in_range, image_of-map, bijection_through, hits-image}
use Rattle.ideal_tri.proofs.Bijections.{IsCyclicallyReduced-image}
use Rattle.ideal_tri.proofs.InverseImages.{length-inverse_images, there_and_back, back_and_there, back_in_range}
use Rattle.ideal_tri.proofs.InverseImages.{bijection_back}
use Rattle.ideal_tri.proofs.Walks.{walk_labels}

-- ---- labels

long : (from to : List (List ℤ)) (images : List ℤ) → IsRelabelling from to images → length images ≡ edge_count to
long from to images h = length_by_hits images (edge_count to) h.labels h.bijective

bijection_of : (from to : List (List ℤ)) (images : List ℤ) → IsRelabelling from to images → IsBijection images
bijection_of from to images h = record {
  labels = subst (λ (n : ℕ). All (λ x. edge_of x < n) images) (sym (long from to images h)) h.labels;
  once = λ e below. h.bijective e (subst (λ (n : ℕ). e < n) (long from to images h) below);
}

same_count : (from to : List (List ℤ)) (images : List ℤ) → IsRelabelling from to images
    → edge_count from ≡ edge_count to
same_count from to images h = sym h.one_per_edge ∙ long from to images h

-- a label has an image
mapped : (from to : List (List ℤ)) (images : List ℤ) (x : ℤ) → IsRelabelling from to images → IsLabel from x
    → edge_of x < length images
mapped from to images x h label = subst (λ (n : ℕ). edge_of x < n) (sym h.one_per_edge) label

image_label : (from to : List (List ℤ)) (images : List ℤ) (x : ℤ) → IsRelabelling from to images → IsLabel from x
    → IsLabel to (image_of images x)
image_label from to images x h label =
    image_in_range images (edge_count to) x h.labels (mapped from to images x h label)

onto : (from to : List (List ℤ)) (images : List ℤ) → IsRelabelling from to images → IsOnto from to images
onto from to images h e below =
    let (i, i_in, is_e) = place_of_hit images e (omega (arith, h.bijective e below)) in
    (i, subst (λ (n : ℕ). i < n) h.one_per_edge i_in, is_e)

-- a bijection that carries the triangles is a relabelling
pub relabelling_of : (from to : List (List ℤ)) (images : List ℤ) → IsBijection images → length images ≡ edge_count from
    → edge_count from ≡ edge_count to
    → All (IsCarried to images) from → IsRelabelling from to images
relabelling_of from to images h one_per_edge same carried = record {
  one_per_edge = one_per_edge;
  labels = subst (λ (n : ℕ). All (λ x. edge_of x < n) images) (one_per_edge ∙ same) h.labels;
  bijective = λ e below. h.once e (subst (λ (n : ℕ). e < n) (sym (one_per_edge ∙ same)) below);
  triangles = carried;
}

-- ---- triangles

image_triangle : (from to : List (List ℤ)) (images t : List ℤ) → IsRelabelling from to images → IsTriangleOf from t
    → IsTriangleOf to (map (image_of images) t)
image_triangle from to images t h (k, u, below, at, turn) =
    IsTriangleOf-turned to (map (image_of images) t) (map (image_of images) u) (Rotation-map (image_of images) t u turn)
    (subst (IsCarried to images) at (All-get_or (IsCarried to images) from k u below h.triangles))

-- a relabelling takes the label after x to the label after the image of x
pub next-image : (from to : List (List ℤ)) (images : List ℤ) (x : ℤ) → IsTriangulation from → IsTriangulation to
    → IsRelabelling from to images
    → IsLabel from x → next to (image_of images x) ≡ image_of images (next from x)
next-image from to images x from_is to_is h label =
    let whole : IsTriangleOf to
    (image_of images x ∷ (image_of images (next from x) ∷ (image_of images (previous from x) ∷ []))) =
    image_triangle from to images (x ∷ (next from x ∷ (previous from x ∷ []))) h (at_label from x from_is label) in
    (sides to (image_of images x) (image_of images (next from x)) (image_of images (previous from x)) to_is whole).1

-- labels of one triangle have images in one triangle
one_triangle : (from to : List (List ℤ)) (images : List ℤ) (x y : ℤ) → IsTriangulation from → IsTriangulation to
    → IsRelabelling from to images
    → IsLabel from x → IsLabel from y → triangle_of from x ≡ triangle_of from y
    → triangle_of to (image_of images x) ≡ triangle_of to (image_of images y)
one_triangle from to images x y from_is to_is h x_label y_label same = go (before.sides x y x_label y_label (sym same))
  where
    before : TriangleLaws from
    before = triangle_laws from from_is

    at_next : (z : ℤ) → IsLabel from z
        → triangle_of to (image_of images (next from z)) ≡ triangle_of to (image_of images z)
    at_next z label =
        ap (triangle_of to) (sym (next-image from to images z from_is to_is h label))
        ∙ (triangle_laws to to_is).stays (image_of images z) (image_label from to images z h label)

    go : (y ≡ x) ⊎ ((y ≡ next from x) ⊎ (y ≡ previous from x))
        → triangle_of to (image_of images x) ≡ triangle_of to (image_of images y)
    go (inl e) = ap (λ (z : ℤ). triangle_of to (image_of images z)) (sym e)
    go (inr (inl e)) = sym (at_next x x_label) ∙ ap (λ (z : ℤ). triangle_of to (image_of images z)) (sym e)
    go (inr (inr e)) =
        sym (at_next (next from x) (before.label x x_label) ∙ at_next x x_label)
        ∙ ap (λ (z : ℤ). triangle_of to (image_of images z)) (sym e)

-- ---- the relabelling back

-- a triangle of `to` comes from one of `from`
triangle_back : (from to : List (List ℤ)) (images : List ℤ) (a b c : ℤ) → IsTriangulation from → IsTriangulation to
    → IsRelabelling from to images
    → IsTriangleOf to (a ∷ (b ∷ (c ∷ [])))
    → IsTriangleOf from (map (image_of (inverse_images images)) (a ∷ (b ∷ (c ∷ []))))
triangle_back from to images a b c from_is to_is h w =
    let (a_label, ab, bc) = sides to a b c to_is w in
    let x : ℤ = back a in
    let x_label : IsLabel from x = back_label a a_label in
    let y_label : IsLabel from (next from x) = (triangle_laws from from_is).label x x_label in
    let x_is : image_of images x ≡ a = back_and_there images a bijection (in_range a a_label) in
    let y_is : next from x ≡ back b =
    undo (next from x) y_label
    ∙ ap back (sym (next-image from to images x from_is to_is h x_label) ∙ ap (next to) x_is ∙ ab) in
    let z_is : previous from x ≡ back c =
    undo (previous from x) ((triangle_laws from from_is).label (next from x) y_label)
    ∙ ap back
    (sym (next-image from to images (next from x) from_is to_is h y_label)
    ∙ ap (next to) (sym (next-image from to images x from_is to_is h x_label) ∙ ap (next to) x_is ∙ ab)
    ∙ bc) in
    subst (λ (v : ℤ). IsTriangleOf from (x ∷ (back b ∷ (v ∷ [])))) z_is
    (subst (λ (v : ℤ). IsTriangleOf from (x ∷ (v ∷ (previous from x ∷ [])))) y_is (at_label from x from_is x_label))
  where
    back : ℤ → ℤ
    back = image_of (inverse_images images)

    bijection : IsBijection images
    bijection = bijection_of from to images h

    in_range : (y : ℤ) → IsLabel to y → edge_of y < length images
    in_range y label = subst (λ (n : ℕ). edge_of y < n) (sym (long from to images h)) label

    back_label : (y : ℤ) → IsLabel to y → IsLabel from (image_of (inverse_images images) y)
    back_label y label =
        subst (λ (n : ℕ). edge_of (image_of (inverse_images images) y) < n) h.one_per_edge
        (back_in_range images y bijection (in_range y label))

    undo : (y : ℤ) → IsLabel from y → y ≡ image_of (inverse_images images) (image_of images y)
    undo y label = sym (there_and_back images y bijection (mapped from to images y h label))

pub relabelling_back : (from to : List (List ℤ)) (images : List ℤ) → IsTriangulation from → IsTriangulation to
    → IsRelabelling from to images
    → IsRelabelling to from (inverse_images images)
relabelling_back from to images from_is to_is h =
    relabelling_of to from (inverse_images images) (bijection_back images (bijection_of from to images h))
    (length-inverse_images images ∙ long from to images h) (sym (same_count from to images h)) triangles
  where
    triangles : All (λ u. IsTriangleOf from (map (image_of (inverse_images images)) u)) to
    triangles k d below =
        let (a, b, c, is) = three_listed (get_or to k d) (to_is.three_sides k d below) in
        let stands : IsTriangleOf to (get_or to k d) =
        subst (IsTriangleOf to) (get_or_default to k [] d below) (stands_in to k below) in
        subst (λ (v : List ℤ). IsTriangleOf from (map (image_of (inverse_images images)) v)) (sym is)
        (triangle_back from to images a b c from_is to_is h (subst (IsTriangleOf to) is stands))

-- ---- one relabelling after another

map-through : (images others w : List ℤ) → AreMapped images w
    → map (image_of (map (image_of others) images)) w ≡ map (image_of others) (map (image_of images) w)
map-through images others [] labels = refl
map-through images others (x ∷ w) labels =
    ap (λ (z : ℤ). z ∷ map (image_of (map (image_of others) images)) w)
    (image_of-map images others x (All-head (λ z. edge_of z < length images) x w labels))
    ∙ ap (λ (v : List ℤ). image_of others (image_of images x) ∷ v)
    (map-through images others w (All-tail (λ z. edge_of z < length images) x w labels))

-- the sides of a triangle are labels
triangle_labels : (triples : List (List ℤ)) (x y z : ℤ) → IsTriangulation triples
    → IsTriangleOf triples (x ∷ (y ∷ (z ∷ [])))
    → All (IsLabel triples) (x ∷ (y ∷ (z ∷ [])))
triangle_labels triples x y z is w =
    let laws : TriangleLaws triples = triangle_laws triples is in
    let (x_label, xy, yz) = sides triples x y z is w in
    let y_label : IsLabel triples y = subst (IsLabel triples) xy (laws.label x x_label) in
    All-cons (IsLabel triples) x (y ∷ (z ∷ [])) x_label
    (All-cons (IsLabel triples) y (z ∷ []) y_label
    (All-cons (IsLabel triples) z [] (subst (IsLabel triples) yz (laws.label y y_label)) (All-nil (IsLabel triples))))

pub relabelling_through : (from between to : List (List ℤ)) (images others : List ℤ) → IsTriangulation from
    → IsRelabelling from between images → IsRelabelling between to others
    → IsRelabelling from to (map (image_of others) images)
relabelling_through from between to images others from_is h k =
    relabelling_of from to (map (image_of others) images)
    (bijection_through images others (bijection_of from between images h) (bijection_of between to others k)
    (h.one_per_edge ∙ same_count from between images h ∙ sym k.one_per_edge))
    (length-map images (image_of others) ∙ h.one_per_edge)
    (same_count from between images h ∙ same_count between to others k)
    triangles
  where
    triangles : All (λ t. IsTriangleOf to (map (image_of (map (image_of others) images)) t)) from
    triangles j d below =
        let (a, b, c, is) = three_listed (get_or from j d) (from_is.three_sides j d below) in
        let stands : IsTriangleOf from (a ∷ (b ∷ (c ∷ []))) =
        subst (IsTriangleOf from) (get_or_default from j [] d below ∙ is) (stands_in from j below) in
        let labels : AreMapped images (get_or from j d) =
        subst (AreMapped images) (sym is)
        (subst (λ (n : ℕ). All (λ x. edge_of x < n) (a ∷ (b ∷ (c ∷ [])))) (sym h.one_per_edge)
        (triangle_labels from a b c from_is stands)) in
        subst (IsTriangleOf to) (sym (map-through images others (get_or from j d) labels))
        (image_triangle between to others (map (image_of images) (get_or from j d)) k (h.triangles j d below))

-- ---- curves

-- a property of all letters of all words
All-letters : (P : ℤ → Type 0) (words : List (List ℤ)) → All (All P) words → All P (flat_map (λ w. w) words)
All-letters P [] h = All-nil P
All-letters P (w ∷ words) h =
    All-append P w (flat_map (λ v. v) words) (All-head (All P) w words h)
    (All-letters P words (All-tail (All P) w words h))

letters-map : (f : ℤ → ℤ) (words : List (List ℤ))
    → flat_map (λ w. w) (map (λ w. map f w) words) ≡ map f (flat_map (λ w. w) words)
letters-map f [] = refl
letters-map f (w ∷ words) =
    ap (λ (v : List ℤ). map f w ++ v) (letters-map f words) ∙ sym (map-append f w (flat_map (λ v. v) words))

-- the images of cyclically reduced words need no reduction
reduced_images-fixed : (images : List ℤ) (words : List (List ℤ)) → IsBijection images → All (AreMapped images) words
    → All IsCyclicallyReduced words
    → reduced_images images words ≡ map (λ w. map (image_of images) w) words
reduced_images-fixed images [] h labels reduced = refl
reduced_images-fixed images (w ∷ words) h labels reduced =
    let here : cyclic_reduce (map (image_of images) w) ≡ map (image_of images) w =
    cyclic_reduce-fixed (map (image_of images) w)
    (IsCyclicallyReduced-image images w h (All-head (AreMapped images) w words labels)
    (All-head IsCyclicallyReduced w words reduced)) in
    let rest : reduced_images images words ≡ map (λ v. map (image_of images) v) words =
    reduced_images-fixed images words h (All-tail (AreMapped images) w words labels)
    (All-tail IsCyclicallyReduced w words reduced) in
    ap (λ (v : List ℤ). v ∷ reduced_images images words) here
    ∙ ap (λ (vs : List (List ℤ)). map (image_of images) w ∷ vs) rest

moves_counts : (from to : List (List ℤ)) (images : List ℤ) → IsTriangulation from → IsRelabelling from to images
    → MovesCounts from images
moves_counts from to images from_is h w runs vector drawing e below =
    ap (crossings (edge_of (image_of images (pos e))))
    (reduced_images-fixed images words bijection labels
    (drawing_reduced from w runs (triangle_laws from from_is) drawing))
    ∙ ap (λ (v : List ℤ). hits v (edge_of (image_of images (pos e)))) (letters-map (image_of images) words)
    ∙ hits-image images (flat_map (λ v. v) words) e bijection
    (All-letters (λ x. edge_of x < length images) words labels)
    (subst (λ (n : ℕ). e < n) (sym h.one_per_edge) below)
    ∙ drawing_counts from w runs drawing e below
  where
    words : List (List ℤ)
    words = words_of runs

    bijection : IsBijection images
    bijection = bijection_of from to images h

    labels : All (AreMapped images) words
    labels =
        All-weaker (λ v. (t : ℕ) × IsWalk from t v t) (AreMapped images)
        (λ v walk. subst (λ (n : ℕ). All (λ x. edge_of x < n) v) (sym h.one_per_edge)
        (walk_labels from walk.0 walk.0 v walk.1))
        words (drawing_walks from w runs (triangle_laws from from_is) drawing)

-- ---- the laws

pub relabelling_laws : RelabellingLaws
relabelling_laws = record {
  bijection = bijection_of;
  edges = same_count;
  label = image_label;
  onto = onto;
  made = relabelling_of;
  triangle = image_triangle;
  next = next-image;
  one_triangle = one_triangle;
  back = relabelling_back;
  through = relabelling_through;
  counts = moves_counts;
}
