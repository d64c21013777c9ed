-- The inverse images of a bijection of labels.
--
-- The origin of y is found by a search for the first image that is y or the inverse of y, and inverse labels have
-- inverse origins. In a bijection one image alone is of the edge of y, so the search finds the label that goes to y:
-- the origin of f(x) is x. Since f is onto, f takes the origin of y to y. So the inverse images list a map g with
-- g(f(x)) = x and f(g(y)) = y. It is a bijection: the images of two of its entries at one edge would be of one edge,
-- and so the two places are one. And any list g with g(f(x)) = x agrees with it at each y = f(x).
use Rattle.std.proofs.Common.{ℕ, zero, suc, ℤ, pos, negsuc, Bool, List, [], ◌∷◌, ◌≡◌, ◌≢◌, ◌≤◌, ◌<◌, ◌+◌, inl, inr}
use Rattle.std.proofs.Common.{refl, sym, ◌∙◌, ap, subst, arith, length, get_or, All, if◌then◌else◌}
use Rattle.std.specs.Ordering.{int_eq}
use Rattle.std.proofs.lemmas.List.{ext_get_or}
use Rattle.std.proofs.lemmas.List.Elements.{All-from_get_or}
use Rattle.std.proofs.lemmas.List.FromFn.{length-map-range_with_len, get_or-map-range_with_len}
use Rattle.ideal_tri.specs.Labels.{inverse, edge_of}
use Rattle.ideal_tri.specs.Relabellings.{image_of, hits, IsBijection, origin_from, origin_of, inverse_images}
use Rattle.ideal_tri.specs.BijectionLaws.{BijectionLaws}
use Rattle.ideal_tri.proofs.Labels.{inverse-inverse, not_own_inverse, edge_of-inverse, same_or_not, int_eq-same}
use Rattle.ideal_tri.proofs.Labels.{int_eq-other}
use Rattle.ideal_tri.proofs.Hits.{hits_hit, hits-le, hit_at, hits_le_one, each_hit_once}
use Rattle.ideal_tri.proofs.Bijections.{image_of-inverse, image_of-is, edge_of-image_of, image_in_range, image_of-map}
use Rattle.ideal_tri.proofs.Bijections.{none_twice}
use Rattle.ideal_tri.proofs.Bijections.{image_edge_apart, image_apart, has_origin, hits-image, IsReduced-image}
use Rattle.ideal_tri.proofs.Bijections.{IsCyclicallyReduced-image, bijection_through}

-- ---- the search for an origin

origin_from-here : (n : ℕ) (y : ℤ) (images : List ℤ) (x : ℤ) → y ≡ x → origin_from n (y ∷ images) x ≡ pos n
origin_from-here n y images x e =
    ap (λ (b : Bool). if b then pos n else if int_eq y (inverse x) then negsuc n else origin_from (suc n) images x)
    (int_eq-same y x e)

origin_from-here_inverse : (n : ℕ) (y : ℤ) (images : List ℤ) (x : ℤ) → y ≢ x → y ≡ inverse x
    → origin_from n (y ∷ images) x ≡ negsuc n
origin_from-here_inverse n y images x ne e =
    ap (λ (b : Bool). if b then pos n else if int_eq y (inverse x) then negsuc n else origin_from (suc n) images x)
    (int_eq-other y x ne)
    ∙ ap (λ (b : Bool). if b then negsuc n else origin_from (suc n) images x) (int_eq-same y (inverse x) e)

origin_from-later : (n : ℕ) (y : ℤ) (images : List ℤ) (x : ℤ) → y ≢ x → y ≢ inverse x
    → origin_from n (y ∷ images) x ≡ origin_from (suc n) images x
origin_from-later n y images x ne nf =
    ap (λ (b : Bool). if b then pos n else if int_eq y (inverse x) then negsuc n else origin_from (suc n) images x)
    (int_eq-other y x ne)
    ∙ ap (λ (b : Bool). if b then negsuc n else origin_from (suc n) images x) (int_eq-other y (inverse x) nf)

-- inverse labels have inverse origins
origin_from-inverse : (n : ℕ) (images : List ℤ) (x : ℤ)
    → origin_from n images (inverse x) ≡ inverse (origin_from n images x)
origin_from-inverse n [] x = refl
origin_from-inverse n (y ∷ images) x =
    elim (same_or_not y x) [
      | inl e ↦
          (origin_from-here_inverse n y images (inverse x) (λ f. not_own_inverse x (sym e ∙ f))
          (e ∙ sym (inverse-inverse x))
          ∙ ap inverse (sym (origin_from-here n y images x e)))
      | inr ne ↦
          elim (same_or_not y (inverse x)) [
            | inl f ↦
                origin_from-here n y images (inverse x) f
                ∙ ap inverse (sym (origin_from-here_inverse n y images x ne f))
            | inr nf ↦
                (origin_from-later n y images (inverse x) nf (λ f. ne (f ∙ inverse-inverse x))
                ∙ origin_from-inverse (suc n) images x
                ∙ ap inverse (sym (origin_from-later n y images x ne nf)))
          ]
    ]

pub origin_of-inverse : (images : List ℤ) (x : ℤ) → origin_of images (inverse x) ≡ inverse (origin_of images x)
origin_of-inverse images x = origin_from-inverse 0 images x

-- where an edge is hit once, the search finds the place
origin_from-place : (n k : ℕ) (images : List ℤ) (x : ℤ) → k < length images → hits images (edge_of x) ≤ 1
    → get_or images k (pos 0) ≡ x
    → origin_from n images x ≡ pos (n + k)
origin_from-place n k [] x below once is = absurd (omega arith)
origin_from-place n zero (y ∷ images) x below once is = origin_from-here n y images x is ∙ ap pos (omega arith)
origin_from-place n (suc k) (y ∷ images) x below once is =
    origin_from-later n y images x (λ e. apart (ap edge_of e)) (λ e. apart (ap edge_of e ∙ edge_of-inverse x))
    ∙ origin_from-place (suc n) k images x (omega arith) (omega (arith, hits-le y images (edge_of x))) is
    ∙ ap pos (omega arith)
  where
    apart : edge_of y ≢ edge_of x
    apart e = omega (arith, hits_hit y images (edge_of x) e, hit_at images k (edge_of x) (omega arith) (ap edge_of is))

-- the search finds the label that was mapped
pub origin_of-entry : (images : List ℤ) (k : ℕ) → IsBijection images → k < length images
    → origin_of images (get_or images k (pos 0)) ≡ pos k
origin_of-entry images k h below =
    origin_from-place 0 k images (get_or images k (pos 0)) below (none_twice images h _) refl ∙ ap pos (omega arith)

origin_of-image : (images : List ℤ) (x : ℤ) → IsBijection images → edge_of x < length images
    → origin_of images (image_of images x) ≡ x
origin_of-image images (pos k) h below = origin_of-entry images k h below
origin_of-image images (negsuc k) h below =
    origin_of-inverse images (get_or images k (pos 0)) ∙ ap inverse (origin_of-entry images k h below)

-- ---- the inverse images

pub length-inverse_images : (images : List ℤ) → length (inverse_images images) ≡ length images
length-inverse_images images = length-map-range_with_len (λ n. origin_of images (pos n)) 0 (length images)

get_or-inverse_images : (images : List ℤ) (k : ℕ) → k < length images
    → get_or (inverse_images images) k (pos 0) ≡ origin_of images (pos k)
get_or-inverse_images images k below =
    get_or-map-range_with_len (λ n. origin_of images (pos n)) 0 (length images) k k (pos 0) below (omega arith)

image_of-inverse_images : (images : List ℤ) (y : ℤ) → edge_of y < length images
    → image_of (inverse_images images) y ≡ origin_of images y
image_of-inverse_images images (pos k) below = get_or-inverse_images images k below
image_of-inverse_images images (negsuc k) below =
    ap inverse (get_or-inverse_images images k below) ∙ sym (origin_of-inverse images (pos k))

pub there_and_back : (images : List ℤ) (x : ℤ) → IsBijection images → edge_of x < length images
    → image_of (inverse_images images) (image_of images x) ≡ x
there_and_back images x h x_in =
    image_of-inverse_images images (image_of images x) (image_in_range images (length images) x h.labels x_in)
    ∙ origin_of-image images x h x_in

pub back_and_there : (images : List ℤ) (y : ℤ) → IsBijection images → edge_of y < length images
    → image_of images (image_of (inverse_images images) y) ≡ y
back_and_there images y h y_in =
    let (x, x_in, is) = has_origin images y h y_in in
    ap (λ (z : ℤ). image_of images (image_of (inverse_images images) z)) (sym is)
    ∙ ap (image_of images) (there_and_back images x h x_in)
    ∙ is

pub back_in_range : (images : List ℤ) (y : ℤ) → IsBijection images → edge_of y < length images
    → edge_of (image_of (inverse_images images) y) < length images
back_in_range images y h y_in =
    let (x, x_in, is) = has_origin images y h y_in in
    subst (λ (z : ℤ). edge_of z < length images)
    (sym (there_and_back images x h x_in) ∙ ap (image_of (inverse_images images)) is) x_in

pub bijection_back : (images : List ℤ) → IsBijection images → IsBijection (inverse_images images)
bijection_back images h =
    record { labels = as_long labels; once = each_hit_once back (length back) (as_long labels) refl once }
  where
    back : List ℤ
    back = inverse_images images

    within : (i : ℕ) → i < length (inverse_images images) → i < length images
    within i i_in = omega (arith, length-inverse_images images)

    labels : All (λ x. edge_of x < length images) (inverse_images images)
    labels =
        All-from_get_or (λ x. edge_of x < length images) (inverse_images images) (pos 0)
        (λ i i_in. back_in_range images (pos i) h (within i i_in))

    as_long : All (λ x. edge_of x < length images) (inverse_images images)
        → All (λ x. edge_of x < length (inverse_images images)) (inverse_images images)
    as_long = subst (λ (n : ℕ). All (λ x. edge_of x < n) (inverse_images images)) (sym (length-inverse_images images))

    goes_to : (i : ℕ) → i < length images
        → edge_of (get_or images (edge_of (get_or (inverse_images images) i (pos 0))) (pos 0)) ≡ i
    goes_to i i_in =
        sym (edge_of-image_of images (get_or (inverse_images images) i (pos 0)))
        ∙ ap edge_of (back_and_there images (pos i) h i_in)

    once : (d : ℕ) → hits (inverse_images images) d ≤ 1
    once d =
        hits_le_one (inverse_images images) d
        (λ i j i_in j_in i_is j_is.
        sym (goes_to i (within i i_in))
        ∙ ap (λ (m : ℕ). edge_of (get_or images m (pos 0))) (i_is ∙ sym j_is)
        ∙ goes_to j (within j j_in))

-- images that undo the bijection are its inverse images
pub only_back : (images others : List ℤ) → IsBijection images → length others ≡ length images
    → ((x : ℤ) → edge_of x < length images → image_of others (image_of images x) ≡ x) → others ≡ inverse_images images
only_back images others h long undoes =
    ext_get_or (pos 0) others (inverse_images images) (long ∙ sym (length-inverse_images images))
    (λ k below.
    let (x, x_in, is) = has_origin images (pos k) h (omega arith) in
    ap (image_of others) (sym is) ∙ undoes x x_in
    ∙ sym (there_and_back images x h x_in) ∙ ap (image_of (inverse_images images)) is)

twice : (images : List ℤ) → IsBijection images → inverse_images (inverse_images images) ≡ images
twice images h =
    sym
    (only_back (inverse_images images) images (bijection_back images h) (sym (length-inverse_images images))
    (λ x x_in. back_and_there images x h (omega (arith, length-inverse_images images))))

-- ---- the laws

pub bijection_laws : BijectionLaws
bijection_laws = record {
  inverse = image_of-inverse;
  is = image_of-is;
  edge = edge_of-image_of;
  in_range = image_in_range;
  through = image_of-map;
  once = none_twice;
  one_edge = image_edge_apart;
  one = image_apart;
  onto = has_origin;
  composed = bijection_through;
  hits = hits-image;
  reduced = IsReduced-image;
  cyclically_reduced = IsCyclicallyReduced-image;
  origin = image_of-inverse_images;
  back = bijection_back;
  as_many = length-inverse_images;
  there_and_back = there_and_back;
  back_and_there = back_and_there;
  only_back = only_back;
  twice = twice;
}
