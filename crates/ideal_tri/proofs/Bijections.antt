-- The images of labels and of words, and bijections of labels.
--
-- A list of images gives a map f of labels that goes with inverses, so the edge of f(x) is that of the image listed for
-- the edge of x. In a bijection each edge is hit once. So labels of different edges have images of different edges, and
-- the two labels of an edge, being inverse to each other, have different images too: f is injective, and it is onto
-- since each edge is hit. An injective f that goes with inverses makes no two neighbours of a word inverse to each
-- other that were not, and the image of an edge is met by the image of a word as often as the edge by the word.
use Rattle.std.proofs.Common.{ℕ, ℤ, pos, negsuc, List, [], ◌∷◌, ◌++◌, ◌≡◌, ◌≤◌, ◌<◌, ◌+◌, inl, inr, refl, sym, ◌∙◌, ap}
use Rattle.std.proofs.Common.{subst, arith, length, get_or, map, All}
use Rattle.std.proofs.lemmas.Bool.{cases_eq, cases_lt}
use Rattle.std.proofs.lemmas.List.{get_or-map, length-map}
use Rattle.std.proofs.lemmas.List.Elements.{All-head, All-tail, All-cons, All-push, All-get_or, All-map}
use Rattle.ideal_tri.specs.Labels.{inverse, edge_of, with_sign_of}
use Rattle.ideal_tri.specs.Words.{IsReduced, IsCyclicallyReduced, closed_up}
use Rattle.ideal_tri.specs.Relabellings.{image_of, hits, IsBijection}
use Rattle.ideal_tri.specs.BijectionLaws.{AreMapped}
use Rattle.ideal_tri.proofs.Labels.{inverse-inverse, not_own_inverse, edge_of-inverse, two_labels}
use Rattle.ideal_tri.proofs.Hits.{hits_hit, hits_missed, place_of_hit, one_place, hits_past}

-- ---- images of labels

pub image_of-inverse : (images : List ℤ) (x : ℤ) → image_of images (inverse x) ≡ inverse (image_of images x)
image_of-inverse images (pos n) = refl
image_of-inverse images (negsuc n) = sym (inverse-inverse (get_or images n (pos 0)))

pub image_of-is : (images : List ℤ) (x : ℤ) → image_of images x ≡ with_sign_of x (get_or images (edge_of x) (pos 0))
image_of-is images (pos n) = refl
image_of-is images (negsuc n) = refl

-- a label and its inverse have images of one edge
pub edge_of-image_of : (images : List ℤ) (x : ℤ)
    → edge_of (image_of images x) ≡ edge_of (get_or images (edge_of x) (pos 0))
edge_of-image_of images (pos n) = refl
edge_of-image_of images (negsuc n) = edge_of-inverse (get_or images n (pos 0))

pub image_in_range : (images : List ℤ) (n : ℕ) (x : ℤ) → All (λ y. edge_of y < n) images → edge_of x < length images
    → edge_of (image_of images x) < n
image_in_range images n x labels h =
    subst (λ (e : ℕ). e < n) (sym (edge_of-image_of images x))
    (All-get_or (λ y. edge_of y < n) images (edge_of x) (pos 0) h labels)

-- one list of images after another
pub image_of-map : (images others : List ℤ) (x : ℤ) → edge_of x < length images
    → image_of (map (image_of others) images) x ≡ image_of others (image_of images x)
image_of-map images others (pos n) below = get_or-map (image_of others) images n (pos 0) (pos 0) below
image_of-map images others (negsuc n) below =
    ap inverse (get_or-map (image_of others) images n (pos 0) (pos 0) below)
    ∙ sym (image_of-inverse others (get_or images n (pos 0)))

-- ---- bijections

pub none_twice : (images : List ℤ) → IsBijection images → (e : ℕ) → hits images e ≤ 1
none_twice images h e =
    elim (cases_lt e (length images)) [
      | inl l ↦ omega (arith, h.once e l)
      | inr g ↦ omega (arith, hits_past images (length images) e h.labels g)
    ]

-- labels of different edges have images of different edges
pub image_edge_apart : (images : List ℤ) (x y : ℤ) → IsBijection images → edge_of x < length images
    → edge_of y < length images
    → edge_of (image_of images x) ≡ edge_of (image_of images y) → edge_of x ≡ edge_of y
image_edge_apart images x y h x_in y_in e =
    one_place images (edge_of (image_of images y)) (edge_of x) (edge_of y) (none_twice images h _) x_in y_in
    (sym (edge_of-image_of images x) ∙ e) (sym (edge_of-image_of images y))

-- different labels have different images
pub image_apart : (images : List ℤ) (x y : ℤ) → IsBijection images → edge_of x < length images
    → edge_of y < length images
    → image_of images x ≡ image_of images y → x ≡ y
image_apart images x y h x_in y_in e =
    elim (two_labels x y (image_edge_apart images x y h x_in y_in (ap edge_of e))) [
      | inl same ↦ same
      | inr other ↦
          absurd (not_own_inverse (image_of images y) (sym e ∙ ap (image_of images) other ∙ image_of-inverse images y))
    ]

-- each label is an image
pub has_origin : (images : List ℤ) (y : ℤ) → IsBijection images → edge_of y < length images
    → (x : ℤ) × (edge_of x < length images) × (image_of images x ≡ y)
has_origin images y h y_in =
    let (i, i_in, edge) = place_of_hit images (edge_of y) (omega (arith, h.once (edge_of y) y_in)) in
    elim (two_labels (get_or images i (pos 0)) y edge) [
      | inl e ↦ (pos i, i_in, e)
      | inr e ↦ (negsuc i, i_in, ap inverse e ∙ inverse-inverse y)
    ]

-- ---- the images of words

-- the image of an edge is hit by the image of a word as often as the edge by the word
pub hits-image : (images w : List ℤ) (e : ℕ) → IsBijection images → AreMapped images w → e < length images
    → hits (map (image_of images) w) (edge_of (image_of images (pos e))) ≡ hits w e
hits-image images [] e h labels e_in = refl
hits-image images (x ∷ w) e h labels e_in =
    let P : ℤ → Type 0 = λ y. edge_of y < length images in
    let rest : hits (map (image_of images) w) (edge_of (image_of images (pos e))) ≡ hits w e =
    hits-image images w e h (All-tail P x w labels) e_in in
    elim (cases_eq (edge_of x) e) [
      | inl is_e ↦
          (let same : edge_of (image_of images x) ≡ edge_of (image_of images (pos e)) =
          edge_of-image_of images x ∙ ap (λ (d : ℕ). edge_of (get_or images d (pos 0))) is_e in
          hits_hit (image_of images x) (map (image_of images) w) _ same
          ∙ ap (λ (n : ℕ). 1 + n) rest
          ∙ sym (hits_hit x w e is_e))
      | inr not_e ↦
          (hits_missed (image_of images x) (map (image_of images) w) _
          (λ same. not_e (image_edge_apart images x (pos e) h (All-head P x w labels) e_in same))
          ∙ rest ∙ sym (hits_missed x w e not_e))
    ]

-- no two neighbours become inverse to each other
pub IsReduced-image : (images w : List ℤ) → IsBijection images → AreMapped images w → IsReduced w
    → IsReduced (map (image_of images) w)
IsReduced-image images [] bijection labels h = tt
IsReduced-image images (x ∷ []) bijection labels h = tt
IsReduced-image images (x ∷ (y ∷ w)) bijection labels h =
    let P : ℤ → Type 0 = λ z. edge_of z < length images in
    let rest = All-tail P x (y ∷ w) labels in
    let x_in : edge_of (inverse x) < length images =
    subst (λ (e : ℕ). e < length images) (sym (edge_of-inverse x)) (All-head P x (y ∷ w) labels) in (
      λ e. h.0 (image_apart images y (inverse x) bijection (All-head P y w rest) x_in
          (e ∙ sym (image_of-inverse images x))),
      IsReduced-image images (y ∷ w) bijection rest h.1,
    )

map-push : (f : ℤ → ℤ) (w : List ℤ) (x : ℤ) → map f (w ++ (x ∷ [])) ≡ map f w ++ (f x ∷ [])
map-push f [] x = refl
map-push f (y ∷ w) x = ap (λ (v : List ℤ). f y ∷ v) (map-push f w x)

closed_up-map : (f : ℤ → ℤ) (w : List ℤ) → map f (closed_up w) ≡ closed_up (map f w)
closed_up-map f [] = refl
closed_up-map f (x ∷ w) = ap (λ (v : List ℤ). f x ∷ v) (map-push f w x)

All-closed_up : (P : ℤ → Type 0) (w : List ℤ) → All P w → All P (closed_up w)
All-closed_up P [] h = h
All-closed_up P (x ∷ w) h =
    All-cons P x (w ++ (x ∷ [])) (All-head P x w h) (All-push P w x (All-tail P x w h) (All-head P x w h))

pub IsCyclicallyReduced-image : (images w : List ℤ) → IsBijection images → AreMapped images w
    → IsCyclicallyReduced w → IsCyclicallyReduced (map (image_of images) w)
IsCyclicallyReduced-image images w bijection labels h =
    subst IsReduced (closed_up-map (image_of images) w)
    (IsReduced-image images (closed_up w) bijection (All-closed_up (λ x. edge_of x < length images) w labels) h)

-- ---- one bijection after another

pub bijection_through : (images others : List ℤ) → IsBijection images → IsBijection others
    → length images ≡ length others
    → IsBijection (map (image_of others) images)
bijection_through images others h k same = record {
  labels =
      All-map (λ x. edge_of x < length (map (image_of others) images)) (image_of others) images
      (λ d z below.
      subst (λ (n : ℕ). edge_of (image_of others (get_or images d z)) < n)
      (sym (length-map images (image_of others) ∙ same))
      (image_in_range others (length others) (get_or images d z) k.labels
      (subst (λ (n : ℕ). edge_of (get_or images d z) < n) same (h.labels d z below))));
  once = λ e below.
      let there : e < length others = subst (λ (n : ℕ). e < n) (length-map images (image_of others) ∙ same) below in
      let (d, d_in, is_e) = place_of_hit others e (omega (arith, k.once e there)) in
      subst (λ (f : ℕ). hits (map (image_of others) images) f ≡ 1) is_e
      (hits-image others images d k (subst (λ (n : ℕ). All (λ x. edge_of x < n) images) same h.labels) d_in
      ∙ h.once d (subst (λ (n : ℕ). d < n) (sym same) d_in));
}
