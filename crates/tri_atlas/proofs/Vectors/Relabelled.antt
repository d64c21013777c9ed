-- A relabelling moves the numbers of a vector, its corners, and the steps of its strands.
--
-- The number of a label is that of its image after the move, and the images of the sides of a triangle follow each
-- other. So corners have the counts of their images, and a step of a strand is carried to a step, with the same
-- places.
use Rattle.std.proofs.Common.{ℕ, ℤ, pos, Bool, true, false, cond, leb, List, ◌≡◌, ◌<◌, ◌+◌, ◌-◌, ◌/◌, refl, sym, ◌∙◌}
use Rattle.std.proofs.Common.{ap, subst, length, map}
use Rattle.std.specs.Prelude.{slice_index}
use Rattle.std.proofs.lemmas.List.{get_or-map, length-map}
use Rattle.ideal_tri.specs.Labels.{inverse, edge_of}
use Rattle.ideal_tri.specs.Triangulations.{IsTriangulation, IsLabel, edge_count, next, previous}
use Rattle.ideal_tri.specs.Vectors.{IsMulticurve, weight, corner_count}
use Rattle.ideal_tri.specs.Relabellings.{image_of, inverse_images, IsRelabelling}
use Rattle.ideal_tri.specs.Strands.{State, state_at, IsStrand, strand_step}
use Rattle.tri_atlas.proofs.LowerLaws.{LowerLaws}
use Rattle.tri_atlas.proofs.Moves.{image_undone}
use Rattle.tri_atlas.proofs.Vectors.Turns.{HasCornerSums}
use Rattle.tri_atlas.proofs.Vectors.Given.{Given, sums_of_multicurve, multicurve_of_sums}

-- ---- numbers

-- the number at y is that of the label that goes to y
weight-moved : LowerLaws → (w : List ℕ) (images : List ℤ) (y : ℤ) → edge_of y < length images
    → weight (map (weight w) (inverse_images images)) y ≡ weight w (image_of (inverse_images images) y)
weight-moved laws w images y below =
    get_or-map (weight w) (inverse_images images) (edge_of y) (pos 0) 0
    (subst (λ (n : ℕ). edge_of y < n) (sym (laws.bijections.as_many images)) below)
    ∙ ap (slice_index w) (sym (laws.bijections.edge (inverse_images images) y))

module _ (laws : LowerLaws) (before target : List (List ℤ)) (images : List ℤ) (w : List ℕ)
    (h : IsRelabelling before target images) where
  pub weight-image : (x : ℤ) → IsLabel before x
      → weight (map (weight w) (inverse_images images)) (image_of images x) ≡ weight w x
  weight-image x l =
      weight-moved laws w images (image_of images x)
      (subst (λ (n : ℕ). edge_of (image_of images x) < n)
      (sym (h.one_per_edge ∙ laws.relabellings.edges before target images h))
      (laws.relabellings.label before target images x h l))
      ∙ ap (weight w) (image_undone laws before target images x h l)

  pub length-moved : length (map (weight w) (inverse_images images)) ≡ edge_count target
  length-moved =
      length-map (inverse_images images) (weight w)
      ∙ laws.bijections.as_many images
      ∙ h.one_per_edge
      ∙ laws.relabellings.edges before target images h

-- each label of the target is an image
pub record HasOrigin (before : List (List ℤ)) (images : List ℤ) (y : ℤ) : Type 0 where
  pub origin : ℤ
  pub label : IsLabel before origin
  pub is : image_of images origin ≡ y

pub origin : LowerLaws → (before target : List (List ℤ)) (images : List ℤ) (y : ℤ) → IsRelabelling before target images
    → IsLabel target y
    → HasOrigin before images y
origin laws before target images y h l =
    let long : length images ≡ edge_count target = h.one_per_edge ∙ laws.relabellings.edges before target images h in
    let (x, below, is) = laws.bijections.onto images y (laws.relabellings.bijection before target images h)
    (subst (λ (n : ℕ). edge_of y < n) (sym long) l) in
    record { origin = x; label = subst (λ (n : ℕ). edge_of x < n) h.one_per_edge below; is = is }

-- ---- one relabelling

module _ (g : Given) (before target : List (List ℤ)) (images : List ℤ) (p : IsTriangulation before)
    (t : IsTriangulation target) (h : IsRelabelling before target images) (w : List ℕ) where
  abbrev pub moved_vector : List ℕ
  moved_vector = map (weight w) (inverse_images images)

  -- the image of a label
  abbrev im : ℤ → ℤ
  im x = image_of images x

  number : (x : ℤ) → IsLabel before x → weight moved_vector (image_of images x) ≡ weight w x
  number x l = weight-image g.lower before target images w h x l

  follow : (x : ℤ) → IsLabel before x → next target (image_of images x) ≡ image_of images (next before x)
  follow x l = g.lower.relabellings.next before target images x p t h l

  next_label : (x : ℤ) → IsLabel before x → IsLabel before (next before x)
  next_label x l = (g.lower.surfaces.triangles before p).label x l

  follow_back : (x : ℤ) → IsLabel before x → previous target (image_of images x) ≡ image_of images (previous before x)
  follow_back x l = ap (next target) (follow x l) ∙ follow (next before x) (next_label x l)

  -- ---- corners

  corner : (x : ℤ) → IsLabel before x → corner_count target moved_vector (image_of images x) ≡ corner_count before w x
  corner x l =
      ap (λ (b : ℤ). (weight v (im x) + weight v b - weight v (previous target (im x))) / 2) (follow x l)
      ∙ ap (λ (c : ℤ). (weight v (im x) + weight v (im y) - weight v c) / 2) (follow_back x l)
      ∙ ap (λ (n : ℕ). (n + weight v (im y) - weight v (im z)) / 2) (number x l)
      ∙ ap (λ (n : ℕ). (weight w x + n - weight v (im z)) / 2) (number y ly)
      ∙ ap (λ (n : ℕ). (weight w x + weight w y - n) / 2) (number z (next_label y ly))
    where
      v : List ℕ
      v = moved_vector

      y : ℤ
      y = next before x

      z : ℤ
      z = previous before x

      ly : IsLabel before (next before x)
      ly = next_label x l

  sums : HasCornerSums before w → HasCornerSums target moved_vector
  sums k = record { sums = λ y l. from y (origin g.lower before target images y h l) }
    where
      sum : (x : ℤ) → IsLabel before x
          → weight moved_vector (im x)
          ≡ corner_count target moved_vector (im x) + corner_count target moved_vector (previous target (im x))
      sum x l =
          number x l
          ∙ k.sums x l
          ∙ sym (ap (λ (n : ℕ). n + corner_count target moved_vector (previous target (im x))) (corner x l)
          ∙ ap (λ (u : ℤ). corner_count before w x + corner_count target moved_vector u) (follow_back x l)
          ∙ ap (λ (n : ℕ). corner_count before w x + n)
          (corner (previous before x) (next_label (next before x) (next_label x l))))

      v : List ℕ
      v = moved_vector

      from : (y : ℤ) → HasOrigin before images y
          → weight moved_vector y
          ≡ corner_count target moved_vector y + corner_count target moved_vector (previous target y)
      from y o =
          subst (λ (u : ℤ). weight v u ≡ corner_count target v u + corner_count target v (previous target u))
          o.is (sum o.origin o.label)

  pub relabel_multicurve : IsMulticurve before w → IsMulticurve target moved_vector
  relabel_multicurve m =
      multicurve_of_sums g target moved_vector t (length-moved g.lower before target images w h)
      (sums (sums_of_multicurve g before w p m))

  -- ---- strands

  -- the place at the image of the side
  abbrev pub moved_state : State → State
  moved_state q = state_at (image_of images q.label) q.place

  either_state : (b : Bool) (y z : ℤ) (i j : ℕ)
      → cond b (state_at (image_of images y) i) (state_at (image_of images z) j)
      ≡ moved_state (cond b (state_at y i) (state_at z j))
  either_state true y z i j = refl
  either_state false y z i j = refl

  pub step_moved : (q : State) → IsLabel before q.label
      → strand_step target moved_vector (moved_state q) ≡ moved_state (strand_step before w q)
  step_moved q l =
      ap (λ (n : ℕ). from (inverse (im q.label)) (n - 1 - q.place)) (number q.label l)
      ∙ ap (λ (u : ℤ). from u i) (sym (g.lower.bijections.inverse images q.label))
      ∙ ap (λ (u : ℤ). turn u (previous target (im x)) (weight v (im x)) (weight v (previous target (im x)))
      (corner_count target v (previous target (im x)))) (follow x lx)
      ∙ ap (λ (u : ℤ). turn (im y) u (weight v (im x)) (weight v u) (corner_count target v u)) (follow_back x lx)
      ∙ ap (λ (n : ℕ). turn (im y) (im z) n (weight v (im z)) (corner_count target v (im z))) (number x lx)
      ∙ ap (λ (n : ℕ). turn (im y) (im z) (weight w x) n (corner_count target v (im z))) (number z lz)
      ∙ ap (λ (n : ℕ). turn (im y) (im z) (weight w x) (weight w z) n) (corner z lz)
      ∙ either_state (leb (corner_count before w z) i) y z (weight w x - 1 - i) (weight w z - 1 - i)
    where
      v : List ℕ
      v = moved_vector

      x : ℤ
      x = inverse q.label

      y : ℤ
      y = next before (inverse q.label)

      z : ℤ
      z = previous before (inverse q.label)

      i : ℕ
      i = weight w q.label - 1 - q.place

      lx : IsLabel before (inverse q.label)
      lx = g.lower.labels.label before q.label l

      lz : IsLabel before (previous before (inverse q.label))
      lz = next_label y (next_label x lx)

      turn : ℤ → ℤ → ℕ → ℕ → ℕ → State
      turn b c n k m = cond (leb m i) (state_at b (n - 1 - i)) (state_at c (k - 1 - i))

      from : ℤ → ℕ → State
      from b j =
          cond (leb (corner_count target v (previous target b)) j) (state_at (next target b) (weight v b - 1 - j))
          (state_at (previous target b) (weight v (previous target b) - 1 - j))

  pub valid_moved : (q : State) → IsStrand before w q → IsStrand target moved_vector (moved_state q)
  valid_moved q s = record {
    is_label = g.lower.relabellings.label before target images q.label h s.is_label;
    within = subst (λ (n : ℕ). q.place < n) (sym (number q.label s.is_label)) s.within;
  }
