-- The first label at whose vertex all corners have strands lies at the least such vertex: vertices are numbered in the
-- order of their least corners, and all corners of a vertex have the same least count.
use Rattle.std.proofs.Common.{◌≡◌, ◌≢◌, ◌<◌, ◌≤◌, inl, inr, ℕ, ℤ, pos, negsuc, List, sym, ◌∙◌, ap, subst, arith, refl}
use Rattle.std.proofs.lemmas.Bool.{cases_lt}
use Rattle.ideal_tri.specs.Labels.{edge_of}
use Rattle.ideal_tri.specs.Triangulations.{IsLabel, edge_count}
use Rattle.ideal_tri.specs.Vectors.{corner_count}
use Rattle.ideal_tri.specs.Vertices.{rank, IsSameVertex, least_corner, vertex_of}
use Rattle.ideal_tri.specs.VertexLaws.{PunctureLaws}
use Rattle.ideal_tri.specs.CornerLaws.{CornerLaws}
use Rattle.ideal_tri.specs.PeripheralParts.{HasFreeCorners, least_count}
use Rattle.edge_coords.specs.PeripheralVertices.{IsPeripheralAt, IsLeastPeripheral}

-- no vertex has strands at all its corners
pub free_corners : (triples : List (List ℤ)) (w : List ℕ) → CornerLaws triples
    → ((y : ℤ) → IsLabel triples y → least_count triples w y ≡ 0) → HasFreeCorners triples w
free_corners triples w laws none x l =
    let (y, same, least) = laws.there w x l in
    (y, same, least ∙ none x l)

-- ---- the order of labels

edge_within : (x y : ℤ) (n : ℕ) → rank y ≤ rank x → edge_of x < n → edge_of y < n
edge_within (pos a) (pos b) n h l = omega arith
edge_within (pos a) (negsuc b) n h l = omega arith
edge_within (negsuc a) (pos b) n h l = omega arith
edge_within (negsuc a) (negsuc b) n h l = omega arith

-- ---- the least vertex

module _ (triples : List (List ℤ)) (w : List ℕ) (corners : CornerLaws triples) (vertices : PunctureLaws triples) where
  least_label : (x : ℤ) → IsLabel triples x → IsLabel triples (least_corner triples x)
  least_label x l =
      edge_within x (least_corner triples x) (edge_count triples)
      (vertices.least x x l (record { steps = 0; reached = refl })) l

  vertex_of-least_corner : (x : ℤ) → IsLabel triples x → vertex_of triples x
      ≡ vertex_of triples (least_corner triples x)
  vertex_of-least_corner x l = (vertices.same x (least_corner triples x) l (least_label x l)).1 (vertices.there x l)

  -- vertices in the order of their least corners
  least_corners_ordered : (x y : ℤ) → IsLabel triples x → IsLabel triples y → vertex_of triples y < vertex_of triples x
      → rank (least_corner triples y) ≤ rank (least_corner triples x)
  least_corners_ordered x y l m low = elim (cases_lt (rank (least_corner triples x)) (rank (least_corner triples y))) [
    | inl less ↦ (let above : vertex_of triples x < vertex_of triples y = vertices.ordered x y l m less in absurd
        (omega arith))
    | inr h ↦ h
  ]

  positive : (v : ℕ) → (h : IsPeripheralAt triples w v) → 0 < least_count triples w (least_corner triples h.corner)
  positive v h =
      let (z, there, least) = corners.there w h.corner h.label in
      let strands : 0 < corner_count triples w z = h.all z there in
      let one : least_count triples w h.corner ≡ least_count triples w (least_corner triples h.corner) =
      corners.same w h.corner (least_corner triples h.corner) h.label (vertices.there h.corner h.label) in
      omega arith

  -- it is that of the first label at whose vertex all corners have strands
  pub least_peripheral : (x : ℤ) → IsLabel triples x → 0 < least_count triples w x
      → ((y : ℤ) → IsLabel triples y → y ≢ x → rank y ≤ rank x → least_count triples w y ≡ 0)
      → IsLeastPeripheral triples w (vertex_of triples x)
  least_peripheral x l here first = record {
    here = record {
      corner = x;
      label = l;
      vertex = refl;
      all = λ y same. (let least : least_count triples w x ≤ corner_count triples w y = corners.least w x y l same in
          omega arith);
    };
    before = λ u low h.
        (let order : rank (least_corner triples h.corner) ≤ rank (least_corner triples x) =
        least_corners_ordered x h.corner l h.label (subst (λ (v : ℕ). v < vertex_of triples x) (sym h.vertex) low) in
        let least : rank (least_corner triples x) ≤ rank x = vertices.least x x l (record {
          steps = 0;
          reached = refl;
        }) in
        let other : least_corner triples h.corner ≢ x = λ e.
        (let one : vertex_of triples x ≡ u = ap (vertex_of triples) (sym e)
        ∙ sym (vertex_of-least_corner h.corner h.label) ∙ h.vertex in
        omega arith) in
        let none : least_count triples w (least_corner triples h.corner) ≡ 0 =
        first (least_corner triples h.corner) (least_label h.corner h.label) other (omega arith) in
        let some : 0 < least_count triples w (least_corner triples h.corner) = positive u h in
        omega arith);
  }
