-- Left-out corners: in triangles, at vertices, and in the order of labels.
use Rattle.std.proofs.Common.{ℕ, ℤ, pos, Bool, true, false, List, [], ◌∷◌, ◌≡◌, ◌≢◌, ◌<◌, ◌≤◌}
use Rattle.std.proofs.Common.{◌⊎◌, inl, inr, refl, sym, ◌∙◌, ap, subst, arith, length, map, get_or}
use Rattle.std.specs.Prelude.{nat_eq, slice_get, Some}
use Rattle.std.specs.List.{All, AllPairs, Contains, list_any}
use Rattle.std.specs.Ordering.{int_eq}
use Rattle.std.proofs.lemmas.Bool.{true≢false, cases_Bool, or_cases, or_left, or_right, and_parts, and_from}
use Rattle.std.proofs.lemmas.Bool.{eq-eqb, eqb-true}
use Rattle.std.proofs.lemmas.List.{get_or-map, length-map, get_or_default}
use Rattle.std.proofs.lemmas.Option.{get_or_from_slice_get}
use Rattle.std.proofs.lemmas.List.Elements.{All-contains}
use Rattle.std.proofs.lemmas.List.Folds.{list_any_at}
use Rattle.ideal_tri.specs.LabelLaws.{LabelLaws}
use Rattle.ideal_tri.specs.SurfaceLaws.{TriangleLaws}
use Rattle.ideal_tri.specs.VertexLaws.{PunctureLaws}
use Rattle.ideal_tri.specs.Triangulations.{IsLabel, triangle_of, next}
use Rattle.ideal_tri.specs.Vertices.{rank, vertex_of, vertex_count}
use Rattle.train_track.specs.Tracks.{is_left_out, IsSingleInTriangles, IsOpenAtVertices, ArePlaced}
use Rattle.train_track.specs.Refusals.{HasTwo, IsVertexClosed, IsLeastClosed}
use Rattle.train_track.specs.inside.Corners.{two_of}
use Rattle.train_track.proofs.Lists.{contains_here, contains_later}

-- ---- the corners of the list

pub listed_out : LabelLaws → (out : List ℤ) (y : ℤ) → is_left_out out y ≡ true → Contains out y
unfolding is_left_out
listed_out labels [] y e = absurd (true≢false (sym e))
listed_out labels (x ∷ out) y e = elim (or_cases _ _ e) [
  | inl h ↦ elim (labels.same_or_not x y) [
    | inl f ↦ subst (Contains (x ∷ out)) f (contains_here x out)
    | inr f ↦ absurd (true≢false (sym h ∙ labels.test_other x y f))
  ]
  | inr h ↦ contains_later x out y (listed_out labels out y h)
]

pub out_listed : LabelLaws → (out : List ℤ) (y : ℤ) → Contains out y → is_left_out out y ≡ true
unfolding is_left_out
out_listed labels out y (k, within, is) =
    list_any_at (λ z. int_eq z y) out k y within (labels.test_same (get_or out k y) y is)

-- ---- in triangles

two_first : (a b c : Bool) → a ≡ true → b ≡ true → two_of a b c ≡ true
two_first true b c e f = or_left b c f
two_first false b c e f = absurd (true≢false (sym e))

two_ends : (a b c : Bool) → a ≡ true → c ≡ true → two_of a b c ≡ true
two_ends true b c e f = or_right b c f
two_ends false b c e f = absurd (true≢false (sym e))

two_last : (a b c : Bool) → b ≡ true → c ≡ true → two_of a b c ≡ true
two_last true b c e f = or_left b c e
two_last false b c e f = and_from b c e f

two_cases : (a b c : Bool) → two_of a b c ≡ true
    → ((a ≡ true) × (b ≡ true)) ⊎ (((a ≡ true) × (c ≡ true)) ⊎ ((b ≡ true) × (c ≡ true)))
two_cases true b c e = elim (or_cases b c e) [ inl f ↦ inl (refl, f) | inr f ↦ inr (inl (refl, f)) ]
two_cases false b c e = inr (inr (and_parts b c e))

module _ (ts : List (List ℤ)) (out : List ℤ) (labels : LabelLaws) (triangles : TriangleLaws ts) where
  two_there : (t : ℕ) (x y : ℤ) → IsLabel ts x → IsLabel ts y → x ≢ y → triangle_of ts x ≡ t → triangle_of ts y ≡ t
      → (is_left_out out x ≡ true) × (is_left_out out y ≡ true) → HasTwo ts out t
  two_there t x y l m apart at at' (e, f) = record {
    first = x;
    second = y;
    first_label = l;
    second_label = m;
    different = apart;
    first_there = at;
    second_there = at';
    first_out = e;
    second_out = f;
  }

  pub two_from : (t : ℕ) (x y z : ℤ) → IsLabel ts x → triangle_of ts x ≡ t → y ≡ next ts x → z ≡ next ts y
      → two_of (is_left_out out x) (is_left_out out y) (is_left_out out z) ≡ true → HasTwo ts out t
  two_from t x y z l at is_y is_z e =
      let m : IsLabel ts y = subst (IsLabel ts) (sym is_y) (triangles.label x l) in
      let n : IsLabel ts z = subst (IsLabel ts) (sym is_z) (triangles.label y m) in
      let at_y : triangle_of ts y ≡ t = ap (triangle_of ts) is_y ∙ triangles.stays x l ∙ at in
      let at_z : triangle_of ts z ≡ t = ap (triangle_of ts) is_z ∙ triangles.stays y m ∙ at_y in
      let moves = triangles.moves x l in
      elim (two_cases (is_left_out out x) (is_left_out out y) (is_left_out out z) e) [
        | inl h ↦ two_there t x y l m (λ f. moves.0 (sym (f ∙ is_y))) at at_y h
        | inr k ↦ elim k [
          | inl h ↦ two_there t x z l n (λ f. moves.1 (sym (f ∙ is_z ∙ ap (next ts) is_y))) at at_z h
          | inr h ↦ two_there t y z m n (λ f. (triangles.moves y m).0 (sym (f ∙ is_z))) at_y at_z h
        ]
      ]

  pub two_to : (t : ℕ) (x y z : ℤ) → IsLabel ts x → triangle_of ts x ≡ t → y ≡ next ts x → z ≡ next ts y
      → HasTwo ts out t → two_of (is_left_out out x) (is_left_out out y) (is_left_out out z) ≡ true
  two_to t x y z l at is_y is_z h =
      elim (which h.first h.first_label h.first_there) [
        | inl a ↦ elim (which h.second h.second_label h.second_there) [
          | inl b ↦ absurd (h.different (a ∙ sym b))
          | inr c ↦ elim c [
            | inl b ↦ two_first _ _ _ (out_at a h.first_out) (out_at b h.second_out)
            | inr b ↦ two_ends _ _ _ (out_at a h.first_out) (out_at b h.second_out)
          ]
        ]
        | inr d ↦ elim d [
          | inl a ↦ elim (which h.second h.second_label h.second_there) [
            | inl b ↦ two_first _ _ _ (out_at b h.second_out) (out_at a h.first_out)
            | inr c ↦ elim c [
              | inl b ↦ absurd (h.different (a ∙ sym b))
              | inr b ↦ two_last _ _ _ (out_at a h.first_out) (out_at b h.second_out)
            ]
          ]
          | inr a ↦ elim (which h.second h.second_label h.second_there) [
            | inl b ↦ two_ends _ _ _ (out_at b h.second_out) (out_at a h.first_out)
            | inr c ↦ elim c [
              | inl b ↦ two_last _ _ _ (out_at b h.second_out) (out_at a h.first_out)
              | inr b ↦ absurd (h.different (a ∙ sym b))
            ]
          ]
        ]
      ]
    where
      out_at : {u v : ℤ} → u ≡ v → is_left_out out u ≡ true → is_left_out out v ≡ true
      out_at e f = ap (is_left_out out) (sym e) ∙ f

      which : (u : ℤ) → IsLabel ts u → triangle_of ts u ≡ t → (u ≡ x) ⊎ ((u ≡ y) ⊎ (u ≡ z))
      which u m there = elim (triangles.sides x u l m (there ∙ sym at)) [
        | inl e ↦ inl e
        | inr k ↦
            elim k [ inl e ↦ inr (inl (e ∙ sym is_y)) | inr e ↦ inr (inr (e ∙ ap (next ts) (sym is_y) ∙ sym is_z)) ]
      ]

  pub single_from_none : (n : ℕ) → length ts ≤ n → ((t : ℕ) → t < n → ¬ HasTwo ts out t) → IsSingleInTriangles ts out
  single_from_none n all none x y l m e f same = elim (labels.same_or_not x y) [
    | inl is ↦ is
    | inr apart ↦
        absurd (none (triangle_of ts x)
        (let within : triangle_of ts x < length ts = triangles.triangle x l in omega arith)
        (two_there (triangle_of ts x) x y l m apart refl (sym same) (e, f)))
  ]

  -- the first side of a triangle
  pub side_of_triple : (t : ℕ) (triple : List ℤ) (x : ℤ) → t < length ts → slice_get ts t ≡ Some triple
      → 0 < length triple → x ≡ get_or triple 0 x
      → IsLabel ts x × (triangle_of ts x ≡ t)
  side_of_triple t triple x within is some at =
      triangles.listed t x within
      (subst (λ (s : List ℤ). Contains s x) (sym (get_or_from_slice_get ts t triple [] is)) (0, some, sym at))

-- ---- at vertices

module _ (ts : List (List ℤ)) (out : List ℤ) (labels : LabelLaws) (vertices : PunctureLaws ts)
    (are : All (IsLabel ts) out) where
  -- a vertex among those of the corners
  vertex_there : (v : ℕ) (some : List ℤ) → list_any (λ u. nat_eq u v) (map (vertex_of ts) some) ≡ true
      → (y : ℤ) × Contains some y × (vertex_of ts y ≡ v)
  vertex_there v [] e = absurd (true≢false (sym e))
  vertex_there v (x ∷ some) e = elim (or_cases _ _ e) [
    | inl h ↦ (x, contains_here x some, eqb-true _ _ h)
    | inr h ↦ (let (y, has, is) = vertex_there v some h in (y, contains_later x some y has, is))
  ]

  vertex_listed : (v : ℕ) (y : ℤ) → Contains out y → vertex_of ts y ≡ v
      → list_any (λ u. nat_eq u v) (map (vertex_of ts) out) ≡ true
  vertex_listed v y (k, within, at) is =
      list_any_at (λ u. nat_eq u v) (map (vertex_of ts) out) k v (omega (arith, length-map out (vertex_of ts)))
      (eq-eqb _ _ (get_or-map (vertex_of ts) out k y v within ∙ ap (vertex_of ts) at ∙ is))

  closed_there : (v : ℕ) → list_any (λ u. nat_eq u v) (map (vertex_of ts) out) ≡ false → IsVertexClosed ts out v
  closed_there v e y l is = elim (cases_Bool (is_left_out out y)) [
    | inl h ↦ absurd (true≢false (sym (vertex_listed v y (listed_out labels out y h) is) ∙ e))
    | inr h ↦ h
  ]

  not_closed : (v : ℕ) → list_any (λ u. nat_eq u v) (map (vertex_of ts) out) ≡ true → ¬ IsVertexClosed ts out v
  not_closed v e closed =
      let (y, has, is) = vertex_there v out e in
      true≢false (sym (out_listed labels out y has) ∙ closed y (All-contains (IsLabel ts) out y are has) is)

  pub least_closed : (v : ℕ) (list : List ℕ) → list ≡ map (vertex_of ts) out → v < vertex_count ts
      → list_any (λ u. nat_eq u v) list ≡ false
      → ((u : ℕ) → u < v → list_any (λ y. nat_eq y u) list ≡ true) → IsLeastClosed ts out v
  least_closed v list is within e before = record {
    within = within;
    closed = closed_there v (ap (list_any (λ u. nat_eq u v)) (sym is) ∙ e);
    before = λ u less. not_closed u (ap (list_any (λ y. nat_eq y u)) (sym is) ∙ before u less);
  }

  pub all_opened : (n : ℕ) (list : List ℕ) → list ≡ map (vertex_of ts) out → vertex_count ts ≤ n
      → ((u : ℕ) → u < n → list_any (λ y. nat_eq y u) list ≡ true) → IsOpenAtVertices ts out
  all_opened n list is all each x l =
      let below : vertex_of ts x < vertex_count ts = vertices.within x l in
      let (y, has, same) =
      vertex_there (vertex_of ts x) out
      (ap (list_any (λ y. nat_eq y (vertex_of ts x))) (sym is) ∙ each (vertex_of ts x) (omega arith)) in
      let m : IsLabel ts y = All-contains (IsLabel ts) out y are has in
      (y, m, (vertices.same x y l m).0 (sym same), out_listed labels out y has)

-- ---- in the order of labels

pub placed_labels : (ts : List (List ℤ)) (out : List ℤ) → ArePlaced ts out → All (IsLabel ts) out
placed_labels ts out h k d within = subst (IsLabel ts) (get_or_default out k (pos 0) d within) (h k within).0

pub placed_from : (ts : List (List ℤ)) (out : List ℤ) → All (IsLabel ts) out → AllPairs (λ x y. rank x < rank y) out
    → ArePlaced ts out
placed_from ts out are order i within = (are i (pos 0) within, λ j e. order j i (pos 0) (omega arith) within)
