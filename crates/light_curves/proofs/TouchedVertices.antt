-- The vertices where light edges end.
use Rattle.std.proofs.Common.{◌≡◌, ◌<◌, ◌⊎◌, ◌+◌, ◌++◌, inl, inr, ℕ, ℤ, pos, negsuc, List, [], ◌∷◌}
use Rattle.std.proofs.Common.{Bool, false, IsTrue, ◌↔◌, refl, sym, ap, subst, arith}
use Rattle.std.specs.List.{Contains}
use Rattle.std.proofs.lemmas.Bool.{cases_eq}
use Rattle.std.proofs.lemmas.List.Elements.{Contains-append_left, Contains-append_right, Contains-append_cases}
use Rattle.std.proofs.lemmas.List.Elements.{Contains-push, Contains-push_cases}
use Rattle.ideal_tri.specs.Labels.{edge_of}
use Rattle.ideal_tri.specs.Triangulations.{IsLabel, edge_count}
use Rattle.ideal_tri.specs.Vectors.{weight}
use Rattle.ideal_tri.specs.VertexLaws.{PunctureLaws}
use Rattle.ideal_tri.specs.Vertices.{vertex_of}
use Rattle.cycle_stages.specs.Light.{IsLight}
use Rattle.light_curves.specs.LightCurves.{IsTouched}
use Rattle.light_curves.specs.inside.Touched.{AreTouched, AreTouchedBelow, IsEndBelow}

-- ---- one edge more

label_below : (x : ℤ) (e : ℕ) → edge_of x < e + 1 → (edge_of x < e) ⊎ ((x ≡ pos e) ⊎ (x ≡ negsuc e))
label_below (pos n) e low = elim (cases_eq n e) [
  | inl same ↦ inr (inl (ap pos same))
  | inr apart ↦ inl (omega (arith, low, apart))
]
label_below (negsuc n) e low = elim (cases_eq n e) [
  | inl same ↦ inr (inr (ap negsuc same))
  | inr apart ↦ inl (omega (arith, low, apart))
]

pub true_or_false : (b : Bool) → b ≡ false → IsTrue b → ⊥
true_or_false b is h = let t : IsTrue b = h in grind (arith, is)

nowhere : {A : Type 0} (v : ℕ) → Contains [] v → A
nowhere v there = absurd (omega (arith, there.1))

module _ (triples : List (List ℤ)) (w : List ℕ) where
  pub none_touched : (vertices : List ℕ) → vertices ≡ [] → AreTouchedBelow triples w 0 vertices
  none_touched vertices none v = (
    λ there. nowhere v (subst (λ (vs : List ℕ). Contains vs v) none there),
    λ end. absurd (omega (arith, end.below)),
  )

  wider_end : (e v : ℕ) → IsEndBelow triples w e v → IsEndBelow triples w (e + 1) v
  wider_end e v end = record {
    corner = end.corner;
    below = omega (arith, end.below);
    light = end.light;
    vertex = end.vertex;
  }

  -- an edge that isn't light
  pub same_touched : (e : ℕ) (vertices : List ℕ) → ¬ IsLight w (weight w (pos e))
      → AreTouchedBelow triples w e vertices → AreTouchedBelow triples w (e + 1) vertices
  same_touched e vertices heavy are v = (
    λ there. wider_end e v ((are v).0 there),
    λ end. elim (label_below end.corner e end.below) [
      | inl below ↦
          (are v).1 (record { corner = end.corner; below = below; light = end.light; vertex = end.vertex })
      | inr (inl x) ↦ absurd (heavy (subst (λ (y : ℤ). IsLight w (weight w y)) x end.light))
      | inr (inr x) ↦ absurd (heavy (subst (λ (y : ℤ). IsLight w (weight w y)) x end.light))
    ],
  )

  -- a light edge
  module _ (e : ℕ) (vertices more : List ℕ) (light : IsLight w (weight w (pos e)))
      (pushed : more ≡ vertices ++ vertex_of triples (pos e) ∷ vertex_of triples (negsuc e) ∷ [])
      (are : AreTouchedBelow triples w e vertices) where
    end_at : (x : ℤ) (v : ℕ) → edge_of x ≡ e → IsLight w (weight w x) → vertex_of triples x ≡ v
        → IsEndBelow triples w (e + 1) v
    end_at x v edge low at = record { corner = x; below = omega (arith, edge); light = low; vertex = at }

    one_of : (v : ℕ) → Contains (vertex_of triples (pos e) ∷ vertex_of triples (negsuc e) ∷ []) v
        → IsEndBelow triples w (e + 1) v
    one_of v there = elim (Contains-push_cases (vertex_of triples (pos e) ∷ []) (vertex_of triples (negsuc e)) v there) [
      | inl first ↦
          elim (Contains-push_cases [] (vertex_of triples (pos e)) v first) [
            | inl none ↦ nowhere v none
            | inr at ↦ end_at (pos e) v refl light at
          ]
      | inr at ↦ end_at (negsuc e) v refl light at
    ]

    both : (x : ℤ) → (x ≡ pos e) ⊎ (x ≡ negsuc e)
        → Contains (vertex_of triples (pos e) ∷ vertex_of triples (negsuc e) ∷ []) (vertex_of triples x)
    both x (inl is) =
        subst (λ (y : ℤ). Contains (vertex_of triples (pos e) ∷ vertex_of triples (negsuc e) ∷ []) (vertex_of triples y))
        (sym is)
        (Contains-append_left (vertex_of triples (pos e) ∷ []) (vertex_of triples (negsuc e) ∷ [])
        (vertex_of triples (pos e)) (Contains-push [] (vertex_of triples (pos e))))
    both x (inr is) =
        subst (λ (y : ℤ). Contains (vertex_of triples (pos e) ∷ vertex_of triples (negsuc e) ∷ []) (vertex_of triples y))
        (sym is)
        (Contains-push (vertex_of triples (pos e) ∷ []) (vertex_of triples (negsuc e)))

    there_too : (v : ℕ) → IsEndBelow triples w (e + 1) v
        → Contains (vertices ++ vertex_of triples (pos e) ∷ vertex_of triples (negsuc e) ∷ []) v
    there_too v end = elim (label_below end.corner e end.below) [
      | inl below ↦
          Contains-append_left vertices _ v
          ((are v).1 (record { corner = end.corner; below = below; light = end.light; vertex = end.vertex }))
      | inr last ↦
          subst (Contains (vertices ++ vertex_of triples (pos e) ∷ vertex_of triples (negsuc e) ∷ [])) end.vertex
          (Contains-append_right vertices _ (vertex_of triples end.corner) (both end.corner last))
    ]

    pub more_touched : AreTouchedBelow triples w (e + 1) more
    more_touched v = (
      λ there. elim (Contains-append_cases vertices _ v (subst (λ (vs : List ℕ). Contains vs v) pushed there)) [
        | inl earlier ↦ wider_end e v ((are v).0 earlier)
        | inr last ↦ one_of v last
      ],
      λ end. subst (λ (vs : List ℕ). Contains vs v) (sym pushed) (there_too v end),
    )

  -- ---- the test

  module _ (vertices : List ℕ) (laws : PunctureLaws triples) (x : ℤ) (label : IsLabel triples x)
      (are : AreTouched triples w vertices) where
    touched_there : Contains vertices (vertex_of triples x) → IsTouched triples w x
    touched_there there =
        let end : IsEndBelow triples w (edge_count triples) (vertex_of triples x) = (are (vertex_of triples x)).0 there in
        record {
          corner = end.corner;
          label = end.below;
          light = end.light;
          here = (laws.same end.corner x end.below label).0 end.vertex;
        }

    there_touched : IsTouched triples w x → Contains vertices (vertex_of triples x)
    there_touched touched =
        (are (vertex_of triples x)).1 (record {
          corner = touched.corner;
          below = touched.label;
          light = touched.light;
          vertex = (laws.same touched.corner x touched.label label).1 touched.here;
        })

    pub touched_test : (found : Bool) → (IsTrue found ↔ Contains vertices (vertex_of triples x))
        → IsTrue found ↔ IsTouched triples w x
    touched_test found test = (λ t. touched_there (test.0 t), λ t. test.1 (there_touched t))
