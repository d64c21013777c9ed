-- The steps round the vertices, before and after a flip.
--
-- Before it: e to ~a, a to ~b, b to f, f to ~c, c to ~d, d to e. After it: e to ~d, d to ~a, a to f, f to ~b, b to ~c, c
-- to e. Round each vertex the corner e behind d and the corner f behind b fall away, and f behind a and e behind c come
-- in. All other steps stay.
use Rattle.std.proofs.Common.{ℤ, List, ◌≡◌, ◌≢◌, sym, ◌∙◌, ap}
use Rattle.ideal_tri.specs.LabelLaws.{LabelLaws}
use Rattle.ideal_tri.specs.Labels.{inverse}
use Rattle.ideal_tri.specs.SurfaceLaws.{TriangleLaws}
use Rattle.ideal_tri.specs.Triangulations.{IsLabel, next}
use Rattle.ideal_tri.specs.Vertices.{corner_step}
use Rattle.curve_shorten.proofs.FlippedSides.{FlippedSides, only_before}

-- where corners of the two triangles at e go: those that a proof needs, of which the others are the mirror images
pub record CornerSteps (before after : List (List ℤ)) (e f a b c d : ℤ) : Type 0 where
  pub step_f : corner_step before f ≡ inverse c
  pub step_a : corner_step before a ≡ inverse b
  pub step_b : corner_step before b ≡ f
  pub new_step_f : corner_step after f ≡ inverse b
  pub new_step_a : corner_step after a ≡ f
  pub new_step_b : corner_step after b ≡ inverse c

pub corner_steps : (before after : List (List ℤ)) (e f a b c d : ℤ) → FlippedSides before after e f a b c d
    → CornerSteps before after e f a b c d
corner_steps before after e f a b c d s = record {
  step_f = ap inverse s.second.after_x;
  step_a = ap inverse s.first.after_y;
  step_b = ap inverse s.first.after_z ∙ s.inverse_e;
  new_step_f = ap inverse s.second_after.after_x;
  new_step_a = ap inverse s.first_after.after_z ∙ s.inverse_e;
  new_step_b = ap inverse s.second_after.after_y;
}

-- the inverses of a, b, c and d are not e or f
pub inverse_not : LabelLaws → (x y z : ℤ) → inverse y ≡ z → x ≢ z → inverse x ≢ y
inverse_not labels x y z is ne k = ne (sym (labels.twice x) ∙ ap inverse k ∙ is)

-- only b and d step to f and e
pub step_not_e : LabelLaws → (before after : List (List ℤ)) (e f a b c d : ℤ) → TriangleLaws before
    → FlippedSides before after e f a b c d → (x : ℤ) → IsLabel before x → x ≢ d → corner_step before x ≢ e
step_not_e labels before after e f a b c d t s x l ne k =
    ne (only_before before t x d l s.label_d (sym (labels.twice (next before x)) ∙ ap inverse k ∙ s.inverse_e
    ∙ sym s.second.after_z))

pub step_not_f : LabelLaws → (before after : List (List ℤ)) (e f a b c d : ℤ) → TriangleLaws before
    → FlippedSides before after e f a b c d → (x : ℤ) → IsLabel before x → x ≢ b → corner_step before x ≢ f
step_not_f labels before after e f a b c d t s x l ne k =
    ne (only_before before t x b l s.label_b (sym (labels.twice (next before x)) ∙ ap inverse k ∙ s.inverse_f
    ∙ sym s.first.after_z))
