-- A relabelling carries closed runs to closed runs, which use the images of strands as often.
--
-- The state at place i of x goes to place i of the image of x. This goes with steps and with opposites, since the
-- image of x has the number of x, and inverse labels have inverse images. Different labels have different images, so
-- states are equal exactly where their images are, and each count stays.
use Rattle.std.proofs.Common.{ℕ, ℤ, Bool, cond, List, [], ◌∷◌, ◌≡◌, ◌&&◌, ◌<◌, ◌+◌, ◌-◌, inl, inr, refl, sym}
use Rattle.std.proofs.Common.{◌∙◌, ap, subst, arith, map, nat_eq}
use Rattle.std.specs.List.{All, count_by}
use Rattle.std.specs.Ordering.{int_eq}
use Rattle.std.proofs.lemmas.List.{length-map}
use Rattle.std.proofs.lemmas.List.Elements.{All-head, All-tail, All-map, All-weaker}
use Rattle.std.proofs.lemmas.List.Sums.{sum_by-cons}
use Rattle.ideal_tri.specs.Labels.{inverse}
use Rattle.ideal_tri.specs.Triangulations.{IsTriangulation, IsLabel}
use Rattle.ideal_tri.specs.Vectors.{IsMulticurve, weight}
use Rattle.ideal_tri.specs.Relabellings.{image_of, inverse_images, IsRelabelling}
use Rattle.ideal_tri.specs.Strands.{State, state_at, IsStrand, same_state, opposite, strand_step, Runs, IsClosedRun}
use Rattle.ideal_tri.specs.Strands.{uses}
use Rattle.tri_atlas.proofs.Moves.{image_undone}
use Rattle.tri_atlas.proofs.Vectors.Given.{Given}
use Rattle.tri_atlas.proofs.Vectors.Relabelled.{weight-image}
use Rattle.tri_atlas.proofs.Vectors.Relabelled.{step_moved, valid_moved}

module _ (g : Given) (before target : List (List ℤ)) (images : List ℤ) (p : IsTriangulation before)
    (t : IsTriangulation target)
    (h : IsRelabelling before target images) (w : List ℕ) (m : IsMulticurve before w) where
  abbrev v : List ℕ
  v = map (weight w) (inverse_images images)

  abbrev move : State → State
  move q = state_at (image_of images q.label) q.place

  abbrev OnLabels : List State → Type 0
  OnLabels run = All (λ q. IsLabel before q.label) run

  pub on_labels : (run : List State) → All (IsStrand before w) run → OnLabels run
  on_labels run s = All-weaker (IsStrand before w) (λ (q : State). IsLabel before q.label) (λ q k. k.is_label) run s

  -- ---- counts

  -- different labels have different images
  same_letter : (x y : ℤ) → IsLabel before x → IsLabel before y
      → int_eq (image_of images x) (image_of images y) ≡ int_eq x y
  same_letter x y lx ly =
      elim (g.lower.labels.same_or_not x y) [
        | inl e ↦
            (g.lower.labels.test_same (image_of images x) (image_of images y) (ap (image_of images) e)
            ∙ sym (g.lower.labels.test_same x y e))
        | inr ne ↦
            (g.lower.labels.test_other (image_of images x) (image_of images y)
            (λ e. ne (sym (image_undone g.lower before target images x h lx) ∙ ap
            (image_of (inverse_images images)) e ∙ image_undone g.lower before target images y h ly))
            ∙ sym (g.lower.labels.test_other x y ne))
      ]

  same_state_moved : (q r : State) → IsLabel before q.label → IsLabel before r.label
      → same_state (move q) (move r) ≡ same_state q r
  same_state_moved q r lq lr = ap (λ (b : Bool). b && nat_eq q.place r.place) (same_letter q.label r.label lq lr)

  count_moved : (q : State) (run : List State) → IsLabel before q.label → OnLabels run
      → count_by (same_state (move q)) (map move run) ≡ count_by (same_state q) run
  count_moved q [] l s = refl
  count_moved q (r ∷ run) l s =
      sum_by-cons (λ o. cond (same_state (move q) o) 1 0) (move r) (map move run)
      ∙ ap (λ (b : Bool). cond b 1 0 + count_by (same_state (move q)) (map move run))
      (same_state_moved q r l (All-head (λ (o : State). IsLabel before o.label) r run s))
      ∙ ap (λ (n : ℕ). cond (same_state q r) 1 0 + n)
      (count_moved q run l (All-tail (λ (o : State). IsLabel before o.label) r run s))
      ∙ sym (sum_by-cons (λ o. cond (same_state q o) 1 0) r run)

  opposite_moved : (q : State) → IsLabel before q.label → opposite v (move q) ≡ move (opposite w q)
  opposite_moved q l =
      ap (λ (y : ℤ). state_at y (weight v (image_of images q.label) - 1 - q.place))
      (sym (g.lower.bijections.inverse images q.label))
      ∙ ap (λ (n : ℕ). state_at (image_of images (inverse q.label)) (n - 1 - q.place))
      (weight-image g.lower before target images w h q.label l)

  pub uses_moved : (q : State) (run : List State) → IsLabel before q.label → OnLabels run
      → uses v (move q) (map move run) ≡ uses w q run
  uses_moved q run l s =
      ap (λ (o : State). count_by (same_state (move q)) (map move run) + count_by (same_state o) (map move run))
      (opposite_moved q l)
      ∙ ap (λ (n : ℕ). n + count_by (same_state (move (opposite w q))) (map move run)) (count_moved q run l s)
      ∙ ap (λ (n : ℕ). count_by (same_state q) run + n)
      (count_moved (opposite w q) run (g.lower.labels.label before q.label l) s)

  -- ---- runs

  runs_moved : (q r : State) (run : List State) → IsStrand before w q → Runs before w q run r
      → Runs target v (move q) (map move run) (move r)
  runs_moved q r [] s is = ap move is
  runs_moved q r (o ∷ run) s (at, rest) = (
    ap move at,
    subst (λ (u : State). Runs target v u (map move run) (move r))
        (sym (step_moved g before target images p t h w q s.is_label))
        (runs_moved (strand_step before w q) r run ((g.strands before p).stays w q m s) rest),
  )

  first_valid : (run : List State) (c : IsClosedRun before w run) → IsStrand before w c.start
  first_valid [] c = absurd (let some : 0 < 0 = c.not_empty in omega arith)
  first_valid (q ∷ run) c = subst (IsStrand before w) c.closes.0 (All-head (IsStrand before w) q run c.strands)

  pub closed_moved : (run : List State) → IsClosedRun before w run → IsClosedRun target v (map move run)
  closed_moved run c = record {
    start = move c.start;
    not_empty = subst (λ (n : ℕ). 0 < n) (sym (length-map run move)) c.not_empty;
    strands = All-map (IsStrand target v) move run
        (All-weaker (IsStrand before w) (λ (q : State). IsStrand target v (move q))
        (valid_moved g before target images p t h w) run c.strands);
    closes = runs_moved c.start c.start run (first_valid run c) c.closes;
  }
