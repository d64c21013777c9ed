-- A drawing is carried across a flip to a drawing, whose words are the images of the words.
use Rattle.std.proofs.Common.{ℕ, ℤ, pos, false, List, [], ◌∷◌, ◌++◌, ◌≡◌, ◌+◌, ◌-◌, inl, inr, refl, sym, ◌∙◌, ap, subst}
use Rattle.std.proofs.Common.{map, nat_eq}
use Rattle.std.specs.List.{All, AllZip, count_by, flat_map}
use Rattle.std.proofs.lemmas.Bool.{cases_Bool}
use Rattle.std.proofs.lemmas.List.Concat.{flat_map-append}
use Rattle.std.proofs.lemmas.List.Elements.{All-map, All-weaker, All-head, All-tail}
use Rattle.ideal_tri.specs.Labels.{inverse}
use Rattle.ideal_tri.specs.Words.{cyclic_reduce, IsRotation, IsCyclicallyReduced}
use Rattle.ideal_tri.specs.Curves.{IsSameCurve, IsSameCurves}
use Rattle.ideal_tri.specs.Triangulations.{IsTriangulation, edge_count}
use Rattle.ideal_tri.specs.Vectors.{IsMulticurve}
use Rattle.ideal_tri.specs.Strands.{State, state_at, IsStrand, same_state, opposite, strand_step, IsClosedRun, uses}
use Rattle.ideal_tri.specs.Strands.{IsDrawing, word_of, words_of}
use Rattle.tri_atlas.specs.Maps.{images_under}
use Rattle.tri_atlas.proofs.Vectors.Exits.{is_on, not_on}
use Rattle.tri_atlas.proofs.Vectors.Given.{Given}
use Rattle.tri_atlas.proofs.Vectors.Carried.{IsPassing, image_with, carried_state, carried}
use Rattle.tri_atlas.proofs.Vectors.CarriedCurves.{count-carried, carried_closed, carried_word}

flat_map-flat : {A : Type 0} (f : A → List A) (runs : List (List A))
    → flat_map (λ run. run) (map (flat_map f) runs) ≡ flat_map f (flat_map (λ run. run) runs)
flat_map-flat f [] = refl
flat_map-flat f (run ∷ runs) =
    ap (λ (u : List _). flat_map f run ++ u) (flat_map-flat f runs)
    ∙ sym (flat_map-append f run (flat_map (λ r. r) runs))

module _ (g : Given) (here there : List (List ℤ)) (w v : List ℕ) (n : ℕ) (pre : ℤ → List ℤ)
    (h : IsPassing here there w v n pre)
    (p : IsTriangulation here) (t : IsTriangulation there) (m : IsMulticurve here w) (k : IsMulticurve there v)
    (same_edges : edge_count there ≡ edge_count here)
    (runs : List (List State)) (d : IsDrawing here w runs) where
  -- a strand off the edge is used as often
  uses_off : (q : State) → is_on n q ≡ false
      → uses v q (flat_map (λ run. run) (map (carried there v n) runs)) ≡ uses w q (flat_map (λ run. run) runs)
  uses_off q off =
      ap (uses v q) (flat_map-flat (carried_state there v n) runs)
      ∙ ap (λ (o : State). count_by (same_state q) (carried there v n (flat_map (λ run. run) runs)) + count_by
      (same_state o) (carried there v n (flat_map (λ run. run) runs))) opposite_same
      ∙ ap (λ (i : ℕ). i + count_by (same_state (opposite w q)) (carried there v n (flat_map (λ run. run) runs)))
      (count-carried g.lower there v n q off (flat_map (λ run. run) runs))
      ∙ ap (λ (i : ℕ). count_by (same_state q) (flat_map (λ run. run) runs) + i)
      (count-carried g.lower there v n (opposite w q) opposite_off (flat_map (λ run. run) runs))
    where
      opposite_same : opposite v q ≡ opposite w q
      opposite_same = ap (λ (i : ℕ). state_at (inverse q.label) (i - 1 - q.place)) (h.numbers q.label (not_on n q off))

      opposite_off : is_on n (opposite w q) ≡ false
      opposite_off = ap (λ (i : ℕ). nat_eq i n) (g.lower.labels.edge q.label) ∙ off

  closed : All (IsClosedRun there v) (map (carried there v n) runs)
  closed =
      All-map (IsClosedRun there v) (carried there v n) runs
      (All-weaker (IsClosedRun here w) (λ (run : List State). IsClosedRun there v (carried there v n run))
      (carried_closed g.lower here there w v n pre h) runs d.closed)

  used_off : (q : State) → is_on n q ≡ false → IsStrand there v q
      → uses v q (flat_map (λ run. run) (map (carried there v n) runs)) ≡ 1
  used_off q off s = uses_off q off ∙ (g.strands here p).used w runs q m d (h.to_here q off s)

  pub carried_drawing : IsDrawing there v (map (carried there v n) runs)
  carried_drawing = record {
    closed = closed;
    once = λ e i below within.
        let q : State = state_at (pos e) i in
        let s : IsStrand there v (state_at (pos e) i) = record { is_label = below; within = within } in
        elim (cases_Bool (is_on n (state_at (pos e) i))) [
          | inr off ↦ used_off q off s
          | inl on ↦
              (sym ((g.strands there t).stepped v (map (carried there v n) runs) q k closed s)
              ∙ used_off (strand_step there v q) (h.off_there q s on) (h.valid_there q s))
        ];
  }

  rotated : (us : List (List State)) → All (IsClosedRun here w) us
      → All IsCyclicallyReduced (words_of (map (carried there v n) us))
      → AllZip IsSameCurve (images_under (image_with pre) (words_of us)) (words_of (map (carried there v n) us))
  rotated [] c r = tt
  rotated (run ∷ us) c r = (
    inl (subst (IsRotation (cyclic_reduce (flat_map (image_with pre) (word_of run))))
        (g.lower.words.cyclic.fixed (word_of (carried there v n run))
        (All-head IsCyclicallyReduced (word_of (carried there v n run)) (words_of (map (carried there v n) us)) r))
        (carried_word g.lower here there w v n pre h run (All-head (IsClosedRun here w) run us c))),
    rotated us (All-tail (IsClosedRun here w) run us c)
        (All-tail IsCyclicallyReduced (word_of (carried there v n run)) (words_of (map (carried there v n) us)) r),
  )

  -- the images of the words of a drawing are those of any drawing after the flip
  pub passed_words : (after : List (List State)) → IsDrawing there v after
      → IsSameCurves (images_under (image_with pre) (words_of runs)) (words_of after)
  passed_words after other =
      g.same.along (images_under (image_with pre) (words_of runs)) (words_of (map (carried there v n) runs))
      (words_of after)
      (g.same.entrywise (images_under (image_with pre) (words_of runs)) (words_of (map (carried there v n) runs))
      (rotated runs d.closed ((g.drawings there t).reduced v (map (carried there v n) runs) k carried_drawing)))
      ((g.drawings there t).unique v (map (carried there v n) runs) after k carried_drawing other)
