-- A relabelling carries drawings to drawings, whose words are the images letter by letter.
--
-- The image of a strand is used as often as the strand, so once, and each strand of the target is an image. The words
-- of a drawing have nothing to reduce, so the images of words are the words of the images of runs.
use Rattle.std.proofs.Common.{ℕ, ℤ, pos, List, [], ◌∷◌, ◌++◌, ◌≡◌, ◌<◌, refl, sym}
use Rattle.std.proofs.Common.{◌∙◌, ap, subst, length, map}
use Rattle.std.specs.List.{All, flat_map}
use Rattle.std.proofs.lemmas.List.{map-append}
use Rattle.std.proofs.lemmas.List.Elements.{All-nil, All-head, All-tail, All-map, All-weaker, All-append}
use Rattle.std.proofs.lemmas.Grind.{same_number_lists}
use Rattle.ideal_tri.specs.Words.{cyclic_reduce, IsCyclicallyReduced}
use Rattle.ideal_tri.specs.Curves.{IsSameCurves}
use Rattle.ideal_tri.specs.Triangulations.{IsTriangulation, IsLabel, edge_count}
use Rattle.ideal_tri.specs.Vectors.{IsMulticurve, weight}
use Rattle.ideal_tri.specs.Relabellings.{image_of, inverse_images, IsRelabelling}
use Rattle.ideal_tri.specs.Strands.{State, state_at, IsStrand, IsClosedRun}
use Rattle.ideal_tri.specs.Strands.{uses, IsDrawing, word_of, words_of}
use Rattle.tri_atlas.specs.Moves.{relabel}
use Rattle.tri_atlas.specs.Maps.{image_of_letter, images_under}
use Rattle.tri_atlas.specs.MovedVectors.{vector_after}
use Rattle.tri_atlas.specs.VectorLaws.{MovedLaws}
use Rattle.tri_atlas.proofs.Moves.{image_undone}
use Rattle.tri_atlas.proofs.Vectors.Given.{Given}
use Rattle.tri_atlas.proofs.Vectors.FlipLaws.{image_of_curves}
use Rattle.tri_atlas.proofs.Vectors.Relabelled.{HasOrigin, origin, weight-image, length-moved, relabel_multicurve}
use Rattle.tri_atlas.proofs.Vectors.RelabelledRuns.{on_labels, uses_moved, closed_moved}

flat_map-mapped : {A : Type 0} (f : A → A) (runs : List (List A))
    → flat_map (λ run. run) (map (map f) runs) ≡ map f (flat_map (λ run. run) runs)
flat_map-mapped f [] = refl
flat_map-mapped f (run ∷ runs) =
    ap (λ (u : List _). map f run ++ u) (flat_map-mapped f runs) ∙ sym (map-append f run (flat_map (λ r. r) runs))

module _ (g : Given) (before target : List (List ℤ)) (images : List ℤ) (p : IsTriangulation before)
    (t : IsTriangulation target)
    (h : IsRelabelling before target images) (w : List ℕ) (m : IsMulticurve before w) where
  abbrev v : List ℕ
  v = map (weight w) (inverse_images images)

  abbrev move : State → State
  move q = state_at (image_of images q.label) q.place

  -- ---- drawings

  all_on_labels : (runs : List (List State)) → All (IsClosedRun before w) runs
      → All (λ q. IsLabel before q.label) (flat_map (λ run. run) runs)
  all_on_labels [] c = All-nil (λ (q : State). IsLabel before q.label)
  all_on_labels (run ∷ runs) c =
      All-append (λ (q : State). IsLabel before q.label) run (flat_map (λ r. r) runs)
      (on_labels g before target images p t h w m run (All-head (IsClosedRun before w) run runs c).strands)
      (all_on_labels runs (All-tail (IsClosedRun before w) run runs c))

  -- a strand of the target is the image of one, which is used once
  once_moved : (runs : List (List State)) → IsDrawing before w runs → (y : ℤ) (i : ℕ) → IsLabel target y
      → i < weight v y
      → uses v (state_at y i) (flat_map (λ run. run) (map (map move) runs)) ≡ 1
  once_moved runs d y i l within = from (origin g.lower before target images y h l)
    where
      from : HasOrigin before images y → uses v (state_at y i) (flat_map (λ run. run) (map (map move) runs)) ≡ 1
      from o =
          let q : State = state_at o.origin i in
          let number : weight v y ≡ weight w o.origin = ap (weight v) (sym o.is)
          ∙ weight-image g.lower before target images w h o.origin o.label in
          let s : IsStrand before w q = record {
            is_label = o.label;
            within = subst
                (λ (n : ℕ). i < n) number within;
          } in
          ap (λ (z : ℤ). uses v (state_at z i) (flat_map (λ run. run) (map (map move) runs))) (sym o.is)
          ∙ ap (uses v (move q)) (flat_map-mapped move runs)
          ∙ uses_moved g before target images p t h w m q (flat_map (λ run. run) runs) o.label
          (all_on_labels runs d.closed)
          ∙ (g.strands before p).used w runs q m d s

  drawing_moved : (runs : List (List State)) → IsDrawing before w runs → IsDrawing target v (map (map move) runs)
  drawing_moved runs d = record {
    closed = All-map (IsClosedRun target v) (map move) runs
        (All-weaker (IsClosedRun before w)
        (λ (run : List State). IsClosedRun target v (map move run))
        (closed_moved g before target images p t h w m) runs d.closed);
    once = λ e i below within. once_moved runs d (pos e) i below within;
  }

  -- ---- words

  word_moved : (run : List State) → flat_map (image_of_letter (relabel images)) (word_of run) ≡ word_of (map move run)
  word_moved [] = refl
  word_moved (q ∷ run) = ap (λ (u : List ℤ). image_of images q.label ∷ u) (word_moved run)

  -- there is nothing to reduce in the images
  words_moved : (runs : List (List State)) → All IsCyclicallyReduced (words_of (map (map move) runs))
      → images_under (image_of_letter (relabel images)) (words_of runs) ≡ words_of (map (map move) runs)
  words_moved [] r = refl
  words_moved (run ∷ runs) r =
      ap (λ (u : List ℤ). cyclic_reduce u ∷ images_under (image_of_letter (relabel images)) (words_of runs))
      (word_moved run)
      ∙ ap (λ (u : List ℤ). u ∷ images_under (image_of_letter (relabel images)) (words_of runs))
      (g.lower.words.cyclic.fixed (word_of (map move run))
      (All-head IsCyclicallyReduced (word_of (map move run)) (words_of (map (map move) runs)) r))
      ∙ ap (λ (us : List (List ℤ)). word_of (map move run) ∷ us)
      (words_moved runs (All-tail IsCyclicallyReduced (word_of (map move run)) (words_of (map (map move) runs)) r))

  -- ---- the laws

  -- the relabelling back moves each number back
  back_moved : vector_after (relabel (inverse_images images)) v ≡ w
  back_moved =
      same_number_lists (map (weight v) (inverse_images (inverse_images images))) w (long ∙ sym m.one_per_edge)
      (λ k below. number k (subst (λ (n : ℕ). k < n) long below))
    where
      back : IsRelabelling target before (inverse_images images)
      back = g.lower.relabellings.back before target images p t h

      long : length (map (weight (map (weight w) (inverse_images images))) (inverse_images (inverse_images images)))
          ≡ edge_count before
      long = length-moved g.lower target before (inverse_images images) v back

      number : (k : ℕ) → k < edge_count before
          → weight (map (weight v) (inverse_images (inverse_images images))) (pos k) ≡ weight w (pos k)
      number k below =
          ap (weight (map (weight v) (inverse_images (inverse_images images))))
          (sym (image_undone g.lower before target images (pos k) h below))
          ∙ weight-image g.lower target before (inverse_images images) v back (image_of images (pos k))
          (g.lower.relabellings.label before target images (pos k) h below)
          ∙ weight-image g.lower before target images w h (pos k) below

  curves_moved : (runs after : List (List State)) → IsDrawing before w runs → IsDrawing target v after
      → IsSameCurves (images_under (image_of_letter (relabel images)) (words_of runs)) (words_of after)
  curves_moved runs after d other =
      let k : IsMulticurve target v = relabel_multicurve g before target images p t h w m in
      let drawn : IsDrawing target v (map (map move) runs) = drawing_moved runs d in
      subst (λ (us : List (List ℤ)). IsSameCurves us (words_of after))
      (sym (words_moved runs ((g.drawings target t).reduced v (map (map move) runs) k drawn)))
      ((g.drawings target t).unique v (map (map move) runs) after k drawn other)

  pub relabel_laws : MovedLaws before target (relabel images) w
  relabel_laws = record {
    multicurve = relabel_multicurve g before target images p t h w m;
    curves = curves_moved;
    image =
        image_of_curves g before target w v (image_of_letter (relabel images)) t m
        (relabel_multicurve g before target images p t h w m)
        (sym (g.lower.relabellings.edges before target images h)) curves_moved;
    back = back_moved;
  }
