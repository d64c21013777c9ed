-- Worked drawings, by computation.
--
-- All curves here have two strands p and q. Such a run is closed where p and q are strands, the step from
-- p leads to q, and the step from there back to p (`pair`): both steps compute. That the runs use each
-- strand once is looked up edge by edge and place by place. The edges are the numbers below 3 and the
-- places those below the edge's number, so a fact about all of them is a fact about each (`below_3`,
-- `below_2` and so on).
-- The image of a curve under the rotation is its word, letter by letter; it is cyclically reduced as it is.
use Rattle.std.proofs.Common.{◌≡◌, ◌<◌, ℕ, zero, suc, ℤ, pos, negsuc, List, [], ◌∷◌, slice_index, refl, arith, lit<}
use Rattle.std.specs.List.{flat_map}
use Rattle.std.proofs.lemmas.List.Elements.{All-from_recursion}
use Rattle.ideal_tri.specs.Curves.{crossings}
use Rattle.ideal_tri.specs.Strands.{State, IsStrand, IsClosedRun, IsDrawing, state_at, strand_step, uses, words_of}
use Rattle.ideal_tri.specs.Labels.{edge_of}
use Rattle.ideal_tri.specs.Triangulations.{edge_count}
use Rattle.ideal_tri.specs.Vectors.{weight}
use Rattle.ideal_tri.specs.Words.{cyclic_reduce, strip}
use Rattle.tri_atlas.specs.Maps.{images_under, path_map}
use Rattle.tri_atlas.specs.Moves.{relabel}
use Rattle.flipper_cli.specs.WorkedDrawings.{torus, torus_curve, sphere, rotation, sphere_curves, rotated_curves}

-- ---- numbers below 0, 1, 2 and 3

below_0 : (P : ℕ → Type 0) (i : ℕ) → i < 0 → P i
below_0 P i h = absurd (omega arith)

below_1 : (P : ℕ → Type 0) → P 0 → (i : ℕ) → i < 1 → P i
below_1 P a zero h = a
below_1 P a (suc i) h = absurd (omega arith)

below_2 : (P : ℕ → Type 0) → P 0 → P 1 → (i : ℕ) → i < 2 → P i
below_2 P a b zero h = a
below_2 P a b (suc zero) h = b
below_2 P a b (suc (suc i)) h = absurd (omega arith)

below_3 : (P : ℕ → Type 0) → P 0 → P 1 → P 2 → (i : ℕ) → i < 3 → P i
below_3 P a b c zero h = a
below_3 P a b c (suc zero) h = b
below_3 P a b c (suc (suc zero)) h = c
below_3 P a b c (suc (suc (suc i))) h = absurd (omega arith)

-- the runs use this strand once
abbrev IsUsedOnce : List ℕ → List (List State) → ℕ → ℕ → Type 0
IsUsedOnce w runs e i = uses w (state_at (pos e) i) (flat_map (λ run. run) runs) ≡ 1

-- the runs use each strand of the edge once
abbrev AreUsedOnce : List ℕ → List (List State) → ℕ → Type 0
AreUsedOnce w runs e = (i : ℕ) → i < weight w (pos e) → IsUsedOnce w runs e i

-- ---- curves of two strands

strand : (triples : List (List ℤ)) (w : List ℕ) (x : ℤ) (i : ℕ) → edge_of x < edge_count triples → i < weight w x
    → IsStrand triples w (state_at x i)
strand triples w x i label within = record { is_label = label; within = within }

pair : (triples : List (List ℤ)) (w : List ℕ) (p q : State) → IsStrand triples w p → IsStrand triples w q
    → q ≡ strand_step triples w p → strand_step triples w (strand_step triples w p) ≡ p
    → IsClosedRun triples w (p ∷ q ∷ [])
pair triples w p q first second step back = record {
  start = p;
  not_empty = lit< tt;
  strands = All-from_recursion (IsStrand triples w) (p ∷ q ∷ []) (first, (second, tt));
  closes = (refl, (step, back));
}

-- ---- the torus

abbrev once : List ℕ
once = 1 ∷ 1 ∷ 0 ∷ []

abbrev twice : List ℕ
twice = 2 ∷ 2 ∷ 0 ∷ []

pub one_curve : IsDrawing torus once (torus_curve 0 ∷ [])
one_curve =
    let runs = torus_curve 0 ∷ [] in
    let first = strand torus once (pos 0) 0 (lit< tt) (lit< tt) in
    let second = strand torus once (negsuc 1) 0 (lit< tt) (lit< tt) in
    record {
      closed = All-from_recursion (IsClosedRun torus once) runs
          (pair torus once _ _ first second refl refl, tt);
      once = λ e i h k.
          below_3 (AreUsedOnce once runs) (below_1 (IsUsedOnce once runs 0) refl)
          (below_1 (IsUsedOnce once runs 1) refl) (below_0 (IsUsedOnce once runs 2)) e h i k;
    }

torus_run : (place : ℕ) → place < 2 → IsClosedRun torus twice (torus_curve place)
torus_run = below_2 (λ place. IsClosedRun torus twice (torus_curve place))
    (pair torus twice _ _ (strand torus twice (pos 0) 0 (lit< tt) (lit< tt))
    (strand torus twice (negsuc 1) 0 (lit< tt) (lit< tt)) refl refl)
    (pair torus twice _ _ (strand torus twice (pos 0) 1 (lit< tt) (lit< tt))
    (strand torus twice (negsuc 1) 1 (lit< tt) (lit< tt)) refl refl)

pub two_curves : IsDrawing torus twice (torus_curve 0 ∷ torus_curve 1 ∷ [])
two_curves =
    let runs = torus_curve 0 ∷ torus_curve 1 ∷ [] in
    record {
      closed = All-from_recursion (IsClosedRun torus twice) runs
          (torus_run 0 (lit< tt), (torus_run 1 (lit< tt), tt));
      once = λ e i h k.
          below_3 (AreUsedOnce twice runs) (below_2 (IsUsedOnce twice runs 0) refl refl)
          (below_2 (IsUsedOnce twice runs 1) refl refl) (below_0 (IsUsedOnce twice runs 2)) e h i k;
    }

-- ---- the sphere

abbrev given : List ℕ
given = 2 ∷ 1 ∷ 1 ∷ []

abbrev printed : List ℕ
printed = 1 ∷ 2 ∷ 1 ∷ []

pub parting : IsDrawing sphere given sphere_curves
parting = record {
  closed = All-from_recursion (IsClosedRun sphere given) sphere_curves (
    pair sphere given _ _ (strand sphere given (pos 0) 0 (lit< tt) (lit< tt))
        (strand sphere given (negsuc 2) 0 (lit< tt) (lit< tt)) refl refl,
    (
      pair sphere given _ _ (strand sphere given (pos 0) 1 (lit< tt) (lit< tt))
          (strand sphere given (negsuc 1) 0 (lit< tt) (lit< tt)) refl refl,
      tt,
    ),
  );
  once = λ e i h k.
      below_3 (AreUsedOnce given sphere_curves) (below_2 (IsUsedOnce given sphere_curves 0) refl refl)
      (below_1 (IsUsedOnce given sphere_curves 1) refl) (below_1 (IsUsedOnce given sphere_curves 2) refl) e h i k;
}

pub rotated : IsDrawing sphere printed rotated_curves
rotated = record {
  closed = All-from_recursion (IsClosedRun sphere printed) rotated_curves (
    pair sphere printed _ _ (strand sphere printed (pos 1) 0 (lit< tt) (lit< tt))
        (strand sphere printed (negsuc 0) 0 (lit< tt) (lit< tt)) refl refl,
    (
      pair sphere printed _ _ (strand sphere printed (pos 1) 1 (lit< tt) (lit< tt))
          (strand sphere printed (negsuc 2) 0 (lit< tt) (lit< tt)) refl refl,
      tt,
    ),
  );
  once = λ e i h k.
      below_3 (AreUsedOnce printed rotated_curves) (below_1 (IsUsedOnce printed rotated_curves 0) refl)
      (below_2 (IsUsedOnce printed rotated_curves 1) refl refl) (below_1 (IsUsedOnce printed rotated_curves 2) refl)
      e h i k;
}

pub images : images_under (path_map (relabel rotation ∷ [])) (words_of sphere_curves) ≡ words_of rotated_curves
unfolding cyclic_reduce strip
images = refl

pub counts : (e : ℕ) → e < 3 → slice_index printed e ≡ crossings e (words_of rotated_curves)
counts = below_3 (λ e. slice_index printed e ≡ crossings e (words_of rotated_curves)) refl refl refl
