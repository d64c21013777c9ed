-- Apart from the two triangles at an edge: where two triangulations have the same other triangles, and two vectors
-- the same other numbers, corners have the same counts and strands take the same steps.
use Rattle.std.proofs.Common.{ℕ, ℤ, cond, leb, List, ◌≡◌, ◌≢◌, ◌+◌, ◌-◌, ◌/◌, ◌∙◌, ap}
use Rattle.ideal_tri.specs.Labels.{inverse, edge_of}
use Rattle.ideal_tri.specs.SurfaceLaws.{TriangleLaws}
use Rattle.ideal_tri.specs.Triangulations.{IsLabel, next, previous}
use Rattle.ideal_tri.specs.Vectors.{weight, corner_count}
use Rattle.ideal_tri.specs.Strands.{State, state_at, strand_step}
use Rattle.tri_atlas.proofs.LowerLaws.{LowerLaws}
use Rattle.tri_atlas.proofs.Vectors.Quadrilaterals.{Quadrilateral, IsApartFrom, next_apart, apart_off}

module _ (laws : LowerLaws) (here there : List (List ℤ)) (w v : List ℕ) (e f a b c d : ℤ) (t : TriangleLaws here)
    (s : Quadrilateral here e f a b c d)
    (others : (x : ℤ) → IsLabel here x → IsApartFrom e f a b c d x → next there x ≡ next here x)
    (numbers : (x : ℤ) → edge_of x ≢ edge_of e → weight v x ≡ weight w x) where
  away : (x : ℤ) → IsLabel here x → IsApartFrom e f a b c d x → IsApartFrom e f a b c d (next here x)
  away = next_apart laws here e f a b c d t s

  number : (x : ℤ) → IsApartFrom e f a b c d x → weight v x ≡ weight w x
  number x q = numbers x (apart_off laws here e f a b c d t s x q)

  pub apart_previous : (x : ℤ) → IsLabel here x → IsApartFrom e f a b c d x → previous there x ≡ previous here x
  apart_previous x l q = ap (next there) (others x l q) ∙ others (next here x) (t.label x l) (away x l q)

  pub apart_corner : (x : ℤ) → IsLabel here x → IsApartFrom e f a b c d x
      → corner_count there v x ≡ corner_count here w x
  apart_corner x l q =
      ap (λ (y : ℤ). (weight v x + weight v y - weight v (previous there x)) / 2) (others x l q)
      ∙ ap (λ (z : ℤ). (weight v x + weight v y - weight v z) / 2) (apart_previous x l q)
      ∙ ap (λ (n : ℕ). (n + weight v y - weight v z) / 2) (number x q)
      ∙ ap (λ (n : ℕ). (weight w x + n - weight v z) / 2) (number y (away x l q))
      ∙ ap (λ (n : ℕ). (weight w x + weight w y - n) / 2) (number z (away y (t.label x l) (away x l q)))
    where
      y : ℤ
      y = next here x

      z : ℤ
      z = previous here x

  -- a strand whose edge is apart from the flipped edge, and that enters a triangle apart from the two
  pub step_apart : (q : State) → IsLabel here q.label → edge_of q.label ≢ edge_of e
      → IsApartFrom e f a b c d (inverse q.label) → strand_step there v q ≡ strand_step here w q
  step_apart q l off away_x =
      ap (λ (n : ℕ). turn (next there x) (previous there x) (weight v x) (weight v (previous there x))
      (corner_count there v (previous there x)) (n - 1 - q.place)) (numbers q.label off)
      ∙ ap (λ (n : ℕ). turn (next there x) (previous there x) n (weight v (previous there x))
      (corner_count there v (previous there x)) i) (number x away_x)
      ∙ ap (λ (y : ℤ). turn y (previous there x) (weight w x) (weight v (previous there x))
      (corner_count there v (previous there x)) i) (others x lx away_x)
      ∙ ap (λ (u : ℤ). turn y u (weight w x) (weight v u) (corner_count there v u) i) (apart_previous x lx away_x)
      ∙ ap (λ (n : ℕ). turn y z (weight w x) n (corner_count there v z) i) (number z away_z)
      ∙ ap (λ (n : ℕ). turn y z (weight w x) (weight w z) n i) (apart_corner z lz away_z)
    where
      turn : ℤ → ℤ → ℕ → ℕ → ℕ → ℕ → State
      turn y z n m k i = cond (leb k i) (state_at y (n - 1 - i)) (state_at z (m - 1 - i))

      x : ℤ
      x = inverse q.label

      y : ℤ
      y = next here (inverse q.label)

      z : ℤ
      z = previous here (inverse q.label)

      i : ℕ
      i = weight w q.label - 1 - q.place

      lx : IsLabel here (inverse q.label)
      lx = laws.labels.label here q.label l

      lz : IsLabel here (previous here (inverse q.label))
      lz = t.label y (t.label x lx)

      away_z : IsApartFrom e f a b c d (previous here (inverse q.label))
      away_z = away y (t.label x lx) (away x lx away_x)
