-- The test of legal walks, neighbour by neighbour.
use Rattle.std.proofs.Common.{ℕ, zero, suc, ℤ, pos, true, false, List, [], ◌∷◌, ◌≡◌, ◌<◌, ◌≤◌, ◌+◌, refl, sym, ◌∙◌, ap}
use Rattle.std.proofs.Common.{arith, length, get_or}
use Rattle.std.specs.List.{All}
use Rattle.std.proofs.lemmas.Bool.{true≢false}
use Rattle.std.proofs.lemmas.List.{get_or_default}
use Rattle.std.proofs.lemmas.List.Elements.{All-nil, All-cons, All-head, All-tail}
use Rattle.ideal_tri.specs.LabelLaws.{LabelLaws}
use Rattle.ideal_tri.specs.SurfaceLaws.{TriangleLaws}
use Rattle.ideal_tri.specs.Labels.{inverse}
use Rattle.ideal_tri.specs.Triangulations.{IsLabel, IsWalk, triangle_of}
use Rattle.train_track.specs.Tracks.{IsLegal}
use Rattle.train_track.specs.inside.Growing.{is_legal_pair}
use Rattle.train_track.proofs.Turns.{turn}
use Rattle.train_track.proofs.Grown.{legal_turn}
use Rattle.train_track.proofs.Listed.{turn_from_test, test_from_turn}

pub walk_labels : (ts : List (List ℤ)) (s : ℕ) (w : List ℤ) (t : ℕ) → IsWalk ts s w t → All (IsLabel ts) w
walk_labels ts s [] t h = All-nil (IsLabel ts)
walk_labels ts s (x ∷ w) t h = All-cons (IsLabel ts) x w h.0 (walk_labels ts (triangle_of ts (inverse x)) w t h.2)

module _ (ts : List (List ℤ)) (out : List ℤ) (labels : LabelLaws) (triangles : TriangleLaws ts) where
  pub legal_from : (w : List ℤ) (n : ℕ) → All (IsLabel ts) w → length w ≤ n
      → ((k j : ℕ) → j ≡ k + 1 → j < n → is_legal_pair ts out (get_or w k (pos 0)) (get_or w j (pos 0)) ≡ true)
      → IsLegal ts out w
  legal_from [] n are all h = tt
  legal_from (x ∷ []) n are all h = tt
  legal_from (x ∷ (y ∷ w)) zero are all h = absurd (omega arith)
  legal_from (x ∷ (y ∷ w)) (suc n) are all h =
      let l : IsLabel ts x = All-head (IsLabel ts) x (y ∷ w) are in
      let rest : All (IsLabel ts) (y ∷ w) = All-tail (IsLabel ts) x (y ∷ w) are in (
        legal_turn ts out labels triangles x y l
            (turn_from_test ts out labels triangles x y (All-head (IsLabel ts) y w rest) (h 0 1 refl (omega arith))),
        legal_from (y ∷ w) n rest (omega arith) (λ k j e less. h (suc k) (suc j) (omega arith) (omega arith)),
      )

  pub legal_at : (w : List ℤ) (k j : ℕ) → All (IsLabel ts) w → IsLegal ts out w → j ≡ k + 1 → j < length w
      → is_legal_pair ts out (get_or w k (pos 0)) (get_or w j (pos 0)) ≡ true
  legal_at [] k j are h e less = absurd (omega arith)
  legal_at (x ∷ []) k j are h e less = absurd (omega arith)
  legal_at (x ∷ (y ∷ w)) zero zero are h e less = absurd (omega arith)
  legal_at (x ∷ (y ∷ w)) zero (suc zero) are h e less =
      test_from_turn ts out labels triangles x y (All-head (IsLabel ts) x (y ∷ w) are)
      (turn ts out labels triangles x y (All-head (IsLabel ts) y w (All-tail (IsLabel ts) x (y ∷ w) are)) h.0)
  legal_at (x ∷ (y ∷ w)) zero (suc (suc j)) are h e less = absurd (omega arith)
  legal_at (x ∷ (y ∷ w)) (suc k) zero are h e less = absurd (omega arith)
  legal_at (x ∷ (y ∷ w)) (suc k) (suc j) are h e less =
      legal_at (y ∷ w) k j (All-tail (IsLabel ts) x (y ∷ w) are) h.1 (omega arith) (omega arith)

  pub not_legal : (w : List ℤ) (k j : ℕ) (u v : ℤ) → All (IsLabel ts) w → j ≡ k + 1 → j < length w → u ≡ get_or w k u
      → v ≡ get_or w j v
      → is_legal_pair ts out u v ≡ false → ¬ IsLegal ts out w
  not_legal w k j u v are e less is_u is_v fails legal =
      true≢false
      (sym (legal_at w k j are legal e less)
      ∙ ap (λ (x : ℤ). is_legal_pair ts out x (get_or w j (pos 0)))
      (sym (is_u ∙ get_or_default w k u (pos 0) (omega arith)))
      ∙ ap (is_legal_pair ts out u) (sym (is_v ∙ get_or_default w j v (pos 0) less))
      ∙ fails)
