-- The order of labels: 0, -1, 1, -2 and so on.
use Rattle.std.proofs.Common.{ℕ, ℤ, pos, negsuc, Bool, cond, eqb, ◌≡◌, ◌≢◌, ◌<◌, ◌+◌, ◌*◌, ◌/◌, ◌%◌, inl, inr, sym, ◌∙◌, ap, arith}
use Rattle.std.proofs.lemmas.Bool.Decides.{eqb_tells}
use Rattle.ideal_tri.specs.Labels.{edge_of}
use Rattle.ideal_tri.specs.LabelLaws.{OrderLaws}
use Rattle.ideal_tri.specs.Vertices.{rank, label_of_rank}

pub rank-label_of_rank : (k : ℕ) → rank (label_of_rank k) ≡ k
rank-label_of_rank k =
    elim (eqb_tells (k % 2) 0) [
      | inl h ↦
          (let even : k % 2 ≡ 0 = h.1 in
          ap (λ (b : Bool). rank (cond b (pos (k / 2)) (negsuc (k / 2)))) h.0 ∙ omega arith)
      | inr h ↦
          (let odd : k % 2 ≢ 0 = h.1 in
          ap (λ (b : Bool). rank (cond b (pos (k / 2)) (negsuc (k / 2)))) h.0 ∙ omega arith)
    ]

pub label_of_rank-rank : (x : ℤ) → label_of_rank (rank x) ≡ x
label_of_rank-rank (pos n) =
    let even : (2 * n) % 2 ≡ 0 = omega arith in
    ap (λ (m : ℕ). cond (eqb m 0) (pos (2 * n / 2)) (negsuc (2 * n / 2))) even ∙ ap pos (omega arith)
label_of_rank-rank (negsuc n) =
    let odd : (2 * n + 1) % 2 ≡ 1 = omega arith in
    ap (λ (m : ℕ). cond (eqb m 0) (pos ((2 * n + 1) / 2)) (negsuc ((2 * n + 1) / 2))) odd ∙ ap negsuc (omega arith)

pub rank-injective : (x y : ℤ) → rank x ≡ rank y → x ≡ y
rank-injective x y e = sym (label_of_rank-rank x) ∙ ap label_of_rank e ∙ label_of_rank-rank y

pub rank_below : (x : ℤ) (n : ℕ) → edge_of x < n → rank x < 2 * n
rank_below (pos m) n h = omega arith
rank_below (negsuc m) n h = omega arith

pub edge_below : (x : ℤ) (n : ℕ) → rank x < 2 * n → edge_of x < n
edge_below (pos m) n h = omega arith
edge_below (negsuc m) n h = omega arith

pub label_below : (k n : ℕ) → k < 2 * n → edge_of (label_of_rank k) < n
label_below k n h = edge_below (label_of_rank k) n (omega (arith, rank-label_of_rank k))

pub order_laws : OrderLaws
order_laws = record {
  rank_of = rank-label_of_rank;
  label_of = label_of_rank-rank;
  one = rank-injective;
  rank_below = rank_below;
  edge_below = edge_below;
}
