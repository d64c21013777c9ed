-- The sides of a triangle in order are its labels, and no others.
use Rattle.std.proofs.Common.{ℕ, ℤ, pos, negsuc, List, [], ◌∷◌, ◌≡◌, ◌<◌, inl, inr, sym, ap, subst, arith, nat_eq}
use Rattle.std.specs.List.{Contains, range_with_len}
use Rattle.std.proofs.lemmas.Bool.{eq-eqb, eqb-true}
use Rattle.ideal_tri.specs.Labels.{edge_of}
use Rattle.ideal_tri.specs.Triangulations.{IsLabel, edge_count, triangle_of}
use Rattle.free_groupoid.specs.TestWalks.{label_order, sides_in_order}
use Rattle.free_groupoid.proofs.Members.{member_here, member_later, member_cases, no_member, member_filter}
use Rattle.free_groupoid.proofs.Members.{filter_member, member_range, range_member, member_flat_map, flat_map_member}

abbrev both_labels : ℕ → List ℤ
both_labels e = pos e ∷ (negsuc e ∷ [])

label_among : (x : ℤ) → Contains (both_labels (edge_of x)) x
label_among (pos n) = member_here (pos n) (negsuc n ∷ [])
label_among (negsuc n) = member_later (pos n) (negsuc n ∷ []) (negsuc n) (member_here (negsuc n) [])

edge_of_both : (e : ℕ) (x : ℤ) → Contains (both_labels e) x → edge_of x ≡ e
edge_of_both e x h =
    elim (member_cases (pos e) (negsuc e ∷ []) x h) [
      | inl first ↦ ap edge_of (sym first)
      | inr later ↦
          elim (member_cases (negsuc e) [] x later) [
            | inl second ↦ ap edge_of (sym second)
            | inr none ↦ absurd (no_member x none)
          ]
    ]

label_in_order : (triples : List (List ℤ)) (x : ℤ) → IsLabel triples x → Contains (label_order triples) x
label_in_order triples x label =
    member_flat_map both_labels (range_with_len 0 (edge_count triples)) (edge_of x) x
    (member_range 0 (edge_count triples) (edge_of x) (omega arith) (omega arith)) (label_among x)

in_order_label : (triples : List (List ℤ)) (x : ℤ) → Contains (label_order triples) x → IsLabel triples x
in_order_label triples x h =
    let (e, within, at) = flat_map_member both_labels (range_with_len 0 (edge_count triples)) x h in
    let below : e < edge_count triples = omega (arith, (range_member 0 (edge_count triples) e within).1) in
    subst (λ (i : ℕ). i < edge_count triples) (sym (edge_of_both e x at)) below

pub side_in_order : (triples : List (List ℤ)) (t : ℕ) (x : ℤ) → IsLabel triples x → triangle_of triples x ≡ t
    → Contains (sides_in_order triples t) x
side_in_order triples t x label at =
    member_filter (λ y. nat_eq (triangle_of triples y) t) (label_order triples) x (label_in_order triples x label)
    (eq-eqb (triangle_of triples x) t at)

pub in_order_side : (triples : List (List ℤ)) (t : ℕ) (x : ℤ) → Contains (sides_in_order triples t) x
    → IsLabel triples x × (triangle_of triples x ≡ t)
in_order_side triples t x h =
    let kept = filter_member (λ y. nat_eq (triangle_of triples y) t) (label_order triples) x h in
    (in_order_label triples x kept.0, eqb-true (triangle_of triples x) t kept.1)
