-- Triples that pass all tests are a triangulation, and the fields that are made of them hold it.
use Rattle.std.proofs.Common.{ℕ, ℤ, List, ◌++◌, ◌≡◌, ◌≤◌, ◌+◌, ◌-◌, refl, sym, ◌∙◌, ap, subst, arith, length, take}
use Rattle.std.proofs.Common.{drop, length-append}
use Rattle.std.proofs.lemmas.List.{take_at, drop_at}
use Rattle.ideal_tri.specs.declared.tri.TheConstants.{TRIANGLES}
use Rattle.ideal_tri.specs.Triangulations.{IsTriangulation}
use Rattle.ideal_tri.specs.inside.Places.{spare_triples, IsGlued, IsLaidOut}
use Rattle.ideal_tri.proofs.Places.{small_size, length-spare_triples}
use Rattle.ideal_tri.proofs.Counting.{AreAllLabels, label_counts}
use Rattle.ideal_tri.proofs.Sides.{all_there}

pub triangulation : (ts : List (List ℤ)) (places : List ℕ) → IsGlued ts places → IsTriangulation ts
triangulation ts places h =
    let all : AreAllLabels ts = all_there ts places h in
    record {
      some = h.size.some;
      three_sides = h.three_sides;
      edges = all.even;
      labels = label_counts ts all;
    }

pub view_again : (ts sides : List (List ℤ)) → sides ≡ ts ++ spare_triples (TRIANGLES - length ts)
    → take (length ts) sides ≡ ts
view_again ts sides e = ap (take (length ts)) e ∙ take_at ts (spare_triples (TRIANGLES - length ts)) (length ts) refl

pub laid_out : (ts sides : List (List ℤ)) (places : List ℕ) → IsGlued ts places → IsTriangulation ts
    → sides ≡ ts ++ spare_triples (TRIANGLES - length ts)
    → IsLaidOut (length ts) sides places
laid_out ts sides places h sound e =
    let fits : length ts ≤ TRIANGLES = small_size ts h.size in
    let again : ts ≡ take (length ts) sides = sym (view_again ts sides e) in
    record {
      fits = fits;
      room =
          ap length e ∙ length-append ts (spare_triples (TRIANGLES - length ts))
          ∙ ap (λ (n : ℕ). length ts + n) (length-spare_triples (TRIANGLES - length ts))
          ∙ omega arith;
      spare = ap (drop (length ts)) e ∙ drop_at ts (spare_triples (TRIANGLES - length ts)) (length ts) refl;
      glued = subst (λ (z : List (List ℤ)). IsGlued z places) again h;
      sound = subst IsTriangulation again sound;
    }
