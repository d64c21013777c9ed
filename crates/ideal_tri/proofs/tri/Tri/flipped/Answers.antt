use Rattle.std.proofs.Common.{◌≡◌, ◌<◌, ◌*◌, ◌∙◌, ap, [], ◌∷◌, ℕ, ℤ, List, length, take}
use Rattle.ideal_tri.specs.Labels.{inverse}
use Rattle.ideal_tri.specs.Triangulations.{triangle_of, next, previous, IsLabel}
use Rattle.ideal_tri.specs.Flips.{IsFlippable}
use Rattle.ideal_tri.specs.inside.Places.{with_places}
use Rattle.ideal_tri.proofs.FlippedLayout.{HoldFlip, first_of, second_of, fields_read}
use Rattle.ideal_tri.proofs.tri.Tri.flipped.Goals as goal

-- the fields that are written hold the flip
written : (c : goal.After-write_places-2)
    → HoldFlip c.self.inside.count c.self.inside.sides c.args.e c.place.result.0 c.place-2.result.0
    (c.args.e ∷ (c.next-d.result ∷ (c.next-a.result ∷ [])))
    (c.inverse-back.result ∷ (c.next-b.result ∷ (c.next-c.result ∷ []))) c.write_places-2.new.place
written c =
    let ts : List (List ℤ) = take c.self.inside.count c.self.inside.sides in
    let back : c.inverse-back.result ≡ inverse c.args.e = c.inverse-back.ensures in
    let a : c.next-a.result ≡ next ts c.args.e = rw c.self.view_is c.next-a.ensures.next in
    let d : c.next-c.result ≡ next ts c.inverse-back.result = rw c.self.view_is c.next-c.ensures.next in
    let third : c.next-b.result ≡ next ts c.next-a.result = rw c.self.view_is c.next-b.ensures.next in
    let fourth : c.next-d.result ≡ next ts c.next-c.result = rw c.self.view_is c.next-d.ensures.next in
    let c_is : c.next-c.result ≡ next ts (inverse c.args.e) = d ∙ ap (next ts) back in
    let b_is : c.next-b.result ≡ previous ts c.args.e = third ∙ ap (next ts) a in
    let d_is : c.next-d.result ≡ previous ts (inverse c.args.e) = fourth ∙ ap (next ts) c_is in
    let s : c.place.result.0 ≡ triangle_of ts c.args.e = rw c.self.view_is c.place.ensures.triangle in
    let t : c.place-2.result.0 ≡ triangle_of ts c.inverse-back.result = rw c.self.view_is c.place-2.ensures.triangle in
    let s_in : c.place.result.0 < length ts = rw c.self.view_is c.place.ensures.within.0 in
    let t_in : c.place-2.result.0 < length ts = rw c.self.view_is c.place-2.ensures.within.0 in
    let label : IsLabel ts c.args.e = rw c.self.view_is c.requires.label in
    let flippable : IsFlippable ts c.args.e = rw c.self.view_is c.requires.flippable in
    let first : ◌≡◌ {A = List ℤ} (c.args.e ∷ (c.next-d.result ∷ (c.next-a.result ∷ []))) (first_of ts c.args.e) =
    ap (λ (z : ℤ). c.args.e ∷ (z ∷ (c.next-a.result ∷ []))) d_is
    ∙ ap (λ (z : ℤ). c.args.e ∷ (previous ts (inverse c.args.e) ∷ (z ∷ []))) a in
    let second : ◌≡◌ {A = List ℤ} (c.inverse-back.result ∷ (c.next-b.result ∷ (c.next-c.result ∷ [])))
    (second_of ts c.args.e) =
    ap (λ (z : ℤ). z ∷ (c.next-b.result ∷ (c.next-c.result ∷ []))) back
    ∙ ap (λ (z : ℤ). inverse c.args.e ∷ (z ∷ (c.next-c.result ∷ []))) b_is
    ∙ ap (λ (z : ℤ). inverse c.args.e ∷ (previous ts c.args.e ∷ (z ∷ []))) c_is in
    fields_read c.self.inside.count c.self.inside.sides c.self.inside.place c.args.e c.place.result.0 c.place-2.result.0
    (c.args.e ∷ (c.next-d.result ∷ (c.next-a.result ∷ [])))
    (c.inverse-back.result ∷ (c.next-b.result ∷ (c.next-c.result ∷ [])))
    c.write_places-2.new.place c.self.invariant label flippable s (t ∙ ap (triangle_of ts) back) s_in t_in first second
    (c.write_places-2.ensures
    ∙ ap
    (λ (z : List ℕ). with_places z (3 * c.place-2.result.0)
    (c.inverse-back.result ∷ (c.next-b.result ∷ (c.next-c.result ∷ []))))
    c.write_places.ensures)

pub invariant_of-result : goal.invariant_of-result
invariant_of-result c = (written c).0

pub returns : goal.returns
returns c = rw (← c.self.view_is) (written c).1
