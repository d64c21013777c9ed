-- Generators with flips and a relabelling that have no fault: they are made, behind the others.
use Rattle.std.proofs.Common.{◌≡◌, ◌∙◌, sym, ap, subst, ℕ, ℤ, List, [], ◌∷◌, ◌++◌, Ok, Err}
use Rattle.ideal_tri.specs.HitLaws.{HitLaws}
use Rattle.ideal_tri.specs.Relabellings.{IsRelabelling}
use Rattle.relabel.specs.declared.relabelling.RelabelError.TheVariants.{WrongLength as WrongImages}
use Rattle.relabel.specs.declared.relabelling.RelabelError.TheVariants.{NotLabel as NoLabel}
use Rattle.relabel.specs.declared.relabelling.RelabelError.TheVariants.{NotBijective as NoBijection}
use Rattle.relabel.specs.declared.relabelling.RelabelError.TheVariants.{BreaksTriangle as Breaks}
use Rattle.tri_atlas.specs.Moves.{Move}
use Rattle.surface_lib.specs.Described.{Described, NamedMoves}
use Rattle.surface_lib.specs.FlipsForms.{Flipped, flips_in, IsFaultOfImages, IsClosedBy}
use Rattle.surface_lib.specs.inside.ClosedForms.{IsClosedForm, with_generator}
use Rattle.surface_lib.specs.inside.Faults.{IsFault}
use Rattle.surface_lib.specs.declared.refused.Refused.{Refused}
use Rattle.surface_lib.specs.declared.refused.Refused.TheVariants.{Fault}
use Rattle.surface_lib.specs.declared.surface_error.GeneratorFault.{GeneratorFault}
use Rattle.surface_lib.specs.declared.surface_error.GeneratorFault.TheVariants.{WrongLength, NotLabel}
use Rattle.surface_lib.specs.declared.surface_error.GeneratorFault.TheVariants.{NotBijective}
use Rattle.surface_lib.specs.declared.surface_error.GeneratorFault.TheVariants.{BreaksTriangle}
use Rattle.surface_lib.proofs.TestedRelabellings.{no_refusal}

no_fault_of_images : HitLaws → (from to : List (List ℤ)) (images : List ℤ) → IsRelabelling from to images
    → (fault : GeneratorFault) → IsFaultOfImages from to images fault → ⊥
no_fault_of_images laws from to images r (WrongLength n) h = no_refusal from to images laws r (WrongImages n) h
no_fault_of_images laws from to images r (NotLabel i) h = no_refusal from to images laws r (NoLabel i) h
no_fault_of_images laws from to images r (NotBijective e) h = no_refusal from to images laws r (NoBijection e) h
no_fault_of_images laws from to images r (BreaksTriangle t) h = no_refusal from to images laws r (Breaks t) h
no_fault_of_images laws from to images r fault h = h

-- the flips of a form are those that were made
pub one_flipped : (base : List (List ℤ)) (edges : List ℤ) (f g : Flipped) → flips_in base edges ≡ Ok f
    → flips_in base edges ≡ Ok g → f ≡ g
one_flipped base edges f g is other =
    let e : Ok f ≡ Ok g = sym is ∙ other in
    cc

pub no_fault : HitLaws → (base other : List (List ℤ)) (edges images : List ℤ) (f : Flipped) (refused : Refused)
    (fault : GeneratorFault) → IsClosedForm base edges images → flips_in base edges ≡ Ok f → other ≡ base
    → IsFault (λ z. IsClosedBy other images f (Err z)) refused → refused ≡ Fault fault → ⊥
no_fault laws base other edges images f refused fault form made same h is =
    let flips : form.flips ≡ f = one_flipped base edges form.flips f form.flipped made in
    let faulty : IsFaultOfImages f.reached other images fault =
    subst (λ (r : Refused). IsFault (λ z. IsClosedBy other images f (Err z)) r) is h in
    no_fault_of_images laws form.flips.reached base images form.relabelling fault
    (subst (λ (g : Flipped). IsFaultOfImages g.reached base images fault) (sym flips)
    (subst (λ (b : List (List ℤ)). IsFaultOfImages f.reached b images fault) same faulty))

-- ---- one more generator

pub with_one_more : (before : Described) (name : List ℕ) (triangles : List (List ℤ)) (kept generators : List NamedMoves)
    (spelt : List ℕ) (made moves : List Move) → name ≡ before.name → triangles ≡ before.triangles
    → kept ≡ before.generators → generators ≡ kept ++ record { spelt = spelt; moves = made } ∷ [] → made ≡ moves
    → record { name = name; triangles = triangles; generators = generators } ≡ with_generator before spelt moves
with_one_more before name triangles kept generators spelt made moves names same old behind is =
    ap (λ (n : List ℕ). record { name = n; triangles = triangles; generators = generators }) names
    ∙ ap (λ (ts : List (List ℤ)). record { name = before.name; triangles = ts; generators = generators }) same
    ∙ ap (λ (gs : List NamedMoves). record { name = before.name; triangles = before.triangles; generators = gs })
    (behind ∙ ap (λ (gs : List NamedMoves). gs ++ record { spelt = spelt; moves = made } ∷ []) old
    ∙ ap (λ (ms : List Move). before.generators ++ record { spelt = spelt; moves = ms } ∷ []) is)
